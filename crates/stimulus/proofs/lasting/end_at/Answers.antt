use Rattle.std.proofs.Common.{◌-◌, arith}
use Rattle.stimulus.proofs.Joined.{set_last}
use Rattle.stimulus.proofs.lasting.end_at.Goals as goal

pub returns-then-count-gt0 : goal.returns-then-count-gt0
returns-then-count-gt0 c =
    set_last c.args.runs.now.items (c.len-count.result - 1) c.index_mut.result.now c.args.cycle (omega (arith, c.len-count.ensures, c.if-count-gt0.true)) c.index_mut.ensures.value
