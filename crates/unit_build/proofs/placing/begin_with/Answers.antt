use Rattle.std.proofs.Common.{arith}
use Rattle.unit_build.proofs.Marking.{begin_beyond}
use Rattle.unit_build.proofs.placing.begin_with.Goals as goal

pub returns-else-place-len : goal.returns-else-place-len
returns-else-place-len c =
    begin_beyond c.args.signals.now.items c.index-place.result c.args.initial.signal c.args.initial.value c.index-place.ensures (omega (arith, c.if-place-len.false, c.len.ensures))
