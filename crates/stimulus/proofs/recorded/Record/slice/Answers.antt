use Rattle.std.proofs.Common.{◌+◌, List, ℕ, length, sym, subst}
use Rattle.machine.specs.declared.row_run.RowRun.{RowRun}
use Rattle.machine.specs.Rows.{IsGapless, expanded}
use Rattle.stimulus.proofs.Joined.{gapless_of}
use Rattle.stimulus.proofs.recorded.Record.slice.Goals as goal

pub share_between-requires-clause-gapless : goal.share_between-requires-clause-gapless
share_between-requires-clause-gapless c =
    let P : List (RowRun (List (ℕ × ℕ))) → Type 0 = λ rs. IsGapless 0 rs (0 + length (expanded rs)) in
    subst P (sym c.deref.ensures.value) (gapless_of 0 _ c.args.self.now.runs.items c.args.self.now.in_runs)
