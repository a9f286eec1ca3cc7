use Rattle.machine.proofs.Runs.{gapless_whole}
use Rattle.machine.proofs.row_runs.RowRuns.part.Goals as goal

pub share_between-requires-clause-gapless : goal.share_between-requires-clause-gapless
share_between-requires-clause-gapless g c = gapless_whole _ _ _ _ c.deref.ensures.value c.self.invariant
