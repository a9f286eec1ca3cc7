use Rattle.machine.proofs.Runs.{gapless_view}
use Rattle.machine.proofs.row_runs.RowRuns.runs.Goals as goal

pub returns-clause-gapless : goal.returns-clause-gapless
returns-clause-gapless g c = gapless_view _ _ _ _ _ c.deref.ensures.value c.self.view_is c.self.invariant
