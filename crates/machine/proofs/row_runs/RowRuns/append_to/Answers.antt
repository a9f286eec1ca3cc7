use Rattle.machine.proofs.Runs.{appended_rows, appended_gapless}
use Rattle.machine.proofs.row_runs.RowRuns.append_to.Goals as goal

pub returns-clause-rows : goal.returns-clause-rows
returns-clause-rows g c = appended_rows _ _ _ _ _ _ c.append_runs.result c.deref.ensures.value c.self.view_is c.append_runs.ensures.ok

pub returns-clause-gapless : goal.returns-clause-gapless
returns-clause-gapless g c = appended_gapless _ _ _ _ _ _ _ c.append_runs.result c.deref.ensures.value c.self.view_is c.self.invariant c.append_runs.ensures.ok
