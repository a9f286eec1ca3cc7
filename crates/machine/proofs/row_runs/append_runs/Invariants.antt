use Rattle.std.proofs.Common.{take}
use Rattle.machine.specs.Rows.{IsWithRuns}
use Rattle.machine.proofs.row_runs.append_runs.Given as goal

abbrev pub invariant-loop-run : goal.invariant-loop-run
invariant-loop-run g l = IsWithRuns l.initial.list.items (take l.run-index l.runs) l.list.items
