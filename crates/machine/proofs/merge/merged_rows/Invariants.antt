use Rattle.std.proofs.Common.{take}
use Rattle.machine.proofs.Runs.{HasRowsOf}
use Rattle.machine.proofs.merge.merged_rows.Given as goal

abbrev pub invariant-loop-run : goal.invariant-loop-run
invariant-loop-run g l = HasRowsOf (take l.run-index l.runs) l.merged.items
