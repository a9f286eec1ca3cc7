use Rattle.std.proofs.Common.{◌-◌, length}
use Rattle.machine.proofs.Runs.{Copied}
use Rattle.machine.proofs.row_runs.share_between.Given as goal

abbrev pub invariant-loop-at : goal.invariant-loop-at
invariant-loop-at g l = Copied l.a l.b l.start l.index l.at l.runs l.part.items

abbrev pub decreases-loop-at : goal.decreases-loop-at
decreases-loop-at g l = length l.runs - l.index
