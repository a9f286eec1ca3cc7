use Rattle.std.proofs.Common.{◌-◌, ◌≤◌, ◌<◌, length}
use Rattle.machine.specs.Rows.{begins_at}
use Rattle.machine.proofs.row_runs.run_at.Given as goal

abbrev pub invariant-loop-low : goal.invariant-loop-low
invariant-loop-low g l =
    (l.low < l.high) × (l.high ≤ length l.runs) × (begins_at l.start l.runs l.low ≤ l.cycle) × (l.cycle < begins_at l.start l.runs l.high)

abbrev pub decreases-loop-low : goal.decreases-loop-low
decreases-loop-low g l = l.high - l.low
