use Rattle.std.proofs.Common.{◌-◌, ◌≤◌}
use Rattle.segment_verify.specs.Rises.{HasPassed}
use Rattle.segment_verify.proofs.book_settle.make_passes.Given as goal

abbrev pub invariant-passes : goal.invariant-passes
invariant-passes g l = HasPassed g.M.Machine.kit l.initial.book l.book l.count × (l.count ≤ l.most) × (l.initial.steps ≤ l.steps)

abbrev pub decreases-passes : goal.decreases-passes
decreases-passes g l = l.most - l.count
