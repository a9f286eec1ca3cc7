use Rattle.std.proofs.Common.{◌≤◌, drop, length}
use Rattle.typed_ir.specs.Targets.{targets_of}
use Rattle.design_steps.specs.Statements.{target_constants}
use Rattle.design_steps.specs.Pooled.{Holds}
use Rattle.design_steps.proofs.constant_walk.pool_targets.Given as goal

abbrev pub invariant-targets : goal.invariant-targets
invariant-targets l = record {
  within : l.left ≤ length l.targets;
  holds : Holds l.fn.pool.keys l.pool.keys (target_constants (targets_of (drop l.left l.targets)));
}

abbrev pub decreases-targets : goal.decreases-targets
decreases-targets l = l.left
