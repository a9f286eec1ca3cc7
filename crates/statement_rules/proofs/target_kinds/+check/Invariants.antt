-- The walk goes down the depth of a target.
use Rattle.std.proofs.Common.{◌≡◌, ◌+◌, ◌*◌, map, drop}
use Rattle.verilog_ast.specs.Views.{target_of, targets_of}
use Rattle.width_rules.specs.Entries.{scope_of}
use Rattle.statement_rules.specs.Targets.{kind_faults}
use Rattle.statement_rules.proofs.target_kinds.+check.Given as goal

abbrev pub decreases-check_target : goal.decreases-check_target
decreases-check_target l = 2 * goal.size-check_target l

abbrev pub decreases-check_targets : goal.decreases-check_targets
decreases-check_targets l = 2 * goal.size-check_targets l + 1

abbrev pub invariant-check_targets-loop-target : goal.invariant-check_targets-loop-target
invariant-check_targets-loop-target l =
    kind_faults (scope_of l.scope) l.by (targets_of (map target_of (drop l.target-index l.list))) ≡ kind_faults (scope_of l.scope) l.by (targets_of (map target_of l.list))
