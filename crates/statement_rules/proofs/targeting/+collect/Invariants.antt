-- The walk goes down the depth of a target.
use Rattle.std.proofs.Common.{◌≡◌, ◌≤◌, ◌+◌, ◌*◌, ◌++◌, min, map, drop}
use Rattle.verilog_ast.specs.Views.{target_of, targets_of}
use Rattle.width_rules.specs.Entries.{scope_of}
use Rattle.statement_rules.specs.Leaves.{leaf_of, leaves}
use Rattle.statement_rules.specs.Targets.{target_length, target_faults}
use Rattle.statement_rules.proofs.targeting.+collect.Given as goal

abbrev pub decreases-collect : goal.decreases-collect
decreases-collect l = 2 * goal.size-collect l

abbrev pub decreases-collect_all : goal.decreases-collect_all
decreases-collect_all l = 2 * goal.size-collect_all l + 1

abbrev pub invariant-collect_all-loop-target : goal.invariant-collect_all-loop-target
invariant-collect_all-loop-target l = record {
  ahead : target_faults (scope_of l.scope) l.due (targets_of (map target_of (drop l.target-index l.list))) ≡ target_faults (scope_of l.scope) l.due (targets_of (map target_of l.list));
  wide : min (l.width + target_length (scope_of l.scope) (targets_of (map target_of (drop l.target-index l.list)))) 255 ≡ min (target_length (scope_of l.scope) (targets_of (map target_of l.list))) 255;
  small : l.width ≤ 255;
  kept : map leaf_of l.parts.items ++ leaves (scope_of l.scope) (targets_of (map target_of (drop l.target-index l.list)))
      ≡ map leaf_of l.initial.parts.items ++ leaves (scope_of l.scope) (targets_of (map target_of l.list));
}
