-- The walk goes down the depth of an expression.
use Rattle.std.proofs.Common.{◌≡◌, ◌≤◌, ◌+◌, ◌*◌, ◌++◌, min, map, drop}
use Rattle.verilog_ast.specs.Views.{expression_of, parts_of}
use Rattle.width_rules.specs.Entries.{scope_of}
use Rattle.width_rules.specs.Sizes.{length}
use Rattle.statement_rules.specs.Leaves.{leaf_of, leaves}
use Rattle.unit_build.specs.Outputs.{target_at, part_faults}
use Rattle.unit_build.proofs.driving.+collect.Given as goal

abbrev pub decreases-collect : goal.decreases-collect
decreases-collect l = 2 * goal.size-collect l

abbrev pub decreases-collect_all : goal.decreases-collect_all
decreases-collect_all l = 2 * goal.size-collect_all l + 1

abbrev pub invariant-collect_all-loop-part : goal.invariant-collect_all-loop-part
invariant-collect_all-loop-part l = record {
  ahead : part_faults (scope_of l.scope) (parts_of (map expression_of (drop l.part-index l.list))) ≡ part_faults (scope_of l.scope) (parts_of (map expression_of l.list));
  wide : min (l.width + length (scope_of l.scope) (parts_of (map expression_of (drop l.part-index l.list)))) 255
      ≡ min (length (scope_of l.scope) (parts_of (map expression_of l.list))) 255;
  small : l.width ≤ 255;
  kept : map leaf_of l.parts.items ++ leaves (scope_of l.scope) (target_at (parts_of (map expression_of (drop l.part-index l.list))))
      ≡ map leaf_of l.initial.parts.items ++ leaves (scope_of l.scope) (target_at (parts_of (map expression_of l.list)));
}
