-- The walk goes down the nesting; lists of statements and items stand between a statement and those in it.
use Rattle.std.proofs.Common.{◌≡◌, ◌≤◌, ◌+◌, ◌*◌, ◌++◌, ◌&&◌, max, map, drop}
use Rattle.typed_ir.specs.Statements.{stmt_of}
use Rattle.verilog_ast.proofs.statement.Stmt.TheLaws.{the_size}
use Rattle.verilog_ast.specs.Views.{statement_of, arm_of, statements_of}
use Rattle.width_rules.specs.Entries.{scope_of}
use Rattle.statement_rules.specs.Cases.{arm_form, open_items, default_form, otherwise_or}
use Rattle.statement_rules.specs.Statements.{sized_statement, sized_default, items_length, items_signed, expression_faults}
use Rattle.statement_rules.proofs.statements.+statement.Given as goal

abbrev pub decreases-sized : goal.decreases-sized
decreases-sized l = 4 * goal.size-sized l

abbrev pub decreases-only_if : goal.decreases-only_if
decreases-only_if l = 4 * the_size l.x.now + 1

abbrev pub decreases-if_else : goal.decreases-if_else
decreases-if_else l = 4 * max (the_size l.x.now) (the_size l.y.now) + 1

abbrev pub decreases-block : goal.decreases-block
decreases-block l = 4 * goal.size-block l + 1

abbrev pub decreases-with_arm : goal.decreases-with_arm
decreases-with_arm l = 4 * goal.size-with_arm l + 1

abbrev pub decreases-all_items : goal.decreases-all_items
decreases-all_items l = 4 * goal.size-all_items l + 2

abbrev pub decreases-case : goal.decreases-case
decreases-case l = 4 * goal.size-case l + 3

abbrev pub invariant-block-loop-st : goal.invariant-block-loop-st
invariant-block-loop-st l = record {
  ahead : expression_faults (scope_of l.scope) (statements_of (map statement_of (drop l.st-index l.list))) ≡ expression_faults (scope_of l.scope) (statements_of (map statement_of l.list));
  kept : map stmt_of l.all.items ++ map (sized_statement (scope_of l.scope) l.by) (map statement_of (drop l.st-index l.list))
      ≡ map (sized_statement (scope_of l.scope) l.by) (map statement_of l.list);
}

abbrev pub invariant-all_items-loop-arm : goal.invariant-all_items-loop-arm
invariant-all_items-loop-arm l = record {
  ahead : expression_faults (scope_of l.scope) (statements_of (map arm_of (drop l.arm-index l.arms))) ≡ expression_faults (scope_of l.scope) (statements_of (map arm_of l.arms));
  kept : map arm_form l.items.0.items ++ open_items (scope_of l.scope) l.by (statements_of (map arm_of (drop l.arm-index l.arms)))
      ≡ open_items (scope_of l.scope) l.by (statements_of (map arm_of l.arms));
  few : l.items.1.0 ≤ 128;
  longest : max l.items.1.0 (items_length (scope_of l.scope) (statements_of (map arm_of (drop l.arm-index l.arms))))
      ≡ items_length (scope_of l.scope) (statements_of (map arm_of l.arms));
  signs : (l.items.1.1.0 && items_signed (scope_of l.scope) (statements_of (map arm_of (drop l.arm-index l.arms))))
      ≡ items_signed (scope_of l.scope) (statements_of (map arm_of l.arms));
  default : otherwise_or (default_form l.items.1.1.1.0) (sized_default (scope_of l.scope) l.by (statements_of (map arm_of (drop l.arm-index l.arms))))
      ≡ sized_default (scope_of l.scope) l.by (statements_of (map arm_of l.arms));
}
