-- Laying out goes down the nesting; lists of statements and arms stand between a statement and those in it.
use Rattle.std.proofs.Common.{◌≡◌, ◌≤◌, ◌+◌, ◌*◌, ◌++◌, [], max, map, drop, length}
use Rattle.typed_ir.specs.Statements.{stmt_of, arm_of, sequence_of, arms_before}
use Rattle.typed_ir.proofs.stmt.Stmt.TheLaws.{the_size}
use Rattle.design_steps.specs.Statements.{stmt_code, arms_code}
use Rattle.design_steps.specs.Views.{plan_of}
use Rattle.design_steps.proofs.statements.+lay_nested.Given as goal

abbrev pub decreases-lay_statement : goal.decreases-lay_statement
decreases-lay_statement l = 3 * goal.size-lay_statement l

abbrev pub decreases-lay_sequence : goal.decreases-lay_sequence
decreases-lay_sequence l = 3 * goal.size-lay_sequence l + 2

abbrev pub decreases-lay_if : goal.decreases-lay_if
decreases-lay_if l = 3 * max (the_size l.consequent.now) (the_size l.alternative.now) + 2

abbrev pub decreases-lay_arm : goal.decreases-lay_arm
decreases-lay_arm l = 3 * goal.size-lay_arm l

abbrev pub decreases-lay_arms : goal.decreases-lay_arms
decreases-lay_arms l = 3 * max (goal.size-lay_arms l) (the_size l.otherwise.now) + 1

abbrev pub decreases-lay_case : goal.decreases-lay_case
decreases-lay_case l = 3 * max (goal.size-lay_case l) (the_size l.otherwise.now) + 2

abbrev pub invariant-lay_sequence-statements : goal.invariant-lay_sequence-statements
invariant-lay_sequence-statements l = record {
  none : l.first.items ≡ [];
  within : l.left ≤ length l.list;
  behind : l.steps.items ≡ stmt_code (plan_of l.layout) (sequence_of (map stmt_of (drop l.left l.list))) l.mark ++ l.fn.steps.items;
}

abbrev pub decreases-lay_sequence-statements : goal.decreases-lay_sequence-statements
decreases-lay_sequence-statements l = l.left

abbrev pub invariant-lay_arms-arms : goal.invariant-lay_arms-arms
invariant-lay_arms-arms l = record {
  none : l.first.items ≡ [];
  within : l.left ≤ length l.arms;
  start : length l.fn.steps.items ≡ l.end;
  behind : l.steps.items ≡ arms_code (plan_of l.layout) (arms_before (map arm_of (drop l.left l.arms)) (stmt_of l.otherwise)) l.here l.mark ++ l.fn.steps.items;
}

abbrev pub decreases-lay_arms-arms : goal.decreases-lay_arms-arms
decreases-lay_arms-arms l = l.left
