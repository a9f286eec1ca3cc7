-- The walk goes down the nesting; lists of statements and arms stand between a statement and those in it.
use Rattle.std.proofs.Common.{◌≤◌, ◌+◌, ◌*◌, max, map, drop, length}
use Rattle.typed_ir.specs.Statements.{stmt_of, arm_of, sequence_of, arms_before}
use Rattle.typed_ir.proofs.stmt.Stmt.TheLaws.{the_size}
use Rattle.design_steps.specs.Statements.{stmt_constants, arm_constants}
use Rattle.design_steps.specs.Pooled.{Holds}
use Rattle.design_steps.proofs.constant_walk.+pool_nested.Given as goal

abbrev pub decreases-pool_statement : goal.decreases-pool_statement
decreases-pool_statement l = 3 * goal.size-pool_statement l

abbrev pub decreases-pool_all : goal.decreases-pool_all
decreases-pool_all l = 3 * goal.size-pool_all l + 2

abbrev pub decreases-pool_sides : goal.decreases-pool_sides
decreases-pool_sides l = 3 * max (the_size l.a.now) (the_size l.b.now) + 1

abbrev pub decreases-pool_if : goal.decreases-pool_if
decreases-pool_if l = 3 * max (the_size l.a.now) (the_size l.b.now) + 2

abbrev pub decreases-pool_arm : goal.decreases-pool_arm
decreases-pool_arm l = 3 * goal.size-pool_arm l

abbrev pub decreases-pool_arms : goal.decreases-pool_arms
decreases-pool_arms l = 3 * max (goal.size-pool_arms l) (the_size l.otherwise.now) + 1

abbrev pub decreases-pool_case : goal.decreases-pool_case
decreases-pool_case l = 3 * max (goal.size-pool_case l) (the_size l.otherwise.now) + 2

abbrev pub invariant-pool_all-statements : goal.invariant-pool_all-statements
invariant-pool_all-statements l = record {
  within : l.left ≤ length l.list;
  holds : Holds l.fn.pool.keys l.pool.keys (stmt_constants (sequence_of (map stmt_of (drop l.left l.list))));
}

abbrev pub decreases-pool_all-statements : goal.decreases-pool_all-statements
decreases-pool_all-statements l = l.left

abbrev pub invariant-pool_arms-arms : goal.invariant-pool_arms-arms
invariant-pool_arms-arms l = record {
  within : l.left ≤ length l.arms;
  holds : Holds l.fn.pool.keys l.pool.keys (arm_constants (arms_before (map arm_of (drop l.left l.arms)) (stmt_of l.otherwise)));
}

abbrev pub decreases-pool_arms-arms : goal.decreases-pool_arms-arms
decreases-pool_arms-arms l = l.left
