-- The walk goes down the nesting; lists of statements and items stand between a statement and those in it.
use Rattle.std.proofs.Common.{◌≡◌, ◌+◌, ◌*◌, max, false, map, drop}
use Rattle.verilog_ast.proofs.statement.Stmt.TheLaws.{the_size}
use Rattle.verilog_ast.specs.Views.{statement_of, arm_of, statements_of}
use Rattle.width_rules.specs.Entries.{scope_of}
use Rattle.statement_rules.specs.Statements.{item_faults, arm_faults}
use Rattle.statement_rules.proofs.checking.+check.Given as goal

abbrev pub decreases-check : goal.decreases-check
decreases-check l = 4 * goal.size-check l

abbrev pub decreases-check_both : goal.decreases-check_both
decreases-check_both l = 4 * max (the_size l.x.now) (the_size l.y.now) + 1

abbrev pub decreases-check_all : goal.decreases-check_all
decreases-check_all l = 4 * goal.size-check_all l + 1

abbrev pub decreases-check_arm : goal.decreases-check_arm
decreases-check_arm l = 4 * goal.size-check_arm l + 1

abbrev pub decreases-check_arms : goal.decreases-check_arms
decreases-check_arms l = 4 * goal.size-check_arms l + 2

abbrev pub invariant-check_all-loop-st : goal.invariant-check_all-loop-st
invariant-check_all-loop-st l =
    item_faults (scope_of l.scope) l.by (statements_of (map statement_of (drop l.st-index l.list))) ≡ item_faults (scope_of l.scope) l.by (statements_of (map statement_of l.list))

abbrev pub invariant-check_arms-loop-arm : goal.invariant-check_arms-loop-arm
invariant-check_arms-loop-arm l =
    arm_faults (scope_of l.scope) l.by l.seen (statements_of (map arm_of (drop l.arm-index l.arms))) ≡ arm_faults (scope_of l.scope) l.by false (statements_of (map arm_of l.arms))
