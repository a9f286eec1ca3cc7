-- The walk goes down the nesting; lists of statements and items stand between a statement and those in it.
use Rattle.std.proofs.Common.{◌≡◌, ◌+◌, ◌*◌, max, map, drop}
use Rattle.verilog_ast.proofs.statement.Stmt.TheLaws.{the_size}
use Rattle.verilog_ast.specs.Views.{statement_of, arm_of, statements_of}
use Rattle.width_rules.specs.Entries.{scope_of}
use Rattle.width_rules.specs.Forms.{first_target as target_in}
use Rattle.width_rules.proofs.forms.+target.Given as goal

abbrev pub decreases-first_target : goal.decreases-first_target
decreases-first_target l = 8 * the_size l.st.now

abbrev pub decreases-first_of_both : goal.decreases-first_of_both
decreases-first_of_both l = 8 * max (the_size l.x.now) (the_size l.y.now) + 1

abbrev pub decreases-first_of : goal.decreases-first_of
decreases-first_of l = 8 * goal.size-first_of l + 1

abbrev pub decreases-first_of_arm : goal.decreases-first_of_arm
decreases-first_of_arm l = 8 * goal.size-first_of_arm l + 1

abbrev pub decreases-first_of_arms : goal.decreases-first_of_arms
decreases-first_of_arms l = 8 * goal.size-first_of_arms l + 2

abbrev pub invariant-first_of-loop-st : goal.invariant-first_of-loop-st
invariant-first_of-loop-st l =
    target_in (scope_of l.scope) (statements_of (map statement_of (drop l.st-index l.statements))) ≡ target_in (scope_of l.scope) (statements_of (map statement_of l.statements))

abbrev pub invariant-first_of_arms-loop-arm : goal.invariant-first_of_arms-loop-arm
invariant-first_of_arms-loop-arm l =
    target_in (scope_of l.scope) (statements_of (map arm_of (drop l.arm-index l.arms))) ≡ target_in (scope_of l.scope) (statements_of (map arm_of l.arms))
