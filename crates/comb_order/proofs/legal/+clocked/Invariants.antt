-- The walk goes down the nesting; lists of statements and arms stand between a statement and those in it.
use Rattle.std.proofs.Common.{◌≡◌, ◌+◌, ◌*◌, max, map, drop}
use Rattle.typed_ir.specs.Stmts.{is_clocked, are_clocked_arms}
use Rattle.typed_ir.specs.Statements.{stmt_of, arm_of, sequence_of, arms_before}
use Rattle.typed_ir.proofs.stmt.Stmt.TheLaws.{the_size}
use Rattle.comb_order.proofs.legal.+clocked.Given as goal

abbrev pub decreases-is_clocked : goal.decreases-is_clocked
decreases-is_clocked l = 2 * goal.size-is_clocked l

abbrev pub decreases-all_clocked : goal.decreases-all_clocked
decreases-all_clocked l = 2 * goal.size-all_clocked l + 1

abbrev pub decreases-arms_clocked : goal.decreases-arms_clocked
decreases-arms_clocked l = 2 * max (goal.size-arms_clocked l) (the_size l.otherwise.now) + 1

abbrev pub invariant-all_clocked-loop-st : goal.invariant-all_clocked-loop-st
invariant-all_clocked-loop-st l = is_clocked (sequence_of (map stmt_of (drop l.st-index l.list)))
    ≡ is_clocked (sequence_of (map stmt_of l.list))

abbrev pub invariant-arms_clocked-loop-arm : goal.invariant-arms_clocked-loop-arm
invariant-arms_clocked-loop-arm l = are_clocked_arms (arms_before (map arm_of (drop l.arm-index l.arms)) (stmt_of l.otherwise))
    ≡ are_clocked_arms (arms_before (map arm_of l.arms) (stmt_of l.otherwise))
