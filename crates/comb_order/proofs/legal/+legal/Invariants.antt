-- The walk goes down the nesting; lists of statements and arms stand between a statement and those in it.
use Rattle.std.proofs.Common.{◌≡◌, ◌+◌, ◌*◌, max, map, drop}
use Rattle.typed_ir.specs.Stmts.{is_legal, are_legal_arms}
use Rattle.typed_ir.specs.Views.{widths}
use Rattle.typed_ir.specs.Statements.{stmt_of, arm_of, sequence_of, arms_before}
use Rattle.typed_ir.proofs.stmt.Stmt.TheLaws.{the_size}
use Rattle.comb_order.proofs.legal.+legal.Given as goal

abbrev pub decreases-is_legal : goal.decreases-is_legal
decreases-is_legal l = 2 * goal.size-is_legal l

abbrev pub decreases-all_legal : goal.decreases-all_legal
decreases-all_legal l = 2 * goal.size-all_legal l + 1

abbrev pub decreases-arms_legal : goal.decreases-arms_legal
decreases-arms_legal l = 2 * max (goal.size-arms_legal l) (the_size l.otherwise.now) + 1

abbrev pub invariant-all_legal-loop-st : goal.invariant-all_legal-loop-st
invariant-all_legal-loop-st l = is_legal (sequence_of (map stmt_of (drop l.st-index l.list))) (widths l.env)
    ≡ is_legal (sequence_of (map stmt_of l.list)) (widths l.env)

abbrev pub invariant-arms_legal-loop-arm : goal.invariant-arms_legal-loop-arm
invariant-arms_legal-loop-arm l = are_legal_arms (arms_before (map arm_of (drop l.arm-index l.arms)) (stmt_of l.otherwise)) (widths l.env)
    ≡ are_legal_arms (arms_before (map arm_of l.arms) (stmt_of l.otherwise)) (widths l.env)
