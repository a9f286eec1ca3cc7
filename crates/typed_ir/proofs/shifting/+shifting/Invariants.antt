-- Shifting goes down the nesting; lists of statements and arms stand between a statement and those in it.
use Rattle.std.proofs.Common.{◌≡◌, ◌++◌, ◌+◌, ◌*◌, max, map, drop}
use Rattle.typed_ir.specs.Stmts.{SizedArms}
use Rattle.typed_ir.specs.Shifts.{shifted_stmt, shifted_arms}
use Rattle.typed_ir.specs.Statements.{stmt_of, arm_of}
use Rattle.typed_ir.proofs.stmt.Stmt.TheLaws.{the_size}
use Rattle.typed_ir.proofs.Shifted.{onto}
use Rattle.typed_ir.proofs.shifting.+shifting.Given as goal

abbrev pub decreases-shifted_stmt : goal.decreases-shifted_stmt
decreases-shifted_stmt l = 3 * goal.size-shifted_stmt l

abbrev pub decreases-shifted_stmts : goal.decreases-shifted_stmts
decreases-shifted_stmts l = 3 * goal.size-shifted_stmts l + 1

abbrev pub decreases-shifted_arms : goal.decreases-shifted_arms
decreases-shifted_arms l = 3 * goal.size-shifted_arms l + 1

abbrev pub decreases-shifted_if : goal.decreases-shifted_if
decreases-shifted_if l = 3 * max (the_size l.consequent.now) (the_size l.alternative.now) + 1

abbrev pub decreases-shifted_case : goal.decreases-shifted_case
decreases-shifted_case l = 3 * max (goal.size-shifted_case l) (the_size l.otherwise.now) + 2

abbrev pub invariant-shifted_stmts-loop-st : goal.invariant-shifted_stmts-loop-st
invariant-shifted_stmts-loop-st l =
    map stmt_of l.copies.items ++ map (shifted_stmt l.first) (map stmt_of (drop l.st-index l.list)) ≡ map (shifted_stmt l.first) (map stmt_of l.list)

abbrev pub invariant-shifted_arms-loop-arm : goal.invariant-shifted_arms-loop-arm
invariant-shifted_arms-loop-arm l = (rest : SizedArms)
    → onto (map arm_of l.copies.items) (shifted_arms l.first (onto (map arm_of (drop l.arm-index l.arms)) rest))
    ≡ shifted_arms l.first (onto (map arm_of l.arms) rest)
