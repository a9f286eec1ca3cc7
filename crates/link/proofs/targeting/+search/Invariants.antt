-- The search goes down the nesting; lists of statements and arms stand between a statement and those in it.
use Rattle.std.proofs.Common.{◌≡◌, ◌+◌, ◌*◌, max, map, drop}
use Rattle.typed_ir.specs.Statements.{stmt_of, arm_of, sequence_of, arms_before}
use Rattle.typed_ir.specs.Stmts.{targets, arm_targets}
use Rattle.typed_ir.proofs.stmt.Stmt.TheLaws.{the_size}
use Rattle.link.specs.Searches.{searched}
use Rattle.link.proofs.targeting.+search.Given as goal

abbrev pub decreases-search : goal.decreases-search
decreases-search l = 2 * goal.size-search l

abbrev pub decreases-search_all : goal.decreases-search_all
decreases-search_all l = 2 * goal.size-search_all l + 1

abbrev pub decreases-search_arms : goal.decreases-search_arms
decreases-search_arms l = 2 * max (goal.size-search_arms l) (the_size l.otherwise.now) + 1

abbrev pub invariant-search_all-loop-st : goal.invariant-search_all-loop-st
invariant-search_all-loop-st l =
    searched (targets (sequence_of (map stmt_of (drop l.st-index l.list)))) l.left ≡ searched (targets (sequence_of (map stmt_of l.list))) l.skip

abbrev pub invariant-search_arms-loop-arm : goal.invariant-search_arms-loop-arm
invariant-search_arms-loop-arm l =
    searched (arm_targets (arms_before (map arm_of (drop l.arm-index l.arms)) (stmt_of l.otherwise))) l.left
    ≡ searched (arm_targets (arms_before (map arm_of l.arms) (stmt_of l.otherwise))) l.skip
