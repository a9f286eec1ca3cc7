-- The walk goes down the nesting; a branch, and lists of statements and arms, stand between a statement and those in it.
use Rattle.std.proofs.Common.{◌≡◌, ◌+◌, ◌*◌, ◌++◌, ◌||◌, ◌&&◌, max, map, drop}
use Rattle.typed_ir.specs.Stmts.{known_after, known_after_arms}
use Rattle.typed_ir.specs.Statements.{stmt_of, arm_of, sequence_of, arms_before}
use Rattle.typed_ir.proofs.stmt.Stmt.TheLaws.{the_size}
use Rattle.block_rules.specs.Paths.{reads_early, arms_early}
use Rattle.block_rules.specs.Tables.{size, bits_of, SameBelow, Leads, common_of}
use Rattle.block_rules.proofs.walking.+paths.Given as goal

abbrev pub decreases-walk : goal.decreases-walk
decreases-walk l = 3 * goal.size-walk l

abbrev pub decreases-branch : goal.decreases-branch
decreases-branch l = 3 * the_size l.st.now + 1

abbrev pub decreases-walk_all : goal.decreases-walk_all
decreases-walk_all l = 3 * goal.size-walk_all l + 2

abbrev pub decreases-walk_arms : goal.decreases-walk_arms
decreases-walk_arms l = 3 * max (goal.size-walk_arms l) (the_size l.otherwise.now) + 2

abbrev pub invariant-walk_all-loop-st : goal.invariant-walk_all-loop-st
invariant-walk_all-loop-st l =
    Leads l.initial.known l.known l.initial.learned.items l.learned.items (known_after (sequence_of (map stmt_of (drop l.st-index l.list))) (bits_of l.known))
    (known_after (sequence_of (map stmt_of l.list)) (bits_of l.initial.known))
    × (l.flags.items ++ reads_early (bits_of l.written) (sequence_of (map stmt_of (drop l.st-index l.list))) (bits_of l.known)
    ≡ l.initial.flags.items ++ reads_early (bits_of l.written) (sequence_of (map stmt_of l.list)) (bits_of l.initial.known))

abbrev pub invariant-walk_arms-loop-arm : goal.invariant-walk_arms-loop-arm
invariant-walk_arms-loop-arm l =
    (size l.known ≡ size l.initial.known)
    × (bits_of l.known ≡ bits_of l.initial.known)
    × SameBelow (size l.initial.known)
    (λ s i. bits_of l.initial.known s i
    || (common_of l.common s i && known_after_arms (arms_before (map arm_of (drop l.arm-index l.arms)) (stmt_of l.otherwise)) (bits_of l.initial.known) s i))
    (λ s i. bits_of l.initial.known s i || known_after_arms (arms_before (map arm_of l.arms) (stmt_of l.otherwise)) (bits_of l.initial.known) s i)
    × (l.flags.items ++ arms_early (bits_of l.written) (arms_before (map arm_of (drop l.arm-index l.arms)) (stmt_of l.otherwise)) (bits_of l.initial.known)
    ≡ l.initial.flags.items ++ arms_early (bits_of l.written) (arms_before (map arm_of l.arms) (stmt_of l.otherwise)) (bits_of l.initial.known))
