-- Noting goes down the nesting; lists of statements and arms stand between a statement and those in it.
use Rattle.std.proofs.Common.{◌≡◌, ◌<◌, ◌||◌, ◌+◌, ◌*◌, ℕ, max, map, drop}
use Rattle.typed_ir.specs.Statements.{stmt_of, arm_of, sequence_of, arms_before}
use Rattle.typed_ir.specs.Touches.{touched, all_reads, all_arm_reads}
use Rattle.typed_ir.proofs.stmt.Stmt.TheLaws.{the_size}
use Rattle.typed_ir.proofs.touching.+reads.Given as goal

abbrev pub decreases-note_reads_of : goal.decreases-note_reads_of
decreases-note_reads_of l = 2 * goal.size-note_reads_of l

abbrev pub decreases-note_reads_of_all : goal.decreases-note_reads_of_all
decreases-note_reads_of_all l = 2 * goal.size-note_reads_of_all l + 1

abbrev pub decreases-note_reads_of_arms : goal.decreases-note_reads_of_arms
decreases-note_reads_of_arms l = 2 * max (goal.size-note_reads_of_arms l) (the_size l.otherwise.now) + 1

abbrev pub invariant-note_reads_of_all-loop-st : goal.invariant-note_reads_of_all-loop-st
invariant-note_reads_of_all-loop-st l = (s i : ℕ) → i < 128
    → (touched l.touches.items s i || all_reads (sequence_of (map stmt_of (drop l.st-index l.list))) s i)
    ≡ (touched l.initial.touches.items s i || all_reads (sequence_of (map stmt_of l.list)) s i)

abbrev pub invariant-note_reads_of_arms-loop-arm : goal.invariant-note_reads_of_arms-loop-arm
invariant-note_reads_of_arms-loop-arm l = (s i : ℕ) → i < 128
    → (touched l.touches.items s i || all_arm_reads (arms_before (map arm_of (drop l.arm-index l.arms)) (stmt_of l.otherwise)) s i)
    ≡ (touched l.initial.touches.items s i || all_arm_reads (arms_before (map arm_of l.arms) (stmt_of l.otherwise)) s i)
