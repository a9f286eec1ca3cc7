use Rattle.std.proofs.Common.{◌≡◌, ◌-◌, ◌*◌, ◌≤◌, ◌++◌, take, drop, length}
use Rattle.book_history.specs.Book.{thin}
use Rattle.checkpoint_book.proofs.grow.squeeze.Given as goal

abbrev pub invariant-loop-segs : goal.invariant-loop-segs
invariant-loop-segs g l = (take l.k l.segs ++ thin (drop (2 * l.k) l.segs) ≡ thin l.initial.segs) × (length l.segs ≡ length l.initial.segs) × (2 * l.k ≤ length l.segs)

abbrev pub decreases-loop-segs : goal.decreases-loop-segs
decreases-loop-segs g l = length l.segs - 2 * l.k
