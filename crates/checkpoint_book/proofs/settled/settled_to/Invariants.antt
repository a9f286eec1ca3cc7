use Rattle.std.proofs.Common.{◌≡◌, drop}
use Rattle.book_history.specs.Book.{settled_to}
use Rattle.checkpoint_book.proofs.settled.settled_to.Given as goal

abbrev pub invariant-loop-seg : goal.invariant-loop-seg
invariant-loop-seg g l = settled_to l.cycle (drop l.seg-index l.segs) ≡ settled_to 0 l.segs
