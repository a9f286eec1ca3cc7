use Rattle.std.proofs.Common.{◌≡◌, drop}
use Rattle.book_history.specs.Book.{all_joined}
use Rattle.checkpoint_book.proofs.idle.are_joined.Given as goal

abbrev pub invariant-loop-seg : goal.invariant-loop-seg
invariant-loop-seg g l = all_joined (drop l.seg-index l.segs) ≡ all_joined l.segs
