use Rattle.std.proofs.Common.{◌≡◌, ◌++◌, take, drop, vec_capacity}
use Rattle.book_history.specs.Book.{freed}
use Rattle.checkpoint_book.proofs.free.free.Given as goal

abbrev pub invariant-loop-i : goal.invariant-loop-i
invariant-loop-i g l = (l.segs.items ≡ freed l.ticket (take l.i l.initial.segs.items) ++ drop l.i l.initial.segs.items) × (vec_capacity l.segs ≡ vec_capacity l.initial.segs)
