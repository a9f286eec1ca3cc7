use Rattle.std.proofs.Common.{◌≡◌, ℕ, ◌++◌, take, drop}
use Rattle.book_history.specs.Book.{first_link, mark_out, takes}
use Rattle.checkpoint_book.proofs.draw.find_first.Given as goal

abbrev pub invariant-loop-i : goal.invariant-loop-i
invariant-loop-i g l =
    (first_link (takes l.by) 0 l.first l.segs ≡ first_link (takes l.by) l.a l.start (drop l.i l.segs))
    × ((n : ℕ) → mark_out (takes l.by) n l.segs ≡ take l.i l.segs ++ mark_out (takes l.by) n (drop l.i l.segs))
