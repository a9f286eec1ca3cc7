use Rattle.std.proofs.Common.{◌≡◌, ◌++◌, take, drop}
use Rattle.book_history.specs.Book.{has_link, joined}
use Rattle.checkpoint_book.proofs.find.find_link.Given as goal

abbrev pub invariant-loop-i : goal.invariant-loop-i
invariant-loop-i g l =
    (has_link g.M.Machine.kit l.machine l.ticket.1 0 l.first l.segs ≡ has_link g.M.Machine.kit l.machine l.ticket.1 l.a l.start (drop l.i l.segs))
    × ((r : g.row.M-State.Denot) → joined g.M.Machine.kit l.machine l.ticket.1 r 0 l.first l.segs
    ≡ take l.i l.segs ++ joined g.M.Machine.kit l.machine l.ticket.1 r l.a l.start (drop l.i l.segs))
