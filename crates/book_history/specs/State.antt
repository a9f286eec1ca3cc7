-- The state of a book that has a version.
use Rattle.std.specs.Prelude.{ℕ, List}
use Rattle.book_history.specs.declared.segment.Segment.{Segment}
use Rattle.book_history.specs.Ticket.{DrawnTicket}

-- an opened book. Mark 0 is at cycle 0; tickets, the newest first, and rows only grow
pub record Book (D S R : Type 0) : Type 0 where
  pub version : ℕ
  pub machine : D
  pub rows : List R
  pub first : S
  pub segs : List (Segment S)
  pub tickets : List (DrawnTicket D S R)
  pub used : List ℕ
