-- What a holder's pass, a worker's or the session's, knows between its turns with tickets.
use Rattle.std.specs.Prelude.{◌≡◌, ℕ, List, [], ◌∷◌, Bool, true, false, Option, Some, None, Result, Ok, Err}
use Rattle.machine.specs.Kit.{Kit}
use Rattle.book_history.specs.declared.who.Who.{Who}
use Rattle.book_history.specs.Book.{Settings, Event, DrawnTicket, replay}
use Rattle.book_history.specs.Outs.{IsOutFor}
use Rattle.book_history.specs.Rooms.{count_all, no_entry}
use Rattle.book_turn.specs.Known.{Known}
use Rattle.checkpoint_book.specs.declared.claimed.Claimed.{Claimed}
use Rattle.checkpoint_book.specs.declared.claimed.Claimed.TheVariants.{Ticket, Nothing}
use Rattle.checkpoint_book.specs.Claims.{ticket_in}

module _ {D R O : Type 0} where
  -- a Close is among these entries
  abbrev pub is_closed : List (Event D R O) → Bool
  is_closed h = (count_all no_entry h).closed

  -- the pass doesn't hold the book and has no ticket
  pub record IsFree (v : Known D R O) : Type 0 where
    pub outside : v.holds ≡ false
    pub no_ticket : v.tickets ≡ []

  -- the same, and it has seen a Close
  pub record HasEnded (v : Known D R O) : Type 0 where
    pub free : IsFree v
    pub seen_close : is_closed v.seen ≡ true

module _ {D S R O : Type 0} where
  -- under these settings and after these entries the ticket is out, for this asker
  abbrev pub IsOutAfter : Kit D S R O → Option Settings → List (Event D R O) → ℕ × DrawnTicket D S R → Who → Type 0
  IsOutAfter k None h t by = ⊥
  IsOutAfter k (Some st) h t by = IsOutFor (replay k st h) t.0 t.1 by

  -- the pass doesn't hold the book and has just this ticket, which is out in the book that it has seen
  pub record HasTicket (k : Kit D S R O) (by : Who) (t : ℕ × DrawnTicket D S R) (v : Known D R O) : Type 0 where
    pub outside : v.holds ≡ false
    pub tickets : v.tickets ≡ t.0 ∷ []
    pub is_out : IsOutAfter k v.settings v.seen t by

  -- the pass has the ticket that was drawn, or is free where none was
  abbrev pub HasDrawn : Kit D S R O → Who → Option (ℕ × DrawnTicket D S R) → Known D R O → Type 0
  HasDrawn k by None v = IsFree v
  HasDrawn k by (Some t) v = HasTicket k by t v

  -- the ticket of a worker's claim, which draws none where memory runs out
  abbrev pub drawn_in : {E : Type 0} → Result (Claimed D S R O) E → Option (ℕ × DrawnTicket D S R)
  drawn_in (Ok a) = ticket_in a
  drawn_in (Err e) = None

  -- an answer without a ticket tells whether a Close is among these entries
  abbrev pub TellsClosed : List (Event D R O) → Claimed D S R O → Type 0
  TellsClosed h (Ticket t) = Unit {0}
  TellsClosed h (Nothing full closed) = closed ≡ is_closed h
