-- Tickets that are out in a replayed book.
use Rattle.std.specs.Prelude.{◌≡◌, ℕ, length, false, Option, Some, None}
use Rattle.book_history.specs.declared.who.Who.{Who}
use Rattle.book_history.specs.Book.{Book, DrawnTicket, drawn}
use Rattle.book_history.specs.Tickets.{is_among}

-- ticket n was drawn as t by this asker, and is not used up
abbrev pub IsOutFor : {D S R : Type 0} → Option (Book D S R) → ℕ → DrawnTicket D S R → Who → Type 0
IsOutFor None n t by = ⊥
IsOutFor (Some c) n t by = (drawn n c.tickets ≡ Some t) × (t.by ≡ by) × (is_among n c.used ≡ false)

abbrev pub tickets_drawn : {D S R : Type 0} → Option (Book D S R) → ℕ
tickets_drawn None = 0
tickets_drawn (Some c) = length c.tickets
