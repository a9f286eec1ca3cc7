-- What a claim does to a history, by its answer: one shape for the session and for workers.
use Rattle.std.specs.Prelude.{◌≡◌, ℕ, [], ◌∷◌, ◌++◌, Bool, true, false, ◌||◌, Option, Some, None}
use Rattle.machine.specs.Kit.{Kit}
use Rattle.book_history.specs.declared.who.Who.{Who}
use Rattle.book_history.specs.Book.{DrawnTicket, Claims}
use Rattle.checkpoint_book.specs.declared.claimed.Claimed.{Claimed}
use Rattle.checkpoint_book.specs.declared.claimed.Claimed.TheVariants.{Ticket, Nothing}
use Rattle.book_history.specs.Journal.{Journal}
use Rattle.book_history.specs.Outs.{IsOutFor}
use Rattle.book_history.specs.Tickets.{is_drawn, is_used}
use Rattle.checkpoint_book.specs.Views.{book_of, counts_of, none_free, is_full, is_full_for}

-- ticket t.0 was drawn: its number is new to the history before, its claim is the one entry more, and it is out
pub record IsDrawn {D S R O : Type 0} (k : Kit D S R O) (by : Who) (old new : Journal D R O) (t : ℕ × DrawnTicket D S R) : Type 0 where
  pub events : new.events ≡ old.events ++ Claims t.0 t.1.a t.1.b by ∷ []
  pub not_drawn : is_drawn t.0 old.events ≡ false
  pub not_used : is_used t.0 old.events ≡ false
  pub is_out : IsOutFor (book_of k new) t.0 t.1 by

-- the asker's room is full, the book is closed, or there is no link that the asker's claims take
abbrev pub claims_nothing : {D S R O : Type 0} → Kit D S R O → Who → Journal D R O → Bool
claims_nothing k by j = is_full_for by j.settings (counts_of j) (book_of k j) || (counts_of j).closed || none_free by (book_of k j)

-- a ticket was drawn, or there is no entry more, each exactly where it has to be
abbrev pub ClaimIs : {D S R O : Type 0} → Kit D S R O → Who → Journal D R O → Journal D R O → Option (ℕ × DrawnTicket D S R) → Type 0
ClaimIs k by old new (Some t) = IsDrawn k by old new t × (claims_nothing k by old ≡ false)
ClaimIs k by old new None = (new.events ≡ old.events) × (claims_nothing k by old ≡ true)

-- the ticket of a worker's answer
abbrev pub ticket_in : {D S R O : Type 0} → Claimed D S R O → Option (ℕ × DrawnTicket D S R)
ticket_in (Ticket t) = Some t
ticket_in (Nothing full closed) = None

-- without a ticket it tells which of the causes hold
abbrev pub CausesAre : {D S R O : Type 0} → Kit D S R O → Journal D R O → Claimed D S R O → Type 0
CausesAre k old (Ticket t) = Unit {0}
CausesAre k old (Nothing full closed) = (full ≡ is_full old.settings (counts_of old) (book_of k old)) × (closed ≡ (counts_of old).closed)
