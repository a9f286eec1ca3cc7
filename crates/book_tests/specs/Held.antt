-- Tickets that stay out while a book of the machine that adds goes on.
use Rattle.std.specs.Prelude.{◌≡◌, ℕ, Bool, Option, Some, None, eqb}
use Rattle.machine.specs.Kit.{Kit}
use Rattle.machine.specs.Tally.{tally_after}
use Rattle.machine.specs.declared.tally.TallyMachine.{TallyMachine}
use Rattle.book_history.specs.declared.who.Who.{Who}
use Rattle.book_history.specs.Book.{DrawnTicket}
use Rattle.book_history.specs.Journal.{Journal}
use Rattle.book_history.specs.Outs.{IsOutFor}
use Rattle.checkpoint_book.specs.Views.{book_of, counts_of}

-- the machine that adds
abbrev pub tally_kit : Kit TallyMachine ℕ ℕ (Unit {0})
tally_kit = record { start = λ m. 0; seg = λ m rows s. tally_after m.add rows s; carried = λ old m ops s. s; alike = λ m x y. eqb x y }

-- a history of its book
abbrev pub Tallied : Type 0
Tallied = Journal TallyMachine ℕ (Unit {0})

-- a ticket, if there is one, is out for the one who claimed it
abbrev pub IsHeld : {A : Type 0} → (A → ℕ × DrawnTicket TallyMachine ℕ ℕ) → (A → Who) → Tallied → Option A → Type 0
IsHeld ticket by j None = Unit {0}
IsHeld ticket by j (Some h) = IsOutFor (book_of tally_kit j) (ticket h).0 (ticket h).1 (by h)

-- both tickets, if they are there, are out, and the book is closed or not as told
pub record AreHeld {A : Type 0} (ticket : A → ℕ × DrawnTicket TallyMachine ℕ ℕ) (by : A → Who) (j : Tallied) (one two : Option A) (shut : Bool) : Type 0 where
  pub first : IsHeld ticket by j one
  pub second : IsHeld ticket by j two
  pub closed : (counts_of j).closed ≡ shut

-- each ticket that was out is out
abbrev pub StayOut : Tallied → Tallied → Type 0
StayOut old new = (n : ℕ) (t : DrawnTicket TallyMachine ℕ ℕ) (by : Who) → IsOutFor (book_of tally_kit old) n t by → IsOutFor (book_of tally_kit new) n t by

-- each ticket that was out is out, and the book is closed exactly where it was
pub record Keeps (old new : Tallied) : Type 0 where
  pub outs : StayOut old new
  pub closed : (counts_of new).closed ≡ (counts_of old).closed

-- the same, but for ticket m
pub record KeepsOthers (m : ℕ) (old new : Tallied) : Type 0 where
  pub outs : (n : ℕ) (t : DrawnTicket TallyMachine ℕ ℕ) (by : Who) → (n ≡ m → ⊥) → IsOutFor (book_of tally_kit old) n t by → IsOutFor (book_of tally_kit new) n t by
  pub closed : (counts_of new).closed ≡ (counts_of old).closed
