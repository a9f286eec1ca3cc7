-- What a verification answers.
use Rattle.std.specs.Prelude.{◌≡◌, ℕ}
use Rattle.book_history.specs.Book.{DrawnTicket}
use Rattle.segment_verify.specs.declared.verification.Verification.{Verification}
use Rattle.segment_verify.specs.declared.verification.Verification.TheVariants.{Done, NoMemory}

-- the ticket comes back, verified or as it was
abbrev pub IsTicketOf : {D S R O : Type 0} → ℕ × DrawnTicket D S R → Verification D S R O → Type 0
IsTicketOf t (Done v) = v ≡ t
IsTicketOf t (NoMemory u) = u ≡ t

abbrev pub IsDone : {D S R O : Type 0} → Verification D S R O → Type 0
IsDone (Done v) = Unit {0}
IsDone (NoMemory u) = ⊥
