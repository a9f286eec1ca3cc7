-- The history of a book before and after a pass of a settle, and several.
use Rattle.std.specs.Prelude.{◌≡◌, ℕ, ◌+◌, ◌≤◌, List, [], ◌∷◌, ◌++◌, Bool, true, false, None}
use Rattle.machine.specs.Kit.{Kit}
use Rattle.book_history.specs.declared.who.Who.TheVariants.{Session}
use Rattle.book_history.specs.Book.{Event, Claims, Installs}
use Rattle.book_history.specs.Journal.{Journal}
use Rattle.book_history.specs.Law.{lead_in}
use Rattle.checkpoint_book.specs.Views.{book_of, shown_in}
use Rattle.segment_verify.specs.Passes.{ArePasses, IsGivenUp}

-- one claim and its install, after which one link more leads
pub record IsRise {D S R O : Type 0} (k : Kit D S R O) (old new : Journal D R O) : Type 0 where
  pub ticket : ℕ
  pub a : ℕ
  pub b : ℕ
  pub joined : Bool
  pub events : new.events ≡ old.events ++ Claims ticket a b Session ∷ Installs ticket joined Session ∷ []
  pub leads : lead_in (book_of k old) + 1 ≤ lead_in (book_of k new)

-- by whether there was a link that isn't joined
abbrev pub IsPass : {D S R O : Type 0} → Kit D S R O → Journal D R O → Journal D R O → Bool → Type 0
IsPass k old new true = IsRise k old new
IsPass k old new false = (new.events ≡ old.events) × (shown_in (book_of k old) ≡ None)

-- so many passes were made since, and each made a link more lead
pub record HasPassed {D S R O : Type 0} (k : Kit D S R O) (old new : Journal D R O) (n : ℕ) : Type 0 where
  pub own : List (Event D R O)
  pub settings : new.settings ≡ old.settings
  pub events : new.events ≡ old.events ++ own
  pub are : ArePasses n own
  pub leads : lead_in (book_of k old) + n ≤ lead_in (book_of k new)

-- a ticket was drawn and given up, or none was drawn
pub record HasGivenUp {D R O : Type 0} (old new : Journal D R O) : Type 0 where
  pub entries : List (Event D R O)
  pub events : new.events ≡ old.events ++ entries
  pub gave_up : IsGivenUp entries
