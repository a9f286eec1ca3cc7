-- Commands' own entries, which draw no ticket, use none up and don't close the book.
use Rattle.std.specs.Prelude.{◌≡◌, List, [], ◌∷◌, ◌++◌, true}
use Rattle.book_history.specs.Event.{Event}
use Rattle.book_history.specs.Journal.{Journal}
use Rattle.book_history.specs.Moments.{is_spoken}

module _ {D R O : Type 0} where
  abbrev pub AllSpoken : List (Event D R O) → Type 0
  AllSpoken [] = Unit {0}
  AllSpoken (e ∷ es) = (is_spoken e ≡ true) × AllSpoken es

  -- such entries were added, and nothing else
  pub record AddsSpoken (old new : Journal D R O) : Type 0 where
    pub entries : List (Event D R O)
    pub spoken : AllSpoken entries
    pub settings : new.settings ≡ old.settings
    pub events : new.events ≡ old.events ++ entries
