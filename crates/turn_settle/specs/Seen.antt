-- The book that a pass has seen, and the session's room behind its own list.
use Rattle.std.specs.Prelude.{ℕ, ◌+◌, ◌≤◌, List, Option, Some, None}
use Rattle.machine.specs.Kit.{Kit}
use Rattle.book_history.specs.Book.{Book, Settings, Event, replay}
use Rattle.book_history.specs.Legal.{Legal}
use Rattle.book_history.specs.Rooms.{count_all, no_entry}
use Rattle.book_turn.specs.Known.{Known}

module _ {D S R O : Type 0} where
  -- the book of these entries, and none before there are settings
  abbrev pub book_under : Kit D S R O → Option Settings → List (Event D R O) → Option (Book D S R)
  book_under k None h = None
  book_under k (Some st) h = replay k st h

  abbrev pub book_seen : Kit D S R O → Known D R O → Option (Book D S R)
  book_seen k v = book_under k v.settings v.seen

  -- these entries are a legal history
  abbrev pub IsLegalUnder : Kit D S R O → (D → D → O → Type 0) → Option Settings → List (Event D R O) → Type 0
  IsLegalUnder k valid None h = ⊥
  IsLegalUnder k valid (Some st) h = Legal k valid st h

-- so many entries of the session fit its room
abbrev pub FitRoom : Option Settings → ℕ → Type 0
FitRoom None n = ⊥
FitRoom (Some st) n = n ≤ st.rooms.session

-- the session has room for so many entries more than its own list has
abbrev pub HasOwnRoom : {D R O : Type 0} → Known D R O → ℕ → Type 0
HasOwnRoom v n = FitRoom v.settings ((count_all no_entry v.own).session + n)
