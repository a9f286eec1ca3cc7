-- The words of the core law.
use Rattle.std.specs.Prelude.{◌≡◌, ℕ, ◌+◌, ◌<◌, ◌≤◌, ◌↔◌, List, [], ◌∷◌, ◌++◌, length, Bool, true, false, Option, Some, None}
use Rattle.machine.specs.Kit.{Kit}
use Rattle.book_history.specs.declared.who.Who.{Who}
use Rattle.book_history.specs.Book.{Segment, DrawnTicket, Book, Settings, Event, Opens, Runs, Reloads, Claims, Installs, Releases, Shows, Closes, drawn, lead, settled_to, grid, step}
use Rattle.book_history.specs.Truth.{Current}

-- version, record, marks, links and tickets drawn are the same
pub record SameBook {D S R : Type 0} (c d : Book D S R) : Type 0 where
  pub version : d.version ≡ c.version
  pub machine : d.machine ≡ c.machine
  pub rows : d.rows ≡ c.rows
  pub first : d.first ≡ c.first
  pub segs : d.segs ≡ c.segs
  pub tickets : d.tickets ≡ c.tickets

-- what an install of ticket n that answered j has to be, where the book is b
abbrev pub InstallIsRight : {D S R O : Type 0} → Kit D S R O → Settings → Option (Book D S R) → ℕ → Bool → Who → Type 0
InstallIsRight k st None n j by = ⊥
InstallIsRight {D} {S} {R} k st (Some c) n j by =
    (t : DrawnTicket D S R) × (drawn n c.tickets ≡ Some t) × ((j ≡ true) ↔ Current c t) × (j ≡ false → SameBook c (step k st c (Installs n j by)))

-- no fewer links lead, and they settle no less
pub record Further {S : Type 0} (a : ℕ) (old new : List (Segment S)) : Type 0 where
  pub leads : lead old ≤ lead new
  pub settles : settled_to a old ≤ settled_to a new

-- the new marks make no 1,025
abbrev pub ThinsNot : {D S R : Type 0} → Settings → Book D S R → List R → Type 0
ThinsNot st c rows = length c.segs + 1 + length (grid st.interval (length c.rows) (length rows)) < 1025

abbrev pub FallsNot : {D S R O : Type 0} → Kit D S R O → Settings → Book D S R → Event D R O → Type 0
FallsNot k st c (Opens v m) = Unit {0}
FallsNot k st c (Runs x rows) = ThinsNot st c rows → Further 0 c.segs (step k st c (Runs x rows)).segs
FallsNot k st c (Reloads v m ops from) = Unit {0}
FallsNot k st c (Claims n a b by) = Further 0 c.segs (step k st c (Claims n a b by)).segs
FallsNot k st c (Installs n j by) = Further 0 c.segs (step k st c (Installs n j by)).segs
FallsNot k st c (Releases n by) = Further 0 c.segs (step k st c (Releases n by)).segs
FallsNot k st c (Shows s) = Further 0 c.segs (step k st c (Shows s)).segs
FallsNot k st c Closes = Further 0 c.segs (step k st c Closes).segs

abbrev pub LeadFallsNot : {D S R O : Type 0} → Kit D S R O → Settings → Option (Book D S R) → Event D R O → Type 0
LeadFallsNot k st None e = Unit {0}
LeadFallsNot k st (Some c) e = FallsNot k st c e

-- neither a run nor a reload
abbrev pub IsCalm : {D R O : Type 0} → Event D R O → Type 0
IsCalm (Opens v m) = ⊥
IsCalm (Runs x rows) = ⊥
IsCalm (Reloads v m ops from) = ⊥
IsCalm (Claims n a b by) = Unit {0}
IsCalm (Installs n j by) = Unit {0}
IsCalm (Releases n by) = Unit {0}
IsCalm (Shows s) = Unit {0}
IsCalm Closes = Unit {0}

abbrev pub AreCalm : {D R O : Type 0} → List (Event D R O) → Type 0
AreCalm [] = Unit {0}
AreCalm (e ∷ es) = IsCalm e × AreCalm es

abbrev pub lead_in : {D S R : Type 0} → Option (Book D S R) → ℕ
lead_in None = 0
lead_in (Some c) = lead c.segs

-- the record of a book
abbrev pub record_in : {D S R : Type 0} → Option (Book D S R) → List R
record_in None = []
record_in (Some c) = c.rows

abbrev pub ran_rows : {D R O : Type 0} → Event D R O → List R
ran_rows (Opens v m) = []
ran_rows (Runs x rows) = rows
ran_rows (Reloads v m ops from) = []
ran_rows (Claims n a b by) = []
ran_rows (Installs n j by) = []
ran_rows (Releases n by) = []
ran_rows (Shows s) = []
ran_rows Closes = []

-- the rows of the runs, in order
abbrev pub record_of : {D R O : Type 0} → List (Event D R O) → List R
record_of [] = []
record_of (e ∷ es) = ran_rows e ++ record_of es
