-- The entries of a history with all that belongs to them: versions and operations from a list of loads, rows from a record.
use Rattle.std.specs.Prelude.{◌≡◌, ℕ, ◌≤◌, List, [], ◌∷◌, length, take, drop, Bool, true, false}
use Rattle.book_history.specs.declared.entry.Entry.{Entry}
use Rattle.book_history.specs.declared.entry.Entry.TheVariants.{Open, Run, Reload, Claim, Install, Release, Show, Close}
use Rattle.book_history.specs.declared.load.Load.{Load}
use Rattle.book_history.specs.declared.load.Load.TheVariants as held
use Rattle.book_history.specs.Book.{Event, Opens, Runs, Reloads, Claims, Installs, Releases, Shows, Closes}

module _ {D R O : Type 0} where
  abbrev pub opened_by : ℕ → List (Load D O) → Event D R O
  opened_by n [] = Closes
  opened_by n (held.Open v ∷ ls) = Opens n v.value.machine.value
  opened_by n (held.Reload v ops ∷ ls) = Closes

  abbrev pub reloaded_by : ℕ → ℕ → List (Load D O) → Event D R O
  reloaded_by n from [] = Closes
  reloaded_by n from (held.Open v ∷ ls) = Closes
  reloaded_by n from (held.Reload v ops ∷ ls) = Reloads n v.value.machine.value ops.value from

  -- the entry with what the first load holds, and the first rows, where it needs them
  abbrev pub event_of : Entry → List (Load D O) → List R → Event D R O
  event_of (Open v) ls rows = opened_by v ls
  event_of (Run n) ls rows = Runs n (take n rows)
  event_of (Reload v from) ls rows = reloaded_by v from ls
  event_of (Claim n a b by) ls rows = Claims n a b by
  event_of (Install n j by) ls rows = Installs n j by
  event_of (Release n by) ls rows = Releases n by
  event_of (Show s) ls rows = Shows s
  event_of Close ls rows = Closes

abbrev pub tail : {A : Type 0} → List A → List A
tail [] = []
tail (x ∷ xs) = xs

-- the entry has a load
abbrev pub needs : Entry → Bool
needs (Open v) = true
needs (Run n) = false
needs (Reload v from) = true
needs (Claim n a b by) = false
needs (Install n j by) = false
needs (Release n by) = false
needs (Show s) = false
needs Close = false

-- the entry's cycles
abbrev pub cycles_of : Entry → ℕ
cycles_of (Open v) = 0
cycles_of (Run n) = n
cycles_of (Reload v from) = 0
cycles_of (Claim n a b by) = 0
cycles_of (Install n j by) = 0
cycles_of (Release n by) = 0
cycles_of (Show s) = 0
cycles_of Close = 0

abbrev pub rest_after : {A : Type 0} → Bool → List A → List A
rest_after true ls = tail ls
rest_after false ls = ls

abbrev pub weave : {D R O : Type 0} → List Entry → List (Load D O) → List R → List (Event D R O)
weave [] ls rows = []
weave (e ∷ es) ls rows = event_of e ls rows ∷ weave es (rest_after (needs e) ls) (drop (cycles_of e) rows)

-- the first load is the entry's, and its version has the entry's number
abbrev pub IsLoadOf : {D O : Type 0} → Entry → List (Load D O) → Type 0
IsLoadOf (Open v) [] = ⊥
IsLoadOf (Open v) (held.Open x ∷ ls) = v ≡ x.value.number
IsLoadOf (Open v) (held.Reload x ops ∷ ls) = ⊥
IsLoadOf (Run n) ls = Unit {0}
IsLoadOf (Reload v from) [] = ⊥
IsLoadOf (Reload v from) (held.Open x ∷ ls) = ⊥
IsLoadOf (Reload v from) (held.Reload x ops ∷ ls) = v ≡ x.value.number
IsLoadOf (Claim n a b by) ls = Unit {0}
IsLoadOf (Install n j by) ls = Unit {0}
IsLoadOf (Release n by) ls = Unit {0}
IsLoadOf (Show s) ls = Unit {0}
IsLoadOf Close ls = Unit {0}

-- the loads and the rows are just those of the entries
abbrev pub AreHeld : {D R O : Type 0} → List Entry → List (Load D O) → List R → Type 0
AreHeld [] ls rows = (ls ≡ []) × (rows ≡ [])
AreHeld (e ∷ es) ls rows =
    IsLoadOf e ls × (cycles_of e ≤ length rows) × AreHeld es (rest_after (needs e) ls) (drop (cycles_of e) rows)
