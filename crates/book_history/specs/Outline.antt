-- A book without states, links and tickets: what the session's own entries alone decide.
use Rattle.std.specs.Prelude.{ℕ, ◌+◌, ◌≤◌, List, [], ◌∷◌, ◌++◌, length, Option, Some, None, if◌then◌else◌, eqb, leb}
use Rattle.book_history.specs.Book.{Book, Settings, Event, Opens, Runs, Reloads, Claims, Installs, Releases, Shows, Closes, cycles, grid as mark_cycles}

-- `marks` are the cycles of the marks after mark 0
pub record Outline (D R : Type 0) : Type 0 where
  pub version : ℕ
  pub machine : Option D
  pub rows : List R
  pub marks : List ℕ

abbrev pub blank : {D R : Type 0} → Outline D R
blank = record { version = 0; machine = None; rows = []; marks = [] }

-- the outline of a replayed book
abbrev pub outline_in : {D S R : Type 0} → Option (Book D S R) → Outline D R
outline_in None = blank
outline_in (Some c) = record { version = c.version; machine = Some c.machine; rows = c.rows; marks = cycles c.segs }

-- the marks of odd index are taken out
abbrev pub thin_marks : List ℕ → List ℕ
thin_marks [] = []
thin_marks (a ∷ []) = a ∷ []
thin_marks (a ∷ b ∷ cs) = b ∷ thin_marks cs

abbrev pub add_mark_at : List ℕ → ℕ → List ℕ
add_mark_at ms c = if eqb (length ms + 2) 1025 then thin_marks (ms ++ c ∷ []) else ms ++ c ∷ []

abbrev pub add_marks : List ℕ → List ℕ → List ℕ
add_marks ms [] = ms
add_marks ms (c ∷ cs) = add_marks (add_mark_at ms c) cs

-- the last mark's cycle that is at most the limit, or a
abbrev pub last_until : ℕ → ℕ → List ℕ → ℕ
last_until limit a [] = a
last_until limit a (c ∷ cs) = if leb c limit then last_until limit c cs else a

module _ {D R O : Type 0} where
  abbrev pub outline_after : Settings → Outline D R → Event D R O → Outline D R
  outline_after st o (Opens v m) = record { version = 1; machine = Some m; rows = []; marks = [] }
  outline_after st o (Runs n rows) =
      record { version = o.version; machine = o.machine; rows = o.rows ++ rows; marks = add_marks o.marks (mark_cycles st.interval (length o.rows) (length rows)) }
  outline_after st o (Reloads v m ops from) = record { version = o.version + 1; machine = Some m; rows = o.rows; marks = o.marks }
  outline_after st o (Claims n a b by) = o
  outline_after st o (Installs n j by) = o
  outline_after st o (Releases n by) = o
  outline_after st o (Shows s) = o
  outline_after st o Closes = o

  -- the outline after these entries, from the outline o on
  abbrev pub outline_from : Settings → Outline D R → List (Event D R O) → Outline D R
  outline_from st o [] = o
  outline_from st o (e ∷ es) = outline_from st (outline_after st o e) es

-- a book has a version from 1 on, and no more versions than so many
abbrev pub VersionIs : {D S R : Type 0} → Option (Book D S R) → ℕ → Type 0
VersionIs None most = Unit {0}
VersionIs (Some c) most = (1 ≤ c.version) × (c.version ≤ most)
