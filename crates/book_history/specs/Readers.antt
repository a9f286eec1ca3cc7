-- What a book says of itself, with an answer for the book without a version.
use Rattle.std.specs.Prelude.{ℕ, ◌+◌, length, Option, Some, None}
use Rattle.book_history.specs.State.{Book}

module _ {D S R : Type 0} where
  abbrev pub IsOpened : Option (Book D S R) → Type 0
  IsOpened None = ⊥
  IsOpened (Some c) = Unit {0}

  abbrev pub version_in : Option (Book D S R) → ℕ
  version_in None = 0
  version_in (Some c) = c.version

  abbrev pub cycle_in : Option (Book D S R) → ℕ
  cycle_in None = 0
  cycle_in (Some c) = length c.rows

  abbrev pub links_in : Option (Book D S R) → ℕ
  links_in None = 0
  links_in (Some c) = length c.segs

  abbrev pub marks_in : Option (Book D S R) → ℕ
  marks_in None = 0
  marks_in (Some c) = length c.segs + 1
