-- A table of names: the text of each id, in order.
use Rattle.std.specs.Prelude.{◌≡◌, ℕ, ◌<◌, List, [], ◌∷◌, ◌++◌, length, slice_index_or, if◌then◌else◌}
use Rattle.std.specs.List.{list_any}
use Rattle.std.specs.Str.{bytes_eq}

-- the text of the name with that number
abbrev pub text_at : List (List ℕ) → ℕ → List ℕ
text_at names id = slice_index_or names id []

-- the table with that text: itself where it has the text, which else comes at its end
abbrev pub interned : List (List ℕ) → List ℕ → List (List ℕ)
interned names text = if list_any (bytes_eq text) names then names else names ++ text ∷ []

-- the number is that of the text, and no other is
pub record IsIdOf (names : List (List ℕ)) (text : List ℕ) (id : ℕ) : Type 0 where
  pub within : id < length names
  pub same : text_at names id ≡ text
  pub only : (other : ℕ) → other < length names → text_at names other ≡ text → other ≡ id

-- the later table begins with the earlier one, so the ids of the earlier one keep their texts
pub record Grows (old new : List (List ℕ)) : Type 0 where
  pub more : List (List ℕ)
  pub begins : new ≡ old ++ more

-- no two ids have the same text
abbrev pub HasEachOnce : List (List ℕ) → Type 0
HasEachOnce names = (i j : ℕ) → i < length names → j < length names → text_at names i ≡ text_at names j → i ≡ j
