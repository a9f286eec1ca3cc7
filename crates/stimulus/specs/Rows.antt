-- A row: the values that are set, by the names' numbers, each name once, in ascending order.
use Rattle.std.specs.Prelude.{ℕ, ◌+◌, ◌<◌, ◌==◌, ◌&&◌, ◌||◌, nat_lt, Bool, true, false, if◌then◌else◌, List, [], ◌∷◌, length, slice_index_or, Option, Some, None}

-- the value of a name, 0 where it isn't set
abbrev pub value_in : List (ℕ × ℕ) → ℕ → ℕ
value_in [] name = 0
value_in (x ∷ xs) name = if x.0 == name then x.1 else value_in xs name

abbrev pub is_set_in : List (ℕ × ℕ) → ℕ → Bool
is_set_in [] name = false
is_set_in (x ∷ xs) name = (x.0 == name) || is_set_in xs name

-- the row with this value of a name: in place of its old one, or at its place in the order
abbrev pub with_value : List (ℕ × ℕ) → ℕ → ℕ → List (ℕ × ℕ)
with_value [] name value = (name, value) ∷ []
with_value (x ∷ xs) name value =
    if x.0 == name then (name, value) ∷ xs else (if nat_lt name x.0 then (name, value) ∷ x ∷ xs else x ∷ with_value xs name value)

-- the name at a place
abbrev pub name_at : List (ℕ × ℕ) → ℕ → ℕ
name_at row i = let x = slice_index_or row i (0, 0) in x.0

-- the names strictly ascend
abbrev pub AreAscending : List (ℕ × ℕ) → Type 0
AreAscending row = (i j : ℕ) → i < j → j < length row → name_at row i < name_at row j

-- the same names with the same values
abbrev pub are_same : List (ℕ × ℕ) → List (ℕ × ℕ) → Bool
are_same [] [] = true
are_same [] (y ∷ ys) = false
are_same (x ∷ xs) [] = false
are_same (x ∷ xs) (y ∷ ys) = ((x.0 == y.0) && (x.1 == y.1)) && are_same xs ys

-- ---- how many names are set, counted once for each stretch of equal rows

-- the same behind a row; None: behind nothing
abbrev pub names_set_behind : {R : Type 0} → (R → R → Bool) → (R → ℕ) → Option R → List R → ℕ
names_set_behind same count last [] = 0
names_set_behind same count None (row ∷ rows) = count row + names_set_behind same count (Some row) rows
names_set_behind same count (Some last) (row ∷ rows) =
    (if same last row then 0 else count row) + names_set_behind same count (Some row) rows

abbrev pub names_set : {R : Type 0} → (R → R → Bool) → (R → ℕ) → List R → ℕ
names_set same count rows = names_set_behind same count None rows
