-- What a script sets the inputs to, cycle by cycle: this project's own.
use Rattle.std.specs.Prelude.{ℕ, Bool, true, false, ◌==◌, ◌&&◌, nat_lt, if◌then◌else◌, List, [], ◌∷◌, map}
use Rattle.std.specs.Str.{bytes_eq}
use Rattle.ls_text.specs.Texts.{text_at}
use Rattle.typed_ir.specs.Orders.{at_or}

-- a row: the values of the names that are set, each name once, in the order of their bytes
abbrev pub Row : Type 0
Row = List (List ℕ × ℕ)

-- whether a text stands before another in the order of bytes
abbrev pub is_before : List ℕ → List ℕ → Bool
is_before [] [] = false
is_before [] (y ∷ ys) = true
is_before (x ∷ xs) [] = false
is_before (x ∷ xs) (y ∷ ys) = if x == y then is_before xs ys else nat_lt x y

-- the value of a name, 0 where it isn't set
abbrev pub value_of : Row → (name : List ℕ) → ℕ
value_of [] name = 0
value_of (s ∷ ss) name = if bytes_eq s.0 name then s.1 else value_of ss name

-- the row with this value, in place of the one that the name had
abbrev pub with_value : Row → (name : List ℕ) → (value : ℕ) → Row
with_value [] name value = (name, value) ∷ []
with_value (s ∷ ss) name value =
    if bytes_eq s.0 name then (name, value) ∷ ss
    else if is_before name s.0 then (name, value) ∷ s ∷ ss
    else s ∷ with_value ss name value

-- the same names with the same values
abbrev pub are_same : Row → Row → Bool
are_same [] [] = true
are_same [] (y ∷ ys) = false
are_same (x ∷ xs) [] = false
are_same (x ∷ xs) (y ∷ ys) = (bytes_eq x.0 y.0 && (x.1 == y.1)) && are_same xs ys

-- what inputs of these names are given at a cycle of a record: the value of each name, 0 where it isn't set
abbrev pub given_at : (inputs : List (List ℕ)) → (record_ : List Row) → (cycle : ℕ) → List ℕ
given_at inputs record_ cycle = at_or (λ (row : Row). map (value_of row) inputs) [] record_ cycle

-- a row whose names have numbers, by their texts
abbrev pub row_of : (names : List (List ℕ)) → List (ℕ × ℕ) → Row
row_of names [] = []
row_of names (s ∷ ss) = with_value (row_of names ss) (text_at names s.0) s.1
