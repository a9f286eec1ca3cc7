-- The data inputs of a design by their names, and what rows give them.
use Rattle.std.specs.Prelude.{ℕ, zero, suc, ◌==◌, if◌then◌else◌, List, [], ◌∷◌, map, Option, Some, None}
use Rattle.stimulus.specs.Rows.{value_in}
use Rattle.typed_ir.specs.Cycles.{Signal, Flat, width_at}
use Rattle.typed_ir.specs.Orders.{at_or}

-- the own name of a signal: the last of its path
abbrev pub own_name : List ℕ → ℕ
own_name [] = 0
own_name (x ∷ []) = x
own_name (x ∷ y ∷ ys) = own_name (y ∷ ys)

abbrev pub name_at : Flat → ℕ → ℕ
name_at design s = at_or (λ (x : Signal). own_name x.path) 0 design.signals s

-- the names of the data inputs, in order
abbrev pub input_names : Flat → List ℕ
input_names design = map (name_at design) design.inputs

-- what a row gives the data inputs: each the value of its name, 0 where that isn't set
abbrev pub row_values : Flat → List (ℕ × ℕ) → List ℕ
row_values design row = map (value_in row) (input_names design)

-- the same at a cycle of a record; nothing where it has no row
abbrev pub values_at : Flat → List (List (ℕ × ℕ)) → ℕ → List ℕ
values_at design [] t = []
values_at design (row ∷ rows) zero = row_values design row
values_at design (row ∷ rows) (suc t) = values_at design rows t

-- the width of the first of these signals that has the name
abbrev pub width_among : Flat → List ℕ → ℕ → Option ℕ
width_among design [] name = None
width_among design (s ∷ ss) name = if name_at design s == name then Some (width_at design s) else width_among design ss name

-- the width of the first data input of that name
abbrev pub input_width_of : Flat → ℕ → Option ℕ
input_width_of design name = width_among design design.inputs name
