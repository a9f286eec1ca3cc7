-- Rows of a table, by number.
use Rattle.std.specs.Prelude.{ℕ, zero, suc, List, [], ◌∷◌}
use Rattle.std.specs.declared.vec.Vec.{Vec}
use Rattle.std.specs.Global.{Global}

-- a row of a table, empty where there is none
abbrev pub row_in : {A : Type 0} → List (Vec A Global) → ℕ → List A
row_in [] k = []
row_in (r ∷ rs) zero = r.items
row_in (r ∷ rs) (suc k) = row_in rs k
