-- Register states as lists of a width and a value for each register.
use Rattle.std.specs.Prelude.{ℕ, List, [], ◌∷◌, map}

-- each width with the value at its place
abbrev pub paired : List ℕ → List ℕ → List (ℕ × ℕ)
paired [] xs = []
paired (w ∷ ws) [] = []
paired (w ∷ ws) (x ∷ xs) = (w, x) ∷ paired ws xs

abbrev pub state_values : List (ℕ × ℕ) → List ℕ
state_values s = map (λ (p : ℕ × ℕ). p.1) s
