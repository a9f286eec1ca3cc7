-- Tables of instances.
use Rattle.std.specs.Prelude.{ℕ, suc, Bool, true, false, ◌&&◌, ◌==◌, nat_lt, List, [], ◌∷◌, length, Option, Some, None, if◌then◌else◌}
use Rattle.typed_ir.specs.declared.instance.Instance.{Instance}

abbrev pub parent_of : Instance → Option ℕ
parent_of x = x.place.parent

-- the instances that are still open where the next one stands in p: p, and those that it stands in
abbrev pub closed_to : ℕ → List ℕ → List ℕ
closed_to p [] = []
closed_to p (q ∷ qs) = if p == q then q ∷ qs else closed_to p qs

-- from the k-th instance on, where these are open, the innermost first: each stands in one that is open
abbrev pub goes_down : List ℕ → ℕ → List (Option ℕ) → Bool
goes_down open_ones k [] = true
goes_down open_ones k (None ∷ ps) = false
goes_down open_ones k (Some p ∷ ps) = nat_lt 0 (length (closed_to p open_ones)) && goes_down (k ∷ closed_to p open_ones) (suc k) ps

-- one top, and all others depth first behind it
abbrev pub is_depth_first : List (Option ℕ) → Bool
is_depth_first [] = false
is_depth_first (None ∷ ps) = goes_down (0 ∷ []) 1 ps
is_depth_first (Some p ∷ ps) = false
