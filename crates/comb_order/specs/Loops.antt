-- The loop of nodes that have no order, by what comes before what.
use Rattle.std.specs.Prelude.{◌≡◌, ℕ, zero, suc, ◌+◌, ◌<◌, List, [], ◌∷◌, Bool, not, ◌&&◌, nat_lt, if◌then◌else◌}
use Rattle.typed_ir.specs.Orders.{Member, Distinct}
use Rattle.typed_ir.specs.Valuations.{put}
use Rattle.comb_order.specs.Graphs.{times, HasEdge}

-- the least number of which P is true
abbrev pub IsLeast : (ℕ → Type 0) → ℕ → Type 0
IsLeast P k = P k × ((j : ℕ) → j < k → P j → ⊥)

-- what can be placed: all that comes before it can be
pub data Placeable (before : ℕ → ℕ → Type 0) : ℕ → Type 0 where
  Place : (k : ℕ) → ((a : ℕ) → before a k → Placeable before a) → Placeable before k

-- one of so many that can't be placed
abbrev pub IsStuck : (ℕ → ℕ → Type 0) → ℕ → ℕ → Type 0
IsStuck before count k = (k < count) × (Placeable before k → ⊥)

-- from a node to its least predecessor that can't be placed
abbrev pub Next : (ℕ → ℕ → Type 0) → ℕ → ℕ → ℕ → Type 0
Next before count k a = IsLeast (λ j. IsStuck before count j × before j k) a

-- from one node over these to another, step by step
abbrev pub IsWalk : (ℕ → ℕ → Type 0) → ℕ → ℕ → List ℕ → ℕ → Type 0
IsWalk before count a [] b = a ≡ b
IsWalk before count a (x ∷ xs) b = (a ≡ x) × ((n : ℕ) × Next before count x n × IsWalk before count n xs b)

-- the walk from the least node that can't be placed ends in this circle, which is listed from its least node along predecessors
pub record IsLoop (before : ℕ → ℕ → Type 0) (count : ℕ) (first : ℕ) (rest : List ℕ) : Type 0 where
  pub start : ℕ
  pub lead : List ℕ
  pub enters : ℕ
  pub starts : IsLeast (IsStuck before count) start
  pub walks : IsWalk before count start lead enters
  pub on : Member enters (first ∷ rest)
  pub circle : IsWalk before count first (first ∷ rest) first
  pub once : Distinct (first ∷ rest)
  pub least : (k : ℕ) → Member k rest → first < k

-- no list is a loop
abbrev pub HasNoLoop : (ℕ → ℕ → Type 0) → ℕ → Type 0
HasNoLoop before count = (first : ℕ) (rest : List ℕ) → IsLoop before count first rest → ⊥

-- any two loops are the same list
abbrev pub HasOneLoop : (ℕ → ℕ → Type 0) → ℕ → Type 0
HasOneLoop before count = (first : ℕ) (rest : List ℕ) (other : ℕ) (more : List ℕ)
    → IsLoop before count first rest → IsLoop before count other more → first ∷ rest ≡ other ∷ more

-- a circle along edges: so many, back to where it began
abbrev pub Path : List (List ℕ) → ℕ → ℕ → ℕ → Type 0
Path rows a zero b = HasEdge rows a b
Path rows a (suc n) b = (m : ℕ) × HasEdge rows a m × Path rows m n b

-- the first node that isn't placed and comes before t; 0 where there is none
abbrev pub nearest : ℕ → List (List ℕ) → List Bool → ℕ → ℕ
nearest a [] flags t = 0
nearest a (r ∷ rs) [] t = 0
nearest a (r ∷ rs) (f ∷ fs) t = if not f && nat_lt 0 (times t r) then a else nearest (a + 1) rs fs t

-- the numbers after `a` was written at each node of a row
abbrev pub overwritten : List ℕ → ℕ → (ℕ → ℕ) → ℕ → ℕ
overwritten [] a g = g
overwritten (x ∷ xs) a g = overwritten xs a (put g x a)
