-- Nodes that are all applied at once, one after another, and in an order. General in what a node is.
use Rattle.std.specs.Prelude.{◌≡◌, ℕ, zero, suc, ◌<◌, ◌==◌, Bool, true, false, not, ◌&&◌, ◌||◌, ◌⊎◌, List, [], ◌∷◌, length}
use Rattle.typed_ir.specs.Valuations.{Valuation, Places, Same, look}

-- all applied at once to v, into env
abbrev pub round_by : {N : Type 0} → (N → Valuation → Valuation → Valuation) → List N → Valuation → Valuation → Valuation
round_by drive [] v env = env
round_by drive (k ∷ ks) v env = round_by drive ks v (drive k v env)

-- applied one after another, each once, in place
abbrev pub pass : {N : Type 0} → (N → Valuation → Valuation → Valuation) → List N → Valuation → Valuation
pass drive [] env = env
pass drive (k ∷ ks) env = pass drive ks (drive k env env)

-- some node of the list drives the bit
abbrev pub any_drives : {N : Type 0} → (N → Places) → List N → Places
any_drives drives [] = λ s i. false
any_drives drives (k ∷ ks) = λ s i. drives k s i || any_drives drives ks s i

-- no node reads what it or a later one drives
abbrev pub Ordered : {N : Type 0} → (N → Places) → (N → Places) → List N → Type 0
Ordered drives reads [] = Unit {0}
Ordered drives reads (k ∷ ks) = ((s i : ℕ) → reads k s i ≡ true → any_drives drives (k ∷ ks) s i ≡ false) × Ordered drives reads ks

abbrev pub Member : {N : Type 0} → N → List N → Type 0
Member k [] = ⊥
Member k (x ∷ xs) = (k ≡ x) ⊎ Member k xs

abbrev pub Each : {N : Type 0} → (N → Type 0) → List N → Type 0
Each P [] = Unit {0}
Each P (x ∷ xs) = P x × Each P xs

-- what the theorem needs of a node
pub record NodeLaws {N : Type 0} (drives reads : N → Places) (drive : N → Valuation → Valuation → Valuation) (Complete : N → Type 0) : Type 0 where
  -- what it gives depends on the bits that it reads alone
  pub local : (k : N) (v w env env' : Valuation) → Complete k → Same (reads k) v w
      → (s i : ℕ) → drives k s i ≡ true → look (drive k v env) s i ≡ look (drive k w env') s i
  -- other bits stay
  pub outside : (k : N) (v env : Valuation) (s i : ℕ) → drives k s i ≡ false → look (drive k v env) s i ≡ look env s i

-- of the node with this number; what is said where there is none
abbrev pub at_or : {N A : Type 0} → (N → A) → A → List N → ℕ → A
at_or f d [] k = d
at_or f d (n ∷ ns) zero = f n
at_or f d (n ∷ ns) (suc k) = at_or f d ns k

-- node a drives a bit that node b reads; both by number
abbrev pub Precedes : (ℕ → Places) → (ℕ → Places) → ℕ → ℕ → Type 0
Precedes drives reads a b = (s i : ℕ) × (drives a s i ≡ true) × (reads b s i ≡ true)

-- no number stands twice
abbrev pub Distinct : List ℕ → Type 0
Distinct [] = Unit {0}
Distinct (k ∷ ks) = (Member k ks → ⊥) × Distinct ks

-- both as tests
abbrev pub is_member : ℕ → List ℕ → Bool
is_member n [] = false
is_member n (x ∷ xs) = (n == x) || is_member n xs

abbrev pub are_distinct : List ℕ → Bool
are_distinct [] = true
are_distinct (x ∷ xs) = not (is_member x xs) && are_distinct xs

-- whatever comes before a number of the list stands earlier, or among `done`
abbrev pub EachAfter : (ℕ → ℕ → Type 0) → List ℕ → List ℕ → Type 0
EachAfter before done [] = Unit {0}
EachAfter before done (k ∷ ks) = ((a : ℕ) → before a k → Member a done) × EachAfter before (k ∷ done) ks

-- each of so many, once, after what comes before it
pub record IsOrderOf (before : ℕ → ℕ → Type 0) (count : ℕ) (order : List ℕ) : Type 0 where
  pub size : length order ≡ count
  pub all : (k : ℕ) → k < count → Member k order
  pub in_range : (k : ℕ) → Member k order → k < count
  pub once : Distinct order
  pub after : EachAfter before [] order
