-- What is known, and which reads come too early, depends on the bits that may be read alone.
use Rattle.std.proofs.Common.{◌≡◌, ℕ, zero, suc, ◌<◌, Bool, true, false, ◌||◌, ◌&&◌, not, List, [], ◌∷◌, ◌++◌, refl, ap, ap₂, arith}
use Rattle.std.proofs.lemmas.Bool.{or_left, and_from}
use Rattle.typed_ir.specs.declared.span.Span.{Span}
use Rattle.typed_ir.specs.Valuations.{Places, within}
use Rattle.typed_ir.specs.Stmts.{SizedTarget, Fixed, Moving, SizedStmt, SizedArms, Skip, Assign, Later, Then, If, Case, Arm, Default, certain, known_after, known_after_arms}
use Rattle.block_rules.specs.Paths.{leaves, index_leaves, item_leaves, some_below, early, flags_of, index_flags, reads_early, arms_early}

-- ---- bit by bit

mutual
  pub known_at : (st : SizedStmt) (p q : Places) (s i : ℕ) → p s i ≡ q s i → known_after st p s i ≡ known_after st q s i
  known_at Skip p q s i h = h
  known_at (Assign parts e) p q s i h = ap (λ b. b || certain parts s i) h
  known_at (Later parts e) p q s i h = h
  known_at (Then a b) p q s i h = known_at b (known_after a p) (known_after a q) s i (known_at a p q s i h)
  known_at (If c a b) p q s i h = ap₂ (λ x y. x && y) (known_at a p q s i h) (known_at b p q s i h)
  known_at (Case e arms) p q s i h = known_arms_at arms p q s i h

  pub known_arms_at : (arms : SizedArms) (p q : Places) (s i : ℕ) → p s i ≡ q s i → known_after_arms arms p s i ≡ known_after_arms arms q s i
  known_arms_at (Arm items body rest) p q s i h = ap₂ (λ x y. x && y) (known_at body p q s i h) (known_arms_at rest p q s i h)
  known_arms_at (Default otherwise) p q s i h = known_at otherwise p q s i h

mutual
  pub known_keeps : (st : SizedStmt) (p : Places) (s i : ℕ) → p s i ≡ true → known_after st p s i ≡ true
  known_keeps Skip p s i h = h
  known_keeps (Assign parts e) p s i h = or_left (p s i) (certain parts s i) h
  known_keeps (Later parts e) p s i h = h
  known_keeps (Then a b) p s i h = known_keeps b (known_after a p) s i (known_keeps a p s i h)
  known_keeps (If c a b) p s i h = and_from (known_after a p s i) (known_after b p s i) (known_keeps a p s i h) (known_keeps b p s i h)
  known_keeps (Case e arms) p s i h = known_arms_keep arms p s i h

  pub known_arms_keep : (arms : SizedArms) (p : Places) (s i : ℕ) → p s i ≡ true → known_after_arms arms p s i ≡ true
  known_arms_keep (Arm items body rest) p s i h =
      and_from (known_after body p s i) (known_after_arms rest p s i) (known_keeps body p s i h) (known_arms_keep rest p s i h)
  known_arms_keep (Default otherwise) p s i h = known_keeps otherwise p s i h

-- ---- flags

pub some_same : (n : ℕ) (f g : ℕ → Bool) → ((i : ℕ) → i < n → f i ≡ g i) → some_below n f ≡ some_below n g
unfolding some_below
some_same zero f g h = refl
some_same (suc n) f g h = ap₂ (λ a b. a || b) (h n (omega arith)) (some_same n f g (λ i k. h i (omega (arith, k))))

-- two sets of bits that a block writes, and two of those that are known of them
pub record Alike (w w' k k' : Places) : Type 0 where
  pub writes : (s i : ℕ) → i < 128 → w s i ≡ w' s i
  pub knows : (s i : ℕ) → i < 128 → w s i ≡ true → k s i ≡ k' s i

and_alike : (a w w' k k' : Bool) → w ≡ w' → (w ≡ true → k ≡ k') → (a && (w && not k)) ≡ (a && (w' && not k'))
and_alike a true w' k k' e h = ap₂ (λ x y. a && (x && not y)) e (h refl)
and_alike a false w' k k' e h = ap (λ x. a && (x && not k')) e

early_same : (p : Span) (w w' k k' : Places) → Alike w w' k k' → early w p k ≡ early w' p k'
early_same p w w' k k' h =
    some_same 128 (λ i. within p p.signal i && (w p.signal i && not (k p.signal i))) (λ i. within p p.signal i && (w' p.signal i && not (k' p.signal i)))
    (λ i small. and_alike (within p p.signal i) (w p.signal i) (w' p.signal i) (k p.signal i) (k' p.signal i) (h.writes p.signal i small) (h.knows p.signal i small))

flags_same : (ps : List Span) (w w' k k' : Places) → Alike w w' k k' → flags_of w ps k ≡ flags_of w' ps k'
flags_same [] w w' k k' h = refl
flags_same (p ∷ ps) w w' k k' h = ap₂ (λ x xs. x ∷ xs) (early_same p w w' k k' h) (flags_same ps w w' k k' h)

pub index_same : (ts : List SizedTarget) (w w' k k' : Places) → Alike w w' k k' → index_flags w ts k ≡ index_flags w' ts k'
index_same [] w w' k k' h = refl
index_same (Fixed lane ∷ ts) w w' k k' h =
    index_same ts w w' (λ s i. k s i || within lane.span s i) (λ s i. k' s i || within lane.span s i)
    (record { writes = h.writes; knows = λ s i small is. ap (λ b. b || within lane.span s i) (h.knows s i small is) })
index_same (Moving reach index ∷ ts) w w' k k' h = ap₂ (λ x y. x ++ y) (flags_same (leaves index) w w' k k' h) (index_same ts w w' k k' h)

mutual
  pub reads_same : (st : SizedStmt) (w w' k k' : Places) → Alike w w' k k' → reads_early w st k ≡ reads_early w' st k'
  reads_same Skip w w' k k' h = refl
  reads_same (Assign parts e) w w' k k' h = ap₂ (λ x y. x ++ y) (index_same parts w w' k k' h) (flags_same (leaves e) w w' k k' h)
  reads_same (Later parts e) w w' k k' h = ap₂ (λ x y. x ++ y) (flags_same (index_leaves parts) w w' k k' h) (flags_same (leaves e) w w' k k' h)
  reads_same (Then a b) w w' k k' h =
      ap₂ (λ x y. x ++ y) (reads_same a w w' k k' h)
      (reads_same b w w' (known_after a k) (known_after a k')
      (record { writes = h.writes; knows = λ s i small is. known_at a k k' s i (h.knows s i small is) }))
  reads_same (If c a b) w w' k k' h =
      ap₂ (λ x y. x ++ y) (flags_same (leaves c) w w' k k' h) (ap₂ (λ x y. x ++ y) (reads_same a w w' k k' h) (reads_same b w w' k k' h))
  reads_same (Case e arms) w w' k k' h = ap₂ (λ x y. x ++ y) (flags_same (leaves e) w w' k k' h) (arms_same arms w w' k k' h)

  pub arms_same : (arms : SizedArms) (w w' k k' : Places) → Alike w w' k k' → arms_early w arms k ≡ arms_early w' arms k'
  arms_same (Arm items body rest) w w' k k' h =
      ap₂ (λ x y. x ++ y) (flags_same (item_leaves items) w w' k k' h) (ap₂ (λ x y. x ++ y) (reads_same body w w' k k' h) (arms_same rest w w' k k' h))
  arms_same (Default otherwise) w w' k k' h = reads_same otherwise w w' k k' h
