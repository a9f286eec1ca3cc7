-- Where an order exists there is no loop, and where none does there is one loop alone.
use Rattle.std.proofs.Common.{◌≡◌, ℕ, ◌<◌, ◌⊎◌, inl, inr, List, [], ◌∷◌, refl, sym, ◌∙◌, ap₂, subst, arith}
use Rattle.typed_ir.specs.Orders.{Member, IsOrderOf}
use Rattle.comb_order.specs.Loops.{IsLeast, IsStuck, Next, IsWalk, IsLoop, HasNoLoop, HasOneLoop}
use Rattle.comb_order.proofs.Stuck.{no_stuck}

-- an order places the node at which the walk to the loop begins
pub no_loop : (before : ℕ → ℕ → Type 0) (count : ℕ) (order : List ℕ) → IsOrderOf before count order → HasNoLoop before count
no_loop before count order ord first rest l = no_stuck before count order ord l.start l.starts.0

least_one : (P : ℕ → Type 0) (a b : ℕ) → IsLeast P a → IsLeast P b → a ≡ b
least_one P a b p q =
    let l : a < b → ⊥ = λ h. q.1 a h p.0 in
    let g : b < a → ⊥ = λ h. p.1 b h q.0 in
    omega (arith, l, g)

next_one : (before : ℕ → ℕ → Type 0) (count k a b : ℕ) → Next before count k a → Next before count k b → a ≡ b
next_one before count k a b p q = least_one (λ j. IsStuck before count j × before j k) a b p q

-- a walk doesn't leave what each step stays in
walk_stays : (before : ℕ → ℕ → Type 0) (count : ℕ) (P : ℕ → Type 0) → ((k n : ℕ) → P k → Next before count k n → P n)
    → (a : ℕ) (xs : List ℕ) (b : ℕ) → IsWalk before count a xs b → P a → P b
walk_stays before count P stays a [] b w p = subst P w p
walk_stays before count P stays a (x ∷ xs) b w p =
    walk_stays before count P stays w.1.0 xs b w.1.2 (stays x w.1.0 (subst P w.0 p) w.1.1)

-- a walk goes on to its end from each of its nodes
walk_from : (before : ℕ → ℕ → Type 0) (count a : ℕ) (xs : List ℕ) (b k : ℕ) → IsWalk before count a xs b → Member k xs
    → (ys : List ℕ) × IsWalk before count k ys b
walk_from before count a [] b k w m = absurd m
walk_from before count a (x ∷ xs) b k w (inl e) = (x ∷ xs, (e, w.1))
walk_from before count a (x ∷ xs) b k w (inr m) = walk_from before count w.1.0 xs b k w.1.2 m

walk_first : (before : ℕ → ℕ → Type 0) (count a : ℕ) (xs : List ℕ) (b : ℕ) → IsWalk before count a xs b → Member a xs ⊎ (a ≡ b)
walk_first before count a [] b w = inr w
walk_first before count a (x ∷ xs) b w = inl (inl w.0)

later : (n x : ℕ) (xs : List ℕ) (b : ℕ) → Member n xs ⊎ (n ≡ b) → Member n (x ∷ xs) ⊎ (n ≡ b)
later n x xs b (inl m) = inl (inr m)
later n x xs b (inr e) = inr e

-- the node after one of a walk is one of it, or its end
walk_next : (before : ℕ → ℕ → Type 0) (count a : ℕ) (xs : List ℕ) (b k n : ℕ) → IsWalk before count a xs b → Member k xs → Next before count k n
    → Member n xs ⊎ (n ≡ b)
walk_next before count a [] b k n w m s = absurd m
walk_next before count a (x ∷ xs) b k n w (inl e) s =
    let same : n ≡ w.1.0 = next_one before count x n w.1.0 (subst (λ z. Next before count z n) e s) w.1.1 in
    later n x xs b (subst (λ z. Member z xs ⊎ (z ≡ b)) (sym same) (walk_first before count w.1.0 xs b w.1.2))
walk_next before count a (x ∷ xs) b k n w (inr m) s = later n x xs b (walk_next before count w.1.0 xs b k n w.1.2 m s)

circle_stays : (before : ℕ → ℕ → Type 0) (count first : ℕ) (rest : List ℕ) → IsWalk before count first (first ∷ rest) first
    → (k n : ℕ) → Member k (first ∷ rest) → Next before count k n → Member n (first ∷ rest)
circle_stays before count first rest c k n m s =
    elim (walk_next before count first (first ∷ rest) first k n c m s) as (λ _. Member n (first ∷ rest)) [ inl h ↦ h | inr e ↦ inl e ]

-- two walks from one node have a node in common, in what neither leaves
meet : (before : ℕ → ℕ → Type 0) (count : ℕ) (P Q : ℕ → Type 0)
    → ((k n : ℕ) → P k → Next before count k n → P n) → ((k n : ℕ) → Q k → Next before count k n → Q n)
    → (a : ℕ) (xs : List ℕ) (b : ℕ) (ys : List ℕ) (c : ℕ) → IsWalk before count a xs b → IsWalk before count a ys c → P b → Q c → (k : ℕ) × P k × Q k
meet before count P Q in_p in_q a [] b ys c v w p q = (c, walk_stays before count P in_p a ys c w (subst P (sym v) p), q)
meet before count P Q in_p in_q a (x ∷ xs) b [] c v w p q = (b, p, walk_stays before count Q in_q a (x ∷ xs) b v (subst Q (sym w) q))
meet before count P Q in_p in_q a (x ∷ xs) b (y ∷ ys) c v w p q =
    let same : w.1.0 ≡ v.1.0 =
    next_one before count x w.1.0 v.1.0 (subst (λ z. Next before count z w.1.0) (sym w.0 ∙ v.0) w.1.1) v.1.1 in
    meet before count P Q in_p in_q v.1.0 xs b ys c v.1.2 (subst (λ z. IsWalk before count z ys c) same w.1.2) p q

-- one walk from a node to the first time that it comes to another
walk_one : (before : ℕ → ℕ → Type 0) (count a : ℕ) (xs ys : List ℕ) (b : ℕ) → IsWalk before count a xs b → IsWalk before count a ys b
    → (Member b xs → ⊥) → (Member b ys → ⊥) → xs ≡ ys
walk_one before count a [] [] b v w p q = refl
walk_one before count a [] (y ∷ ys) b v w p q = absurd (q (inl (sym v ∙ w.0)))
walk_one before count a (x ∷ xs) [] b v w p q = absurd (p (inl (sym w ∙ v.0)))
walk_one before count a (x ∷ xs) (y ∷ ys) b v w p q =
    let same : w.1.0 ≡ v.1.0 =
    next_one before count x w.1.0 v.1.0 (subst (λ z. Next before count z w.1.0) (sym w.0 ∙ v.0) w.1.1) v.1.1 in
    ap₂ (λ z zs. z ∷ zs) (sym v.0 ∙ w.0)
    (walk_one before count v.1.0 xs ys b v.1.2 (subst (λ z. IsWalk before count z ys b) same w.1.2) (λ m. p (inr m)) (λ m. q (inr m)))

-- the first of a circle isn't below the first of another that it meets
reaches : (before : ℕ → ℕ → Type 0) (count first : ℕ) (rest : List ℕ) (other : ℕ) (more : List ℕ) (k : ℕ)
    → IsLoop before count first rest → IsLoop before count other more → Member k (first ∷ rest) → Member k (other ∷ more)
    → (first ≡ other) ⊎ (other < first)
reaches before count first rest other more k l m here there =
    let onward : (ys : List ℕ) × IsWalk before count k ys first = walk_from before count first (first ∷ rest) first k l.circle here in
    least_or (walk_stays before count (λ z. Member z (other ∷ more)) (circle_stays before count other more m.circle) k onward.0 first onward.1 there)
  where
    least_or : Member first (other ∷ more) → (first ≡ other) ⊎ (other < first)
    least_or (inl e) = inl e
    least_or (inr h) = inr (m.least first h)

one_first : (a b : ℕ) → (a ≡ b) ⊎ (b < a) → (b ≡ a) ⊎ (a < b) → a ≡ b
one_first a b (inl e) q = e
one_first a b (inr l) (inl e) = sym e
one_first a b (inr l) (inr g) = absurd (omega (arith, l, g))

one_rest : (before : ℕ → ℕ → Type 0) (count first : ℕ) (rest more : List ℕ) → IsLoop before count first rest → IsLoop before count first more → rest ≡ more
one_rest before count first rest more l m =
    let v : (n : ℕ) × Next before count first n × IsWalk before count n rest first = l.circle.1 in
    let w : (n : ℕ) × Next before count first n × IsWalk before count n more first = m.circle.1 in
    walk_one before count v.0 rest more first v.2
    (subst (λ z. IsWalk before count z more first) (next_one before count first w.0 v.0 w.1 v.1) w.2) l.once.0 m.once.0

pub one_loop : (before : ℕ → ℕ → Type 0) (count : ℕ) → HasOneLoop before count
one_loop before count first rest other more l m =
    let same : m.start ≡ l.start = least_one (IsStuck before count) m.start l.start m.starts l.starts in
    let k : (k : ℕ) × Member k (first ∷ rest) × Member k (other ∷ more) =
    meet before count (λ z. Member z (first ∷ rest)) (λ z. Member z (other ∷ more))
    (circle_stays before count first rest l.circle) (circle_stays before count other more m.circle)
    l.start l.lead l.enters m.lead m.enters l.walks (subst (λ z. IsWalk before count z m.lead m.enters) same m.walks) l.on m.on in
    let head : first ≡ other = one_first first other
    (reaches before count first rest other more k.0 l m k.1 k.2) (reaches before count other more first rest k.0 m l k.2 k.1) in
    ap₂ (λ z zs. z ∷ zs) head (one_rest before count first rest more l (subst (λ z. IsLoop before count z more) (sym head) m))
