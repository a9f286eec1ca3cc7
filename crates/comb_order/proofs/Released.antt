-- What one placed node sets free.
use Rattle.std.proofs.Common.{◌≡◌, ℕ, ◌+◌, ◌-◌, ◌<◌, ◌≤◌, ◌==◌, Bool, true, false, cond, inl, inr, List, [], ◌∷◌, refl, sym, ◌∙◌, ap, subst, arith}
use Rattle.std.proofs.lemmas.Bool.{eqb-true, eq-eqb, cond-true, cond-false}
use Rattle.typed_ir.specs.Valuations.{put}
use Rattle.typed_ir.specs.Orders.{Member, Distinct}
use Rattle.typed_ir.proofs.Cases.{by_cases}
use Rattle.typed_ir.proofs.Members.{member_append, member_left, member_right, distinct_append}
use Rattle.comb_order.specs.Graphs.{times, lowered, released}

pub put-same : (c : ℕ → ℕ) (t v x : ℕ) → (x == t) ≡ true → put c t v x ≡ v
put-same c t v x h = cond-true (x == t) v (c x) h

pub put-other : (c : ℕ → ℕ) (t v x : ℕ) → (x == t) ≡ false → put c t v x ≡ c x
put-other c t v x h = cond-false (x == t) v (c x) h

pub times-same : (t x : ℕ) (xs : List ℕ) → (t == x) ≡ true → times t (x ∷ xs) ≡ 1 + times t xs
times-same t x xs h = ap (λ z. z + times t xs) (cond-true (t == x) 1 0 h)

pub times-other : (t x : ℕ) (xs : List ℕ) → (t == x) ≡ false → times t (x ∷ xs) ≡ times t xs
times-other t x xs h = let z : 0 + times t xs ≡ times t xs = omega arith in ap (λ z. z + times t xs) (cond-false (t == x) 1 0 h) ∙ z

-- counts that are high enough for a row are so for the rest of it
pub enough_left : (t : ℕ) (ts : List ℕ) (c : ℕ → ℕ) → ((x : ℕ) → times x (t ∷ ts) ≤ c x) → (x : ℕ) → times x ts ≤ c x
enough_left t ts c h x = let k : times x (t ∷ ts) ≤ c x = h x in omega (arith, k)

pub lowered-is : (row : List ℕ) (c : ℕ → ℕ) → ((x : ℕ) → times x row ≤ c x) → (x : ℕ) → lowered row c x + times x row ≡ c x
lowered-is [] c h x = omega arith
lowered-is (t ∷ ts) c h x =
    let now = lowered ts c in
    let low : now x + times x ts ≡ c x = lowered-is ts c (enough_left t ts c h) x in
    by_cases (x == t)
    (λ yes. let a : times x (t ∷ ts) ≡ 1 + times x ts = times-same x t ts yes in
    let b : put now t (now t - 1) x ≡ now t - 1 = put-same now t (now t - 1) x yes in
    let d : now x ≡ now t = ap now (eqb-true x t yes) in
    let k : times x (t ∷ ts) ≤ c x = h x in omega (arith, low, a, b, d, k))
    (λ no. let a : times x (t ∷ ts) ≡ times x ts = times-other x t ts no in
    let b : put now t (now t - 1) x ≡ now x = put-other now t (now t - 1) x no in omega (arith, low, a, b))

-- the part for one node of the row
pub first_member : (x t : ℕ) (b : Bool) → Member x (cond b (t ∷ []) []) → (b ≡ true) × (x ≡ t)
first_member x t true (inl e) = (refl, e)
first_member x t true (inr m) = absurd m
first_member x t false m = absurd m

member_first : (t : ℕ) (b : Bool) → b ≡ true → Member t (cond b (t ∷ []) [])
member_first t b h = subst (Member t) (sym (cond-true b (t ∷ []) [] h)) (inl refl)

-- a released node had a count, and all of it was in the row
pub released-says : (row : List ℕ) (c : ℕ → ℕ) → ((x : ℕ) → times x row ≤ c x) → (x : ℕ) → Member x (released row c) → (c x ≡ times x row) × (0 < c x)
released-says [] c h x m = absurd m
released-says (t ∷ ts) c h x m =
    let now = lowered ts c in
    let k : times x (t ∷ ts) ≤ c x = h x in
    elim (member_append x (released ts c) (cond (now t == 1) (t ∷ []) []) m) as (λ _. (c x ≡ times x (t ∷ ts)) × (0 < c x)) [
      | inl a ↦
          let i : (c x ≡ times x ts) × (0 < c x) = released-says ts c (enough_left t ts c h) x a in
          let i0 : c x ≡ times x ts = i.0 in
          (omega (arith, i0, k), i.1)
      | inr b ↦
          let f : ((now t == 1) ≡ true) × (x ≡ t) = first_member x t (now t == 1) b in
          let one : now t ≡ 1 = eqb-true (now t) 1 f.0 in
          let d : now x ≡ now t = ap now f.1 in
          let s : times x (t ∷ ts) ≡ 1 + times x ts = times-same x t ts (eq-eqb x t f.1) in
          let l : now x + times x ts ≡ c x = lowered-is ts c (enough_left t ts c h) x in
          (omega (arith, one, d, s, l), omega (arith, one, d, l))
    ]

-- and each such node is released
pub released-all : (row : List ℕ) (c : ℕ → ℕ) → ((x : ℕ) → times x row ≤ c x) → (x : ℕ) → c x ≡ times x row → 0 < c x → Member x (released row c)
released-all [] c h x e some = absurd (omega (arith, e, some))
released-all (t ∷ ts) c h x e some =
    let now = lowered ts c in
    by_cases (x == t)
    (λ yes. let is : x ≡ t = eqb-true x t yes in
    let s : times x (t ∷ ts) ≡ 1 + times x ts = times-same x t ts yes in
    let l : now x + times x ts ≡ c x = lowered-is ts c (enough_left t ts c h) x in
    let d : now x ≡ now t = ap now is in
    let one : now t ≡ 1 = omega (arith, e, s, l, d) in
    member_right x (released ts c) (cond (now t == 1) (t ∷ []) [])
    (subst (λ z. Member z (cond (now t == 1) (t ∷ []) [])) (sym is) (member_first t (now t == 1) (eq-eqb (now t) 1 one))))
    (λ no. let s : times x (t ∷ ts) ≡ times x ts = times-other x t ts no in
    member_left x (released ts c) (cond (now t == 1) (t ∷ []) [])
    (released-all ts c (enough_left t ts c h) x (omega (arith, e, s)) some))

first_distinct : (t : ℕ) (b : Bool) → Distinct (cond b (t ∷ []) [])
first_distinct t true = ((λ m. m), tt)
first_distinct t false = tt

pub released-once : (row : List ℕ) (c : ℕ → ℕ) → ((x : ℕ) → times x row ≤ c x) → Distinct (released row c)
released-once [] c h = tt
released-once (t ∷ ts) c h =
    let one = lowered ts c t == 1 in
    distinct_append (released ts c) (cond one (t ∷ []) []) (released-once ts c (enough_left t ts c h)) (first_distinct t one)
    (λ x a b.
    let f : (one ≡ true) × (x ≡ t) = first_member x t one b in
    let s : times x (t ∷ ts) ≡ 1 + times x ts = times-same x t ts (eq-eqb x t f.1) in
    let i : c x ≡ times x ts = (released-says ts c (enough_left t ts c h) x a).0 in
    let k : times x (t ∷ ts) ≤ c x = h x in
    omega (arith, s, i, k))
