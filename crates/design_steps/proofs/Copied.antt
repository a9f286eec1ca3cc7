-- What words hold after those of registers are copied over.
use Rattle.std.proofs.Common.{◌≡◌, ℕ, ◌+◌, ◌-◌, ◌<◌, ◌≤◌, ◌&&◌, nat_le, nat_lt, inl, inr, List, [], ◌∷◌, get_or, refl, sym, ap, ◌∙◌, subst, arith, true, true≢false}
use Rattle.std.proofs.lemmas.Bool.{leb-true, le-leb, ltb-true, ltb-false, and_from, cond-true, cond-false}
use Rattle.typed_ir.specs.Valuations.{Valuation, put}
use Rattle.typed_ir.specs.Orders.{Member}
use Rattle.typed_ir.specs.Flats.{are_below}
use Rattle.typed_ir.proofs.Cases.{by_cases, and_left, and_right}
use Rattle.typed_ir.proofs.Ready.{member_or}
use Rattle.word_steps.proofs.Words.{put-same, put-other}
use Rattle.word_steps.specs.Walks.{env_of}
use Rattle.design_steps.specs.Carries.{carried}
use Rattle.design_steps.specs.Moves.{block}

pub below_member : (rs : List ℕ) (n r : ℕ) → are_below rs n ≡ true → Member r rs → r < n
below_member [] n r h m = absurd m
below_member (s ∷ rs) n r h (inl e) = let less : s < n = ltb-true s n (and_left (nat_lt s n) (are_below rs n) h) in omega (arith, e, less)
below_member (s ∷ rs) n r h (inr m) = below_member rs n r (and_right (nat_lt s n) (are_below rs n) h) m

-- a place to which nothing is copied
pub carried_kept : (rs : List ℕ) (from to : ℕ) (w : Valuation) (k : ℕ) → ((r : ℕ) → Member r rs → k ≡ to + r → ⊥) → carried rs from to w k ≡ w k
carried_kept [] from to w k out = refl
carried_kept (r ∷ rs) from to w k out =
    carried_kept rs from to (put w (to + r) (w (from + r))) k (λ s m. out s (inr m))
    ∙ put-other w (to + r) (w (from + r)) k (out r (inl refl))

-- a register's word is the other one
pub carried_at : (rs : List ℕ) (from to n : ℕ) (w : Valuation) (r : ℕ) → are_below rs n ≡ true → ((a b : ℕ) → a < n → b < n → from + a ≡ to + b → ⊥)
    → Member r rs → carried rs from to w (to + r) ≡ w (from + r)
carried_at [] from to n w r below other m = absurd m
carried_at (s ∷ rs) from to n w r below other m =
    let rest = and_right (nat_lt s n) (are_below rs n) below in
    let w' = put w (to + s) (w (from + s)) in
    let less : s < n = ltb-true s n (and_left (nat_lt s n) (are_below rs n) below) in
    elim (member_or r rs) as (λ _. carried rs from to w' (to + r) ≡ w (from + r)) [
      | inl k ↦ carried_at rs from to n w' r rest other k
          ∙ put-other w (to + s) (w (from + s)) (from + r) (other r s (below_member rs n r rest k) less)
      | inr none ↦ carried_kept rs from to w' (to + r) (λ t k e. none (subst (λ z. Member z rs) (same t e) k))
          ∙ first m none
    ]
  where
    same : (t : ℕ) → to + r ≡ to + t → t ≡ r
    same t e = omega (arith, e)

    first : Member r (s ∷ rs) → (Member r rs → ⊥) → put w (to + s) (w (from + s)) (to + r) ≡ w (from + r)
    first (inl e) none = ap (λ z. put w (to + s) (w (from + s)) (to + z)) e ∙ put-same w (to + s) (w (from + s)) ∙ ap (λ z. w (from + z)) (sym e)
    first (inr k) none = absurd (none k)

-- words of which a block was copied
pub block_made : (from to count : ℕ) (old new : List ℕ)
    → ((k d : ℕ) → to ≤ k → k < to + count → get_or new k d ≡ get_or old (from + (k - to)) d) → ((k d : ℕ) → k < to → get_or new k d ≡ get_or old k d)
    → ((k d : ℕ) → to + count ≤ k → get_or new k d ≡ get_or old k d) → env_of new ≡ block from to count (env_of old)
block_made from to count old new copied below above = λ j k. at_ k j
  where
    at_ : (k : ℕ) → env_of new k ≡ block from to count (env_of old) k
    at_ k = by_cases (nat_le to k && nat_lt k (to + count))
        (λ yes. copied k 0 (leb-true to k (and_left (nat_le to k) (nat_lt k (to + count)) yes)) (ltb-true k (to + count) (and_right (nat_le to k) (nat_lt k (to + count)) yes))
        ∙ sym (cond-true (nat_le to k && nat_lt k (to + count)) (env_of old (from + (k - to))) (env_of old k) yes))
        (λ no. by_cases (nat_lt k to)
        (λ low. below k 0 (ltb-true k to low))
        (λ high. above k 0 (by_cases (nat_lt k (to + count))
        (λ in_. absurd (true≢false (sym (and_from (nat_le to k) (nat_lt k (to + count)) (le-leb to k (ltb-false k to high)) in_) ∙ no)))
        (λ out. ltb-false k (to + count) out)))
        ∙ sym (cond-false (nat_le to k && nat_lt k (to + count)) (env_of old (from + (k - to))) (env_of old k) no))
