-- Where registers stand side by side, and their next values do, a block of words that is copied is all registers that are copied.
use Rattle.std.proofs.Common.{true, false, true≢false, ◌≡◌, ℕ, zero, suc, ◌+◌, ◌-◌, ◌<◌, ◌≤◌, ◌&&◌, nat_le, nat_lt, inl, inr, List, [], ◌∷◌, length, get_or, refl, sym, ap, ◌∙◌, arith}
use Rattle.std.proofs.lemmas.Bool.{leb-true, ltb-true, le-leb, lt-ltb, and_from, cond-true, cond-false}
use Rattle.typed_ir.specs.Orders.{Member}
use Rattle.typed_ir.specs.Flats.{are_below}
use Rattle.typed_ir.specs.Valuations.{Valuation}
use Rattle.typed_ir.proofs.Cases.{by_cases, and_left, and_right}
use Rattle.design_steps.specs.Carries.{carried}
use Rattle.design_steps.specs.Moves.{moved, block}
use Rattle.design_steps.proofs.Copied.{carried_kept, carried_at}
use Rattle.design_steps.proofs.Gathered.{Gathers}

read_member : (rs : List ℕ) (i : ℕ) → i < length rs → Member (get_or rs i 0) rs
read_member [] i h = absurd (omega (arith, h))
read_member (r ∷ rs) zero h = inl refl
read_member (r ∷ rs) (suc i) h = inr (read_member rs i (omega (arith, h)))

-- where a register stands in the list
record Stands (rs : List ℕ) (r : ℕ) : Type 0 where
  place : ℕ
  within : place < length rs
  is : get_or rs place 0 ≡ r

member_place : (rs : List ℕ) (r : ℕ) → Member r rs → Stands rs r
member_place [] r m = absurd m
member_place (s ∷ rs) r (inl e) = record { place = 0; within = omega arith; is = sym e }
member_place (s ∷ rs) r (inr m) = let p = member_place rs r m in let h = p.within in record { place = suc p.place; within = omega (arith, h); is = p.is }

-- what a block's place holds then
block_in : (from to count : ℕ) (w : Valuation) (k : ℕ) → (nat_le to k && nat_lt k (to + count)) ≡ true → block from to count w k ≡ w (from + (k - to))
block_in from to count w k h = cond-true (nat_le to k && nat_lt k (to + count)) (w (from + (k - to))) (w k) h

block_out : (from to count : ℕ) (w : Valuation) (k : ℕ) → (nat_le to k && nat_lt k (to + count)) ≡ false → block from to count w k ≡ w k
block_out from to count w k h = cond-false (nat_le to k && nat_lt k (to + count)) (w (from + (k - to))) (w k) h

module _ (t rs : List ℕ) (n own next : ℕ) (once : (a b : ℕ) → moved t a ≡ moved t b → a ≡ b) (below : are_below rs n ≡ true) (g : Gathers t rs n own next) (w : Valuation) where
  abbrev z : Valuation
  z = λ k. w (moved t k)

  inside : (k : ℕ) → (nat_le own (moved t k) && nat_lt (moved t k) (own + length rs)) ≡ true → w (next + (moved t k - own)) ≡ carried rs (n + 1) 1 z k
  inside k h =
      let j = moved t k in
      let low : own ≤ j = leb-true own j (and_left (nat_le own j) (nat_lt j (own + length rs)) h) in
      let high : j < own + length rs = ltb-true j (own + length rs) (and_right (nat_le own j) (nat_lt j (own + length rs)) h) in
      let i = j - own in
      let less : i < length rs = omega (arith, low, high) in
      let r = get_or rs i 0 in
      let back : own + i ≡ j = omega (arith, low) in
      let at_ : r + 1 ≡ k = once (r + 1) k (g.owns i less ∙ back) in
      let turn : 1 + r ≡ k = omega (arith, at_) in
      let other : r + 1 + n ≡ n + 1 + r = omega arith in
      ap w (sym (g.nexts i less) ∙ ap (moved t) other)
      ∙ sym (carried_at rs (n + 1) 1 n z r below (λ a b x y e. omega (arith, x, y, e)) (read_member rs i less))
      ∙ ap (carried rs (n + 1) 1 z) turn

  outside : (k : ℕ) → (nat_le own (moved t k) && nat_lt (moved t k) (own + length rs)) ≡ false → z k ≡ carried rs (n + 1) 1 z k
  outside k h = sym (carried_kept rs (n + 1) 1 z k (λ r m e. no r (member_place rs r m) e))
    where
      no : (r : ℕ) → Stands rs r → k ≡ 1 + r → ⊥
      no r p e =
          let less = p.within in
          let turn : get_or rs p.place 0 + 1 ≡ k = (let same = p.is in omega (arith, e, same)) in
          let at_ : moved t k ≡ own + p.place = ap (moved t) (sym turn) ∙ g.owns p.place less in
          true≢false (sym (and_from (nat_le own (moved t k)) (nat_lt (moved t k) (own + length rs)) (le-leb own (moved t k) (omega (arith, at_)))
          (lt-ltb (moved t k) (own + length rs) (omega (arith, at_, less)))) ∙ h)

  pub block_back : (λ k. block next own (length rs) w (moved t k)) ≡ carried rs (n + 1) 1 z
  block_back = λ j k. at_ k j
    where
      at_ : (k : ℕ) → block next own (length rs) w (moved t k) ≡ carried rs (n + 1) 1 z k
      at_ k = by_cases (nat_le own (moved t k) && nat_lt (moved t k) (own + length rs))
          (λ yes. block_in next own (length rs) w (moved t k) yes ∙ inside k yes)
          (λ no. block_out next own (length rs) w (moved t k) no ∙ outside k no)
