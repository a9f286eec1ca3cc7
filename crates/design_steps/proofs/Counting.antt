-- Numbers one after another.
use Rattle.std.proofs.Common.{◌≡◌, ℕ, zero, suc, ◌+◌, ◌<◌, ◌≤◌, ◌==◌, [], ◌∷◌, ◌++◌, refl, ap, ◌∙◌, arith, inl, inr}
use Rattle.std.specs.Prelude.{slice_index}
use Rattle.std.proofs.lemmas.Bool.{eqb-true, eqb-false}
use Rattle.std.specs.List.{range_with_len}
use Rattle.typed_ir.specs.Orders.{Member}
use Rattle.typed_ir.proofs.Cases.{by_cases}

pub run_in : (a n s : ℕ) → s < n → slice_index (range_with_len a n) s ≡ a + s
run_in a zero s h = absurd (omega (arith, h))
run_in a (suc n) zero h = let e : a ≡ a + 0 = omega arith in e
run_in a (suc n) (suc s) h = let e : a + 1 + s ≡ a + suc s = omega arith in run_in (a + 1) n s (omega (arith, h)) ∙ e

pub run_out : (a n s : ℕ) → n ≤ s → slice_index (range_with_len a n) s ≡ 0
run_out a zero s h = refl
run_out a (suc n) zero h = absurd (omega (arith, h))
run_out a (suc n) (suc s) h = run_out (a + 1) n s (omega (arith, h))

pub run_push : (a n : ℕ) → range_with_len a n ++ (a + n) ∷ [] ≡ range_with_len a (n + 1)
run_push a zero = let e : a + 0 ≡ a = omega arith in ap (λ k. k ∷ []) e
run_push a (suc n) =
    let e : a + suc n ≡ a + 1 + n = omega arith in
    let f : suc (n + 1) ≡ suc n + 1 = omega arith in
    ap (λ k. a ∷ (range_with_len (a + 1) n ++ k ∷ [])) e ∙ ap (λ xs. a ∷ xs) (run_push (a + 1) n) ∙ ap (range_with_len a) f

in_run : (a n s : ℕ) → a ≤ s → s < a + n → Member s (range_with_len a n)
in_run a zero s low high = absurd (omega (arith, low, high))
in_run a (suc n) s low high = by_cases (s == a)
    (λ yes. inl (eqb-true s a yes))
    (λ no. inr (in_run (a + 1) n s (let other = eqb-false s a no in further other) (omega (arith, high))))
  where
    further : (s ≡ a → ⊥) → a + 1 ≤ s
    further other = omega (arith, other, low)

below_run : (a n s : ℕ) → Member s (range_with_len a n) → s < a + n
below_run a zero s m = absurd m
below_run a (suc n) s (inl e) = omega (arith, e)
below_run a (suc n) s (inr m) = let h = below_run (a + 1) n s m in omega (arith, h)

-- the same from 0 on
pub in_all : (n s : ℕ) → s < n → Member s (range_with_len 0 n)
in_all n s h = in_run 0 n s (omega arith) (omega (arith, h))

pub below_all : (n s : ℕ) → Member s (range_with_len 0 n) → s < n
below_all n s m = let h = below_run 0 n s m in omega (arith, h)
