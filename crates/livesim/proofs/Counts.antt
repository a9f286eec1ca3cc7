-- How a shelf's count of faults rises.
use Rattle.std.proofs.Common.{◌≡◌, ◌⊎◌, inl, inr, ℕ, zero, suc, ◌+◌, ◌-◌, ◌^◌, min, Bool, true, false, cond, List, [], ◌∷◌, ◌++◌, refl, sym, ap, ◌∙◌, subst, arith}
use Rattle.std.specs.List.{list_any}
use Rattle.ls_port.specs.Causes.{Rose}
use Rattle.live_session.specs.Loads.{HasFailed, is_broken}
use Rattle.live_session.specs.Verdicts.{Told}
use Rattle.livesim.specs.Runs.{RisesBy, count_broken}

once_more : (most a b c n m : ℕ) → n + 1 ≡ m → b ≡ min (a + n) most → c ≡ min (b + 1) most → c ≡ min (a + m) most
once_more most a b c n m is first second = grind arith

pub rises_once : (n a b c : ℕ) → RisesBy n a b → Rose b c → RisesBy (n + 1) a c
rises_once zero a b c first second = second ∙ ap (λ k. min (k + 1) (2 ^ 64 - 1)) first
rises_once (suc n) a b c first second =
    let one : suc (suc n) ≡ suc n + 1 = omega arith in
    subst (λ k. RisesBy k a c) one (once_more (2 ^ 64 - 1) a b c (suc n) (suc (suc n)) (sym one) first second)

-- a command more
pub rises_more : (n a b c : ℕ) (failed : Bool) → RisesBy n a b → HasFailed failed b c → RisesBy (n + cond failed 1 0) a c
rises_more n a b c true first second = rises_once n a b c first second
rises_more n a b c false first second =
    let same : n ≡ n + 0 = omega arith in
    subst (λ k. RisesBy k a c) same (subst (RisesBy n a) (sym second) first)

pub broken_more : (ts : List Told) (t : Told) → count_broken (ts ++ t ∷ []) ≡ count_broken ts + cond (list_any is_broken t.loads) 1 0
broken_more [] t = by (list_any is_broken t.loads)
  where
    by : (b : Bool) → cond b 1 0 + 0 ≡ 0 + cond b 1 0
    by true = refl
    by false = refl
broken_more (s ∷ ts) t =
    let more = broken_more ts t in
    sum (cond (list_any is_broken s.loads) 1 0) (count_broken ts) (cond (list_any is_broken t.loads) 1 0) (count_broken (ts ++ t ∷ [])) more
  where
    sum : (a b c d : ℕ) → d ≡ b + c → a + d ≡ a + b + c
    sum a b c d is = omega (arith, is)

-- memory ran out, where the shelf may have failed once more
pub rises_perhaps : (n a b c status : ℕ) → status ≡ 5 → RisesBy n a b → (c ≡ b) ⊎ Rose b c → RisesBy n a c ⊎ ((status ≡ 5) × RisesBy (n + 1) a c)
rises_perhaps n a b c status five first (inl same) = inl (subst (RisesBy n a) (sym same) first)
rises_perhaps n a b c status five first (inr rose) = inr (five, rises_once n a b c first rose)
