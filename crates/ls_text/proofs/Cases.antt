-- Cases on tests, and on what calls answer.
use Rattle.std.proofs.Common.{◌≡◌, ◌==◌, ◌∙◌, ℕ, suc, Bool, true, false, refl, true≢false, sym, ap, arith, ◌||◌, cond, Result, Ok, Err, IfOk}
use Rattle.std.proofs.lemmas.Bool.{eqb-true, eqb-false, eq-eqb, ne_eqb}

pub by_cases : {P : Type 0} (b : Bool) → (b ≡ true → P) → (b ≡ false → P) → P
by_cases true f g = f refl
by_cases false f g = g refl

-- a test of equality both ways
pub turned : (m n : ℕ) → (m == n) ≡ (n == m)
turned m n = by_cases (m == n)
    (λ t. t ∙ sym (eq-eqb n m (sym (eqb-true m n t))))
    (λ f. f ∙ sym (by_cases (n == m) (λ u. absurd (true≢false (sym (eq-eqb m n (sym (eqb-true n m u))) ∙ f))) (λ g. g)))

-- numbers that are one more
pub same_suc : (m n : ℕ) → (suc m == suc n) ≡ (m == n)
same_suc m n = by_cases (m == n)
    (λ same. eq-eqb (suc m) (suc n) (ap suc (eqb-true m n same)) ∙ sym same)
    (λ out. ne_eqb (suc m) (suc n) (λ e. eqb-false m n out (omega (arith, e))) ∙ sym out)

pub cond_or : (a b : Bool) → cond a true b ≡ (a || b)
cond_or true b = refl
cond_or false b = refl

-- whatever a call answers
pub any_ok : {A E P : Type 0} (r : Result A E) → P → IfOk r (λ _. P)
any_ok (Ok x) h = h
any_ok (Err e) h = tt

-- a result has one value, or one fault
pub same_ok : {A E : Type 0} (r : Result A E) (x y : A) → r ≡ Ok x → r ≡ Ok y → x ≡ y
same_ok {A} {E} r x y one other = ap value_or (sym one ∙ other)
  where
    value_or : Result A E → A
    value_or (Ok z) = z
    value_or (Err e) = x

pub same_err : {A E : Type 0} (r : Result A E) (e d : E) → r ≡ Err e → r ≡ Err d → e ≡ d
same_err {A} {E} r e d one other = ap fault_or (sym one ∙ other)
  where
    fault_or : Result A E → E
    fault_or (Ok x) = e
    fault_or (Err f) = f
