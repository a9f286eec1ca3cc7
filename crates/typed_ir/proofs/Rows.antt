-- Rows of a table that changes.
use Rattle.std.proofs.Common.{◌≡◌, ℕ, zero, suc, ◌<◌, ◌≤◌, ◌==◌, List, [], ◌∷◌, ◌++◌, length, get_or, set, cond, append-nil, refl, sym, ◌∙◌, ap, eqb-true, arith}
use Rattle.std.specs.declared.vec.Vec.{Vec}
use Rattle.std.specs.Global.{Global}
use Rattle.std.proofs.lemmas.Bool.{eqb-false}
use Rattle.typed_ir.specs.Rows.{row_in}
use Rattle.typed_ir.proofs.Cases.{by_cases}

pub row_same : {A : Type 0} (table : List (Vec A Global)) (k : ℕ) (r : Vec A Global) → k < length table → row_in (set table k r) k ≡ r.items
row_same [] k r h = absurd (omega (arith, h))
row_same (x ∷ xs) zero r h = refl
row_same (x ∷ xs) (suc k) r h = row_same xs k r (omega (arith, h))

pub row_other : {A : Type 0} (table : List (Vec A Global)) (k s : ℕ) (r : Vec A Global) → (s ≡ k → ⊥) → row_in (set table k r) s ≡ row_in table s
row_other [] k s r h = refl
row_other (x ∷ xs) zero zero r h = absurd (h refl)
row_other (x ∷ xs) zero (suc s) r h = refl
row_other (x ∷ xs) (suc k) zero r h = refl
row_other (x ∷ xs) (suc k) (suc s) r h = row_other xs k s r (λ e. h (ap suc e))

pub row_read : {A : Type 0} (table : List (Vec A Global)) (k : ℕ) (r : Vec A Global) → k < length table → row_in table k ≡ (get_or table k r).items
row_read [] k r h = absurd (omega (arith, h))
row_read (x ∷ xs) zero r h = refl
row_read (x ∷ xs) (suc k) r h = row_read xs k r (omega (arith, h))

-- past the end there is none
pub row_past : {A : Type 0} (table : List (Vec A Global)) (k : ℕ) → length table ≤ k → row_in table k ≡ []
row_past [] k h = refl
row_past (x ∷ xs) zero h = absurd (omega (arith, h))
row_past (x ∷ xs) (suc k) h = row_past xs k (omega (arith, h))

-- one more empty row
pub row_more : {A : Type 0} (table : List (Vec A Global)) (r : Vec A Global) → r.items ≡ [] → ((s : ℕ) → row_in table s ≡ []) → (s : ℕ) → row_in (table ++ r ∷ []) s ≡ []
row_more [] r e h zero = e
row_more [] r e h (suc s) = refl
row_more (x ∷ xs) r e h zero = h zero
row_more (x ∷ xs) r e h (suc s) = row_more xs r e (λ k. h (suc k)) s

-- one more in one row
pub row_pushed : {A : Type 0} (table : List (Vec A Global)) (k : ℕ) (x : A) (d new : Vec A Global) → k < length table
    → new.items ≡ (get_or table k d).items ++ x ∷ []
    → (i : ℕ) → row_in (set table k new) i ≡ row_in table i ++ cond (k == i) (x ∷ []) []
row_pushed table k x d new h more i = by_cases (k == i)
    (λ here. ap (row_in (set table k new)) (sym (eqb-true k i here)) ∙ row_same table k new h ∙ more
    ∙ ap (λ zs. zs ++ x ∷ []) (sym (row_read table k d h) ∙ ap (row_in table) (eqb-true k i here))
    ∙ ap (λ b. row_in table i ++ cond b (x ∷ []) []) (sym here))
    (λ there. row_other table k i new (λ e. eqb-false k i there (sym e)) ∙ sym (append-nil (row_in table i))
    ∙ ap (λ b. row_in table i ++ cond b (x ∷ []) []) (sym there))
