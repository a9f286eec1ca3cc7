-- One place of a list is set.
use Rattle.std.proofs.Common.{◌≡◌, ◌∙◌, ℕ, zero, suc, ◌%◌, ◌^◌, ◌<◌, ◌≤◌, Bool, true, List, [], ◌∷◌, length, map, set, get_or, refl, ap, ap₂, arith}
use Rattle.typed_ir.specs.Cycles.{Signal}
use Rattle.typed_ir.specs.declared.unit_signal.UnitSignal.{UnitSignal}
use Rattle.typed_ir.specs.Units.{signal_within}
use Rattle.unit_build.specs.Settled.{flagged}
use Rattle.unit_build.specs.Building.{begins_with}

pub flag_set : (bs : List Bool) (i k : ℕ) → i ≡ k → i < length bs → set bs i true ≡ flagged k bs
flag_set [] i k is h = absurd (omega (arith, h))
flag_set (b ∷ bs) zero zero is h = refl
flag_set (b ∷ bs) zero (suc k) is h = absurd (omega (arith, is))
flag_set (b ∷ bs) (suc i) zero is h = absurd (omega (arith, is))
flag_set (b ∷ bs) (suc i) (suc k) is h = ap (λ (cs : List Bool). b ∷ cs) (flag_set bs i k (omega (arith, is)) (omega (arith, h)))

pub flag_beyond : (bs : List Bool) (i k : ℕ) → i ≡ k → length bs ≤ i → bs ≡ flagged k bs
flag_beyond [] i k is h = refl
flag_beyond (b ∷ bs) zero k is h = absurd (omega (arith, h))
flag_beyond (b ∷ bs) (suc i) zero is h = absurd (omega (arith, is))
flag_beyond (b ∷ bs) (suc i) (suc k) is h = ap (λ (cs : List Bool). b ∷ cs) (flag_beyond bs i k (omega (arith, is)) (omega (arith, h)))

abbrev begun : ℕ → Signal → Signal
begun value x = record x { initial = value % 2 ^ x.width }

pub begin_set : (xs : List UnitSignal) (i k value : ℕ) (x y : UnitSignal) → i ≡ k → i < length xs → x ≡ get_or xs i x
    → signal_within y ≡ record (signal_within x) { initial = value % 2 ^ x.width }
    → map signal_within (set xs i y) ≡ begins_with k value (map signal_within xs)
begin_set [] i k value x y is h there made = absurd (omega (arith, h))
begin_set (z ∷ zs) zero zero value x y is h there made =
    ap₂ (λ (s : Signal) (ss : List Signal). s ∷ ss) (made ∙ ap (λ (u : UnitSignal). begun value (signal_within u)) there) refl
begin_set (z ∷ zs) zero (suc k) value x y is h there made = absurd (omega (arith, is))
begin_set (z ∷ zs) (suc i) zero value x y is h there made = absurd (omega (arith, is))
begin_set (z ∷ zs) (suc i) (suc k) value x y is h there made =
    ap (λ (ss : List Signal). signal_within z ∷ ss) (begin_set zs i k value x y (omega (arith, is)) (omega (arith, h)) there made)

pub begin_beyond : (xs : List UnitSignal) (i k value : ℕ) → i ≡ k → length xs ≤ i → map signal_within xs ≡ begins_with k value (map signal_within xs)
begin_beyond [] i k value is h = refl
begin_beyond (z ∷ zs) zero k value is h = absurd (omega (arith, h))
begin_beyond (z ∷ zs) (suc i) zero value is h = absurd (omega (arith, is))
begin_beyond (z ∷ zs) (suc i) (suc k) value is h =
    ap (λ (ss : List Signal). signal_within z ∷ ss) (begin_beyond zs i k value (omega (arith, is)) (omega (arith, h)))
