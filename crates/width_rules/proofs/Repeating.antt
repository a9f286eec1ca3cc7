-- The width of a replication. The code knows a count up to 255.
use Rattle.std.proofs.Common.{◌≡◌, ◌<◌, ◌≤◌, ◌==◌, ◌++◌, ℕ, ◌*◌, [], ◌∷◌, sym, ◌∙◌, ap, ap₂, arith, min, nat_le}
use Rattle.std.proofs.Math.Nat.{min-eq_left, min-eq_right, le-mul_of_pos_right}
use Rattle.std.proofs.lemmas.Nat.{mul-le}
use Rattle.std.proofs.lemmas.Bool.{leb-true, leb-false}
use Rattle.typed_ir.proofs.Cases.{by_cases}
use Rattle.ls_text.specs.declared.place.Place.{Place}
use Rattle.width_rules.specs.Faults.{IsFirst, faults, fault, fault_if, fault_of, total_faults}
use Rattle.std.proofs.lemmas.Bool.{cond-false}
use Rattle.ls_text.specs.declared.refusal.Refusal.{Refusal}
use Rattle.verilog_ast.specs.Expressions as e
use Rattle.verilog_ast.specs.Expressions.{Expression}
use Rattle.width_rules.specs.declared.due.Due.TheVariants.{ConstantOnly}
use Rattle.width_rules.specs.declared.due.Due.{Due}
use Rattle.width_rules.specs.Scopes.{Scope}
use Rattle.width_rules.specs.Sizes.{length, count_of}
use Rattle.width_rules.specs.Constants.{integer}
use Rattle.width_rules.proofs.Firsts.{later, neither}
use Rattle.width_rules.proofs.Stepping.{width_fine, width_wide, some}

many : (n t : ℕ) → t ≡ min n 255 → 255 < n → 255 ≡ t
many n t is h = sym (is ∙ min-eq_right (omega (arith, h)))

no_more : (t : ℕ) → t ≤ 128 → 255 ≡ t → ⊥
no_more t few h = omega (arith, few, h)

pub count_exact : (n t w : ℕ) → t ≡ min n 255 → 1 ≤ w → t * w ≤ 128 → t ≡ n
count_exact n t w is some few =
    by_cases (nat_le n 255)
    (λ yes. is ∙ min-eq_left (leb-true n 255 yes))
    (λ no. absurd (no_more t (omega (arith, le-mul_of_pos_right {m = w} t some, few)) (many n t is (leb-false n 255 no))))

pub repeated_long : (n t w bits : ℕ) → t ≡ min n 255 → 1 ≤ w → t * w ≤ 128 → w ≡ bits → t * w ≡ n * bits
repeated_long n t w bits is some few w_is = ap₂ (λ a b. a * b) (count_exact n t w is some few) w_is

pub repeated_fine : (at : Place) (n t w bits : ℕ) → t ≡ min n 255 → 1 ≤ t → 1 ≤ w → t * w ≤ 128 → w ≡ bits → total_faults at (n * bits) ≡ []
repeated_fine at n t w bits is one some few w_is =
    ap (total_faults at) (sym (repeated_long n t w bits is some few w_is))
    ∙ width_fine at (t * w) (omega (arith, le-mul_of_pos_right {m = w} t some, one)) few

pub repeated_wide : (n t w bits : ℕ) → t ≡ min n 255 → 128 < t * w → w ≡ bits → 128 < n * bits
repeated_wide n t w bits is wide w_is = omega (arith, mul-le t w n bits (below n t is) (omega (arith, w_is)), wide)
  where
    below : (n t : ℕ) → t ≡ min n 255 → t ≤ n
    below n t is = by_cases (nat_le n 255) (λ yes. same n t (is ∙ min-eq_left (leb-true n 255 yes))) (λ no. lower n t (many n t is (leb-false n 255 no)) (leb-false n 255 no))
      where
        same : (n t : ℕ) → t ≡ n → t ≤ n
        same n t h = omega (arith, h)

        lower : (n t : ℕ) → 255 ≡ t → 255 < n → t ≤ n
        lower n t h g = omega (arith, h, g)

from_small : (n t : ℕ) → t ≡ n → 1 ≤ t → 1 ≤ n
from_small n t h g = omega (arith, h, g)

from_large : (n : ℕ) → 255 < n → 1 ≤ n
from_large n h = omega (arith, h)

pub positive : (n t : ℕ) → t ≡ min n 255 → 1 ≤ t → 1 ≤ n
positive n t is one = by_cases (nat_le n 255) (λ yes. from_small n t (is ∙ min-eq_left (leb-true n 255 yes)) one) (λ no. from_large n (leb-false n 255 no))

-- the count of a replication isn't below 1
pub counted : (scope : Scope) (c : Expression) (t : ℕ) → t ≡ min (count_of (integer scope c)) 255 → 1 ≤ t
    → fault_if (count_of (integer scope c) == 0) (fault_of 26 c) ≡ []
counted scope c t is one = cond-false (count_of (integer scope c) == 0) (fault_of 26 c ∷ []) [] (some (count_of (integer scope c)) (positive (count_of (integer scope c)) t is one))

pub replication_fine : (scope : Scope) (due : Due) (at : Place) (c xs : Expression) (t w : ℕ) → faults scope ConstantOnly c ≡ [] → faults scope due xs ≡ []
    → t ≡ min (count_of (integer scope c)) 255 → 1 ≤ t → 1 ≤ w → t * w ≤ 128 → w ≡ length scope xs → faults scope due (e.Replication at c xs) ≡ []
replication_fine scope due at c xs t w c_fine xs_fine is one wide few w_is =
    let n = count_of (integer scope c) in
    let total = total_faults at (n * length scope xs) in
    let none = fault_if (n == 0) (fault_of 26 c) in
    neither (faults scope ConstantOnly c) (none ++ (faults scope due xs ++ total)) c_fine
    (neither none (faults scope due xs ++ total) (counted scope c t is one)
    (neither (faults scope due xs) total xs_fine (repeated_fine at n t w (length scope xs) is one wide few w_is)))

pub replication_wide : (scope : Scope) (due : Due) (at : Place) (c xs : Expression) (t w : ℕ) (r : Refusal) → faults scope ConstantOnly c ≡ [] → faults scope due xs ≡ []
    → t ≡ min (count_of (integer scope c)) 255 → 1 ≤ t → 128 < t * w → w ≡ length scope xs → IsFirst (fault 31 at [] ∷ []) r
    → IsFirst (faults scope due (e.Replication at c xs)) r
replication_wide scope due at c xs t w r c_fine xs_fine is one wide w_is first =
    let n = count_of (integer scope c) in
    let total = total_faults at (n * length scope xs) in
    let none = fault_if (n == 0) (fault_of 26 c) in
    later (faults scope ConstantOnly c) (none ++ (faults scope due xs ++ total)) r c_fine
    (later none (faults scope due xs ++ total) r (counted scope c t is one)
    (later (faults scope due xs) total r xs_fine (width_wide at (n * length scope xs) r (repeated_wide n t w (length scope xs) is wide w_is) first)))
