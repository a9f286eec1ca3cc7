-- Numbers of 1 to 128, tests of widths, and tests of faults that are none.
use Rattle.std.proofs.Common.{◌≡◌, ℕ, zero, suc, ◌≤◌, ◌==◌, max, Bool, true, false, not, List, [], ◌++◌, nat_le, nat_lt, refl, sym, subst, true≢false, leb-true, le-leb, arith}
use Rattle.std.proofs.lemmas.Bool.{and_from, ltb-false, cond-true, cond-false}
use Rattle.std.proofs.Math.Nat.{le-max_left}
use Rattle.typed_ir.proofs.Cases.{by_cases, and_left, and_right}
use Rattle.ls_text.specs.declared.fault.Fault.{Fault}
use Rattle.ls_text.proofs.Lists.{some_is_none}
use Rattle.typed_ir.specs.Sized.{is_width}
use Rattle.width_rules.specs.Faults.{fault_if}
use Rattle.width_rules.specs.Sizes.{literal_length}
use Rattle.width_rules.proofs.Reading.{left_none, right_none}

-- 1 to 128
pub record IsLong (n : ℕ) : Type 0 where
  pub least : 1 ≤ n
  pub most : n ≤ 128

pub long_from : (n : ℕ) → is_width n ≡ true → IsLong n
long_from n h = record {
  least = leb-true 1 n (and_left (nat_le 1 n) (nat_le n 128) h);
  most = leb-true n 128 (and_right (nat_le 1 n) (nat_le n 128) h);
}

pub width_from : (n : ℕ) → IsLong n → is_width n ≡ true
width_from n l = and_from (nat_le 1 n) (nat_le n 128) (le-leb 1 n l.least) (le-leb n 128 l.most)

-- ---- faults that are none

pub none_if : (b : Bool) (f : Fault) → fault_if b f ≡ [] → b ≡ false
none_if true f h = some_is_none f [] h
none_if false f h = refl

pub holds_if : (b : Bool) (f : Fault) → fault_if (not b) f ≡ [] → b ≡ true
holds_if true f h = refl
holds_if false f h = some_is_none f [] h

-- what may be wrong with a run: its name, its index, its width, where it lies
pub record IsRun (xs ws rs : List Fault) : Type 0 where
  pub index : xs ≡ []
  pub width : ws ≡ []
  pub place : rs ≡ []

pub run_none : (names xs ys ws rs : List Fault) → names ++ (xs ++ (ys ++ (ws ++ rs))) ≡ [] → IsRun xs ws rs
run_none names xs ys ws rs h =
    let rest : xs ++ (ys ++ (ws ++ rs)) ≡ [] = right_none names (xs ++ (ys ++ (ws ++ rs))) h in
    let last : ws ++ rs ≡ [] = right_none ys (ws ++ rs) (right_none xs (ys ++ (ws ++ rs)) rest) in
    record { index = left_none xs (ys ++ (ws ++ rs)) rest; width = left_none ws rs last; place = right_none ws rs last }

pub third_none : (names xs ys rs : List Fault) → names ++ (xs ++ (ys ++ rs)) ≡ [] → rs ≡ []
third_none names xs ys rs h = right_none ys rs (right_none xs (ys ++ rs) (right_none names (xs ++ (ys ++ rs)) h))

not_wide : (n : ℕ) → nat_lt 128 n ≡ false → n ≤ 128
not_wide n h = ltb-false 128 n h

not_zero : (n : ℕ) → (n == 0) ≡ false → 1 ≤ n
not_zero zero h = absurd (true≢false h)
not_zero (suc n) h = omega arith

-- neither 0 nor above 128
pub long_if : (n : ℕ) (f g : Fault) → fault_if (n == 0) f ≡ [] → fault_if (nat_lt 128 n) g ≡ [] → IsLong n
long_if n f g none few = record { least = not_zero n (none_if (n == 0) f none); most = not_wide n (none_if (nat_lt 128 n) g few) }

pub some_if : (n : ℕ) (f : Fault) → fault_if (n == 0) f ≡ [] → 1 ≤ n
some_if n f none = not_zero n (none_if (n == 0) f none)

pub few_if : (n : ℕ) (f : Fault) → fault_if (nat_lt 128 n) f ≡ [] → n ≤ 128
few_if n f few = not_wide n (none_if (nat_lt 128 n) f few)

-- ---- lengths

pub literal_least : (n : ℕ) → 1 ≤ literal_length n
literal_least n = by_cases (n == 0)
    (λ y. subst (λ k. 1 ≤ k) (sym (cond-true (n == 0) 32 n y)) (omega arith))
    (λ f. subst (λ k. 1 ≤ k) (sym (cond-false (n == 0) 32 n f)) (not_zero n f))

pub max_most : (a b n : ℕ) → a ≤ n → b ≤ n → max a b ≤ n
max_most a b n h k = omega (arith, h, k)

pub max_long : (a b : ℕ) → IsLong a → IsLong b → IsLong (max a b)
max_long a b x y = record { least = omega (arith, x.least, le-max_left a b); most = max_most a b 128 x.most y.most }
