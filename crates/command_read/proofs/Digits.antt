-- Numbers in digits, digit by digit.
use Rattle.std.proofs.Common.{◌≡◌, ℕ, ◌+◌, ◌*◌, ◌^◌, ◌<◌, ◌≤◌, Bool, true, false, cond, ltb, ◌&&◌, List, length, take, get_or, Some, None, sym, ap, ◌∙◌, arith}
use Rattle.std.proofs.lemmas.Bool.{and_from}
use Rattle.std.specs.List.{list_all}
use Rattle.std.specs.Char.{is_digit, digit_value}
use Rattle.std.specs.Str.Parse.{digits_value}
use Rattle.std.proofs.lemmas.Int.Digits.{digits_value_more}
use Rattle.std.proofs.lemmas.Str.Parse.{digits_value-take-le}
use Rattle.std.proofs.lemmas.List.Folds.{list_all_more}
use Rattle.std.proofs.lemmas.Bool.Decides.{nat_tests}
use Rattle.command_read.specs.Values.{number_in}

-- no number, where a front is too large
pub too_large : (base : ℕ) (ds : List ℕ) (i so_far : ℕ) → 1 ≤ base → i < length ds → so_far ≡ digits_value base (take i ds) → 2 ^ 128 ≤ so_far * base + digit_value (get_or ds i 0)
    → number_in base ds ≡ None
unfolding number_in
too_large base ds i so_far some within is large =
    let more : so_far * base + digit_value (get_or ds i 0) ≡ digits_value base (take (i + 1) ds)
    = ap (λ n. n * base + digit_value (get_or ds i 0)) is ∙ sym (digits_value_more base ds i within) in
    let value : 2 ^ 128 ≤ digits_value base ds = omega (arith, more, large, digits_value-take-le base ds (i + 1) some) in
    no_number (ltb 0 (length ds)) (list_all (λ c. is_digit c base) ds) (ltb (digits_value base ds) (2 ^ 128)) (digits_value base ds) (grind (arith, nat_tests))
  where
    no_number : (x y z : Bool) (n : ℕ) → z ≡ false → cond (x && (y && z)) (Some n) None ≡ None
    no_number x y z n h = grind arith

-- one more digit
pub more_digits : (base : ℕ) (ds : List ℕ) (i : ℕ) → i < length ds → list_all (λ c. is_digit c base) (take i ds) ≡ true → digit_value (get_or ds i 0) < base
    → list_all (λ c. is_digit c base) (take (i + 1) ds) ≡ true
more_digits base ds i within so_far digit =
    list_all_more (λ c. is_digit c base) ds i 0 within
    ∙ and_from (list_all (λ c. is_digit c base) (take i ds)) (is_digit (get_or ds i 0) base) so_far (grind (arith, nat_tests))

-- the number, where all bytes are digits and it is small
pub whole_number : (base : ℕ) (ds : List ℕ) → 0 < length ds → list_all (λ c. is_digit c base) ds ≡ true → digits_value base ds < 2 ^ 128
    → number_in base ds ≡ Some (digits_value base ds)
unfolding number_in
whole_number base ds some all small =
    number (ltb 0 (length ds)) (list_all (λ c. is_digit c base) ds) (ltb (digits_value base ds) (2 ^ 128)) (digits_value base ds) (grind (arith, nat_tests)) all (grind (arith, nat_tests))
  where
    number : (x y z : Bool) (n : ℕ) → x ≡ true → y ≡ true → z ≡ true → cond (x && (y && z)) (Some n) None ≡ Some n
    number x y z n p q r = grind arith
