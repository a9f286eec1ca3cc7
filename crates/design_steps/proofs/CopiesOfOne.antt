-- Copies of a 1 as a quotient.
use Rattle.std.proofs.Common.{◌≡◌, ℕ, zero, suc, ◌+◌, ◌-◌, ◌*◌, ◌/◌, ◌^◌, ◌<◌, ◌≤◌, sym, ap, ◌∙◌, arith}
use Rattle.std.proofs.Math.Nat.{mul_assoc, mul_comm, suc-mul, zero-mul, add-mul, mul-div_cancel}
use Rattle.std.proofs.lemmas.Nat.{pow-add, pow_pos, pow_below}
use Rattle.typed_ir.specs.Sized.{copies}

-- all together, times the greatest value of their width, are the greatest value of all
pub all_copies : (n w : ℕ) → copies n w 1 * (2 ^ w - 1) + 1 ≡ 2 ^ (n * w)
all_copies zero w = let none : 0 * (2 ^ w - 1) ≡ 0 = zero-mul (2 ^ w - 1) in
    let one : 2 ^ (0 * w) ≡ 1 = ap (λ k. 2 ^ k) (zero-mul w) in omega (arith, none, one)
all_copies (suc n) w =
    let c = copies n w 1 in
    let p = 2 ^ w in
    let d = p - 1 in
    let some : 0 < p = pow_pos w in
    let fewer : c * d + 1 ≡ 2 ^ (n * w) = all_copies n w in
    let spread : (c * p + 1) * d ≡ c * p * d + 1 * d = add-mul (c * p) 1 d in
    let turned : c * p * d ≡ c * d * p = mul_assoc c p d ∙ ap (λ z. c * z) (mul_comm p d) ∙ sym (mul_assoc c d p) in
    let more : (c * d + 1) * p ≡ c * d * p + 1 * p = add-mul (c * d) 1 p in
    let ones : 1 * d ≡ d = omega arith in
    let single : 1 * p ≡ p = omega arith in
    let whole : 2 ^ (suc n * w) ≡ 2 ^ (n * w) * p = ap (λ k. 2 ^ k) (suc-mul n w) ∙ pow-add 2 (n * w) w in
    let same : (c * d + 1) * p ≡ 2 ^ (n * w) * p = ap (λ z. z * p) fewer in
    omega (arith, some, spread, turned, more, ones, single, whole, same)

pub by_quotient : (n w : ℕ) → 1 ≤ w → (2 ^ (n * w) - 1) / (2 ^ w - 1) ≡ copies n w 1
by_quotient n w some =
    let wide : 2 ^ 0 < 2 ^ w = pow_below 0 w (omega (arith, some)) in
    let less : 2 ^ (n * w) - 1 ≡ copies n w 1 * (2 ^ w - 1) = omega (arith, all_copies n w) in
    ap (λ z. z / (2 ^ w - 1)) less ∙ mul-div_cancel (copies n w 1) (omega (arith, wide))
