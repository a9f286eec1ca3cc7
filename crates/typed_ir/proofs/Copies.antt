-- Values put one above another, and copies of a value.
use Rattle.std.proofs.Common.{◌≡◌, ℕ, zero, suc, ◌+◌, ◌*◌, ◌%◌, ◌^◌, ◌<◌, ◌≤◌, refl, ap, subst, sym, ◌∙◌, arith}
use Rattle.std.specs.Prelude.{bit_or}
use Rattle.std.proofs.Math.Nat.{pow-suc, suc-mul, zero-mul}
use Rattle.std.proofs.lemmas.Nat.{shl_whole, shl_below, or_shifted, or_lt, mul-le}
use Rattle.bits.proofs.Modulo.{fits_wider}
use Rattle.typed_ir.specs.Sized.{copies}

-- a number of m bits moved up by n, with n bits below it
pub above : (a b m n : ℕ) → a < 2 ^ m → b < 2 ^ n → m + n ≤ 128 → bit_or (a * 2 ^ n % 2 ^ 128) b ≡ a * 2 ^ n + b
above a b m n h g few = ap (λ z. bit_or z b) (shl_whole a m n 128 h few) ∙ or_shifted a n b g

pub above_fits : (a b m n : ℕ) → a < 2 ^ m → b < 2 ^ n → a * 2 ^ n + b < 2 ^ (m + n)
above_fits a b m n h g =
    subst (λ z. z < 2 ^ (m + n)) (or_shifted a n b g)
    (or_lt (m + n) (a * 2 ^ n) b (shl_below a m n h) (fits_wider b n (m + n) g (omega arith)))

pub copies_of_none : (n w : ℕ) → copies n w 0 ≡ 0
copies_of_none zero w = refl
copies_of_none (suc n) w =
    let none : copies n w 0 * 2 ^ w ≡ 0 = ap (λ k. k * 2 ^ w) (copies_of_none n w) ∙ zero-mul (2 ^ w) in omega (arith, none)

pub copies_of_one : (n : ℕ) → copies n 1 1 + 1 ≡ 2 ^ n
copies_of_one zero = refl
copies_of_one (suc n) =
    let fewer = copies_of_one n in
    let power : 2 ^ suc n ≡ 2 ^ n * 2 = pow-suc 2 n in
    let double : copies n 1 1 * 2 ^ 1 ≡ copies n 1 1 * 2 = refl in
    omega (arith, fewer, power, double)

pub copies_fit : (n w x : ℕ) → x < 2 ^ w → copies n w x < 2 ^ (n * w)
copies_fit zero w x h = subst (λ z. 0 < 2 ^ z) (sym (zero-mul w)) (omega arith)
copies_fit (suc n) w x h =
    subst (λ z. copies n w x * 2 ^ w + x < 2 ^ z) (sym (suc-mul n w)) (above_fits (copies n w x) x (n * w) w (copies_fit n w x h) h)

pub one_more : (n w x : ℕ) → copies (n + 1) w x ≡ copies n w x * 2 ^ w + x
one_more n w x = let e : n + 1 ≡ suc n = omega arith in ap (λ k. copies k w x) e

-- where one more copy is to come, there is room for it
pub room_for_one : (n count w : ℕ) → n < count → count * w ≤ 128 → n * w + w ≤ 128
room_for_one n count w h few =
    let more : (n + 1) * w ≤ count * w = mul-le (n + 1) w count w (omega (arith, h)) (omega arith) in
    let next : (n + 1) * w ≡ n * w + w = (let e : n + 1 ≡ suc n = omega arith in ap (λ k. k * w) e ∙ suc-mul n w) in
    omega (arith, more, next, few)
