-- Numbers in words of 64 bits.
use Rattle.std.proofs.Common.{◌≡◌, ℕ, zero, suc, ◌+◌, ◌*◌, ◌/◌, ◌%◌, ◌^◌, ◌<◌, ◌≤◌, [], ◌∷◌, length, replicate, refl, ◌∙◌, ap, subst, arith}
use Rattle.std.proofs.Math.Nat.{mod-add-div, pow-le-pow_right}
use Rattle.std.proofs.lemmas.Nat.{pow-add}
use Rattle.state_layout.specs.Slots.{slot_size, number_of, words_for}

quotient_below : (x p : ℕ) → x < 2 ^ 64 * p → x / 2 ^ 64 < p
quotient_below x p h = omega (arith, h)

-- a number has room in so many words
pub number_back : (n x : ℕ) → x < 2 ^ (64 * n) → number_of (words_for n x) ≡ x
number_back zero x h = omega (arith, h)
number_back (suc n) x h =
    let more : 64 * suc n ≡ 64 + 64 * n = omega arith in
    let big : 2 ^ (64 * suc n) ≡ 2 ^ 64 * 2 ^ (64 * n) = ap (λ k. 2 ^ k) more ∙ pow-add 2 64 (64 * n) in
    let less : x / 2 ^ 64 < 2 ^ (64 * n) = quotient_below x (2 ^ (64 * n)) (subst (λ k. x < k) big h) in
    ap (λ y. x % 2 ^ 64 + 2 ^ 64 * y) (number_back n (x / 2 ^ 64) less) ∙ mod-add-div x (2 ^ 64)

-- so a value of a width has room in its slot
pub value_back : (w x : ℕ) → x < 2 ^ w → number_of (words_for (slot_size w) x) ≡ x
value_back w x h =
    let wide : w ≤ 64 * slot_size w = omega arith in
    let room : 2 ^ w ≤ 2 ^ (64 * slot_size w) = pow-le-pow_right {n = 2} (omega arith) wide in
    number_back (slot_size w) x (omega (arith, h, room))

pub words_for_length : (n x : ℕ) → length (words_for n x) ≡ n
words_for_length zero x = refl
words_for_length (suc n) x = ap suc (words_for_length n (x / 2 ^ 64))

pub zero_words : (n : ℕ) → words_for n 0 ≡ replicate n 0
zero_words zero = refl
zero_words (suc n) = ap (λ xs. 0 ∷ xs) (zero_words n)

-- a slot of one word, and one of two
pub one_word : (w : ℕ) → 1 ≤ w → w ≤ 64 → slot_size w ≡ 1
one_word w some few = omega (arith, some, few)

pub two_words : (w : ℕ) → 64 < w → w ≤ 128 → slot_size w ≡ 2
two_words w many few = omega (arith, many, few)

pub below_word : (w x : ℕ) → w ≤ 64 → x < 2 ^ w → x < 2 ^ 64
below_word w x few h = let room : 2 ^ w ≤ 2 ^ 64 = pow-le-pow_right {n = 2} (omega arith) few in omega (arith, h, room)

pub below_two : (w x : ℕ) → w ≤ 128 → x < 2 ^ w → x < 2 ^ 128
below_two w x few h = let room : 2 ^ w ≤ 2 ^ 128 = pow-le-pow_right {n = 2} (omega arith) few in omega (arith, h, room)

-- the words of a value in a slot of one word, and of two
pub one_is : (w x : ℕ) → 1 ≤ w → w ≤ 64 → x < 2 ^ w → words_for (slot_size w) x ≡ x ∷ []
one_is w x some few h =
    let low : x % 2 ^ 64 ≡ x = omega (arith, below_word w x few h) in
    ap (λ n. words_for n x) (one_word w some few) ∙ ap (λ y. y ∷ []) low

pub two_are : (w x : ℕ) → 64 < w → w ≤ 128 → x < 2 ^ w → words_for (slot_size w) x ≡ x % 2 ^ 64 ∷ x / 2 ^ 64 ∷ []
two_are w x many few h =
    let high : x / 2 ^ 64 % 2 ^ 64 ≡ x / 2 ^ 64 = omega (arith, below_two w x few h) in
    ap (λ n. words_for n x) (two_words w many few) ∙ ap (λ y. x % 2 ^ 64 ∷ y ∷ []) high
