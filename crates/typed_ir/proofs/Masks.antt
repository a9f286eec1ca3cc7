-- Bits of masks, and lists of masks, which name the bits that the definitions name.
use Rattle.std.proofs.Common.{◌≡◌, ℕ, zero, suc, ◌+◌, ◌-◌, ◌*◌, ◌/◌, ◌%◌, ◌^◌, ◌<◌, ◌≤◌, min, max, Bool, true, false, ◌||◌, ◌&&◌, ◌==◌, nat_le, nat_lt, List, [], ◌∷◌, ◌++◌, refl, sym, ◌∙◌, ap, ap₂, arith}
use Rattle.std.proofs.Math.Bool.{or-false, or_assoc, and-false}
use Rattle.std.specs.Int.{bit_at}
use Rattle.std.specs.Prelude.{bit_and, bit_or}
use Rattle.std.proofs.lemmas.Bool.{eq-eqb, ne_eqb, le-leb, lt-leb, lt-ltb, le-ltb}
use Rattle.std.proofs.lemmas.Nat.Bits.{bit_at_ones, bit_at_mask_inside, bit_at_mask_below, bit_at_mask_above, ones_shr, bit_at_and, bit_at_or, bit_at-lt, bit_at-zero}
use Rattle.std.proofs.lemmas.Nat.{pow_pos}
use Rattle.std.proofs.Math.Pow.{pow_mono, pow-lt}
use Rattle.std.proofs.Math.Nat.{one-mul, mod-eq_of_lt}
use Rattle.bits.proofs.Runs.{by_order}
use Rattle.typed_ir.specs.declared.touch.Touch.{Touch}
use Rattle.typed_ir.specs.Valuations.{Places}
use Rattle.typed_ir.specs.Touches.{has_bit, touched, Adds}

pub and_true : (a b : Bool) → b ≡ true → (a && b) ≡ a
and_true true b h = h
and_true false b h = refl

pub or_nothing : (a b : Bool) → (a || (b && false)) ≡ a
or_nothing a b = ap (λ t. a || t) (and-false b) ∙ or-false a

pub touched-append : (xs ys : List Touch) (s i : ℕ) → touched (xs ++ ys) s i ≡ (touched xs s i || touched ys s i)
touched-append [] ys s i = refl
touched-append (x ∷ xs) ys s i =
    ap (λ t. ((s == x.signal) && has_bit x.mask i) || t) (touched-append xs ys s i)
    ∙ sym (or_assoc ((s == x.signal) && has_bit x.mask i) (touched xs s i) (touched ys s i))

-- ---- one mask

both_ones : (a b : ℕ) → a < 2 → b < 2 → (min a b == 1) ≡ ((a == 1) && (b == 1))
both_ones zero zero h k = refl
both_ones zero (suc zero) h k = refl
both_ones (suc zero) zero h k = refl
both_ones (suc zero) (suc zero) h k = refl
both_ones (suc (suc a)) b h k = absurd (omega (arith, h))
both_ones zero (suc (suc b)) h k = absurd (omega (arith, k))
both_ones (suc zero) (suc (suc b)) h k = absurd (omega (arith, k))

either_one : (a b : ℕ) → a < 2 → b < 2 → (max a b == 1) ≡ ((a == 1) || (b == 1))
either_one zero zero h k = refl
either_one zero (suc zero) h k = refl
either_one (suc zero) zero h k = refl
either_one (suc zero) (suc zero) h k = refl
either_one (suc (suc a)) b h k = absurd (omega (arith, h))
either_one zero (suc (suc b)) h k = absurd (omega (arith, k))
either_one (suc zero) (suc (suc b)) h k = absurd (omega (arith, k))

pub has_both : (m n i : ℕ) → has_bit (bit_and m n) i ≡ (has_bit m i && has_bit n i)
has_both m n i = ap (λ b. b == 1) (bit_at_and m n i) ∙ both_ones (bit_at m i) (bit_at n i) (bit_at-lt m i) (bit_at-lt n i)

pub has_either : (m n i : ℕ) → has_bit (bit_or m n) i ≡ (has_bit m i || has_bit n i)
has_either m n i = ap (λ b. b == 1) (bit_at_or m n i) ∙ either_one (bit_at m i) (bit_at n i) (bit_at-lt m i) (bit_at-lt n i)

pub no_bit : (i : ℕ) → has_bit 0 i ≡ false
no_bit i = ne_eqb (bit_at 0 i) 1 (λ e. let z : bit_at 0 i ≡ 0 = bit_at-zero i in omega (arith, z, e))

-- ---- what joins a list

pub adds_one : (xs : List Touch) (t : Touch) (p : Places) → ((s i : ℕ) → i < 128 → ((s == t.signal) && has_bit t.mask i) ≡ p s i) → Adds xs (xs ++ t ∷ []) p
adds_one xs t p e = record {
  says = λ s i h. touched-append xs (t ∷ []) s i
      ∙ ap (λ b. touched xs s i || b) (or-false ((s == t.signal) && has_bit t.mask i) ∙ e s i h);
}

-- ---- masks of runs

pub whole_mask : (signal s i : ℕ) → i < 128 → ((s == signal) && has_bit (2 ^ 128 - 1) i) ≡ (s == signal)
whole_mask signal s i h = and_true (s == signal) (has_bit (2 ^ 128 - 1) i) (eq-eqb (bit_at (2 ^ 128 - 1) i) 1 (bit_at_ones 128 i h))

-- the bits from `low` on and below `high`
pub has_bit-run : (low high i : ℕ) → has_bit (2 ^ high - 2 ^ low) i ≡ (nat_le low i && nat_lt i high)
has_bit-run low high i = by_order i low
    (λ h. let z : bit_at (2 ^ high - 2 ^ low) i ≡ 0 = bit_at_mask_below low high i h in
    ne_eqb (bit_at (2 ^ high - 2 ^ low) i) 1 (λ e. omega (arith, z, e))
    ∙ sym (ap (λ t. t && nat_lt i high) (lt-leb low i h)))
    (λ h. by_order i high
    (λ k. eq-eqb (bit_at (2 ^ high - 2 ^ low) i) 1 (bit_at_mask_inside low high i h k)
    ∙ sym (ap₂ (λ a b. a && b) (le-leb low i h) (lt-ltb i high k)))
    (λ k. let z : bit_at (2 ^ high - 2 ^ low) i ≡ 0 = bit_at_mask_above low high i k in
    ne_eqb (bit_at (2 ^ high - 2 ^ low) i) 1 (λ e. omega (arith, z, e))
    ∙ sym (ap₂ (λ a b. a && b) (le-leb low i h) (le-ltb i high k))))

-- the mask of a run, as it is made: all bits up to `high`, less those below `low`
pub run_mask : (low high m q i : ℕ) → low < 128 → m ≡ 1 * 2 ^ low % 2 ^ 128 → q ≡ 2 ^ high - 1 → low ≤ high → has_bit (q - (m - 1)) i ≡ (nat_le low i && nat_lt i high)
run_mask low high m q i small is top order =
    let whole : m ≡ 2 ^ low = is ∙ ap (λ n. n % 2 ^ 128) (one-mul (2 ^ low)) ∙ mod-eq_of_lt (pow-lt small) in
    let some : 0 < 2 ^ low = pow_pos low in
    let more : 2 ^ low ≤ 2 ^ high = pow_mono order in
    let mask : q - (m - 1) ≡ 2 ^ high - 2 ^ low = omega (arith, whole, some, more, top) in
    ap (λ n. has_bit n i) mask ∙ has_bit-run low high i

-- all bits up to `high`, by a shift
pub ones_to : (high : ℕ) → high ≤ 128 → (2 ^ 128 - 1) / 2 ^ (128 - high) ≡ 2 ^ high - 1
ones_to high h =
    let back : 128 - (128 - high) ≡ high = omega arith in
    ones_shr 128 (128 - high) (omega arith) ∙ ap (λ n. 2 ^ n - 1) back

pub ones_cover : (low high : ℕ) → low < 128 → low ≤ high → high ≤ 128 → 1 * 2 ^ low % 2 ^ 128 - 1 ≤ (2 ^ 128 - 1) / 2 ^ (128 - high)
ones_cover low high small order top =
    let whole : 1 * 2 ^ low % 2 ^ 128 ≡ 2 ^ low = ap (λ n. n % 2 ^ 128) (one-mul (2 ^ low)) ∙ mod-eq_of_lt (pow-lt small) in
    let more : 2 ^ low ≤ 2 ^ high = pow_mono order in
    let all : (2 ^ 128 - 1) / 2 ^ (128 - high) ≡ 2 ^ high - 1 = ones_to high top in
    omega (arith, whole, more, all)

-- as far as a mask goes
pub run_to_end : (low width i : ℕ) → 128 ≤ low + width → i < 128 → (nat_le low i && nat_lt i 128) ≡ (nat_le low i && nat_lt i (low + width))
run_to_end low width i far small = ap (λ t. nat_le low i && t) (lt-ltb i 128 small ∙ sym (lt-ltb i (low + width) (omega (arith, far, small))))
