-- Bits of masks, and of tables of masks.
use Rattle.std.proofs.Common.{◌≡◌, ℕ, zero, suc, ◌+◌, ◌%◌, ◌<◌, ◌≤◌, Bool, true, false, ◌||◌, ◌&&◌, not, ◌==◌, nat_lt, List, length, get_or, set, refl, sym, ◌∙◌, ap, ap₂, arith, true≢false}
use Rattle.std.specs.Prelude.{bit_and, bit_or, bit_xor, slice_index}
use Rattle.std.specs.Int.{bit_at}
use Rattle.std.proofs.Math.Bool.{and-false, and-true}
use Rattle.std.proofs.lemmas.Bool.{eqb-true, eqb-false, lt-ltb, le-ltb}
use Rattle.std.proofs.lemmas.List.{get_or-set_same, get_or-set_other, get_or_past, get_or_default}
use Rattle.std.proofs.lemmas.Nat.Bits.{bit_at_xor, bit_at-lt}
use Rattle.bits.proofs.Runs.{by_order}
use Rattle.typed_ir.specs.Touches.{has_bit}
use Rattle.typed_ir.proofs.Cases.{by_cases}
use Rattle.typed_ir.proofs.Masks.{has_both, has_either, no_bit, or_nothing}

-- ---- one mask

one_only : (a b : ℕ) → a < 2 → b < 2 → ((a + b) % 2 == 1) ≡ (((a == 1) && not (b == 1)) || (not (a == 1) && (b == 1)))
one_only zero zero h k = refl
one_only zero (suc zero) h k = refl
one_only (suc zero) zero h k = refl
one_only (suc zero) (suc zero) h k = refl
one_only (suc (suc a)) b h k = absurd (omega (arith, h))
one_only zero (suc (suc b)) h k = absurd (omega (arith, k))
one_only (suc zero) (suc (suc b)) h k = absurd (omega (arith, k))

pub has_one : (m n i : ℕ) → has_bit (bit_xor m n) i ≡ ((has_bit m i && not (has_bit n i)) || (not (has_bit m i) && has_bit n i))
has_one m n i = ap (λ b. b == 1) (bit_at_xor m n i) ∙ one_only (bit_at m i) (bit_at n i) (bit_at-lt m i) (bit_at-lt n i)

-- ---- tests

but_both : (m t : Bool) → ((m && not (m && t)) || (not m && (m && t))) ≡ (m && not t)
but_both true true = refl
but_both true false = refl
but_both false t = refl

pub but_new : (a b : Bool) → (b ≡ true → a ≡ true) → ((a && not b) || (not a && b)) ≡ (a && not b)
but_new true true h = refl
but_new true false h = refl
but_new false true h = absurd (true≢false (sym (h refl)))
but_new false false h = refl

pub out_of : (low x t : Bool) → (low && (x && not t)) ≡ ((low && x) && not t)
out_of true x t = refl
out_of false x t = refl

-- ---- masks of a table

-- the bits of the mask at a place, as a table shows them
abbrev pub bit_of : List ℕ → ℕ → ℕ → Bool
bit_of masks s i = nat_lt i 128 && has_bit (slice_index masks s) i

pub low_bit : (masks : List ℕ) (s i : ℕ) → i < 128 → bit_of masks s i ≡ has_bit (slice_index masks s) i
low_bit masks s i small = ap (λ b. b && has_bit (slice_index masks s) i) (lt-ltb i 128 small)

pub high_bit : (masks : List ℕ) (s i : ℕ) → 128 ≤ i → bit_of masks s i ≡ false
high_bit masks s i big = ap (λ b. b && has_bit (slice_index masks s) i) (le-ltb i 128 big)

pub past_bit : (masks : List ℕ) (s i : ℕ) → length masks ≤ s → bit_of masks s i ≡ false
past_bit masks s i past =
    ap (λ m. nat_lt i 128 && has_bit m i) (get_or_past masks s 0 past) ∙ ap (λ b. nat_lt i 128 && b) (no_bit i) ∙ and-false (nat_lt i 128)

pub bit_inside : (masks : List ℕ) (s i : ℕ) → bit_of masks s i ≡ true → s < length masks
bit_inside masks s i h = by_order s (length masks) (λ k. k) (λ past. absurd (true≢false (sym h ∙ past_bit masks s i past)))

pub bit_small : (masks : List ℕ) (s i : ℕ) → bit_of masks s i ≡ true → i < 128
bit_small masks s i h = by_order i 128 (λ k. k) (λ big. absurd (true≢false (sym h ∙ high_bit masks s i big)))

more_at : (masks : List ℕ) (place mask old s i : ℕ) → place < length masks → old ≡ slice_index masks place
    → has_bit (slice_index (set masks place (bit_or old mask)) s) i
    ≡ (has_bit (slice_index masks s) i || (nat_lt s (length masks) && ((s == place) && has_bit mask i)))
more_at masks place mask old s i inside is =
    by_cases (s == place)
    (λ yes. let e : s ≡ place = eqb-true s place yes in
    ap (λ z. has_bit (slice_index (set masks place (bit_or old mask)) z) i) e
    ∙ ap (λ z. has_bit z i) (get_or-set_same masks place (bit_or old mask) 0 inside)
    ∙ has_either old mask i
    ∙ ap (λ z. has_bit z i || has_bit mask i) (is ∙ ap (slice_index masks) (sym e))
    ∙ sym (ap₂ (λ a b. has_bit (slice_index masks s) i || (a && (b && has_bit mask i))) (lt-ltb s (length masks) (omega (arith, e, inside))) yes))
    (λ no. ap (λ z. has_bit z i) (get_or-set_other masks place s (bit_or old mask) 0 (eqb-false s place no))
    ∙ sym (ap (λ b. has_bit (slice_index masks s) i || (nat_lt s (length masks) && (b && has_bit mask i))) no
    ∙ or_nothing (has_bit (slice_index masks s) i) (nat_lt s (length masks))))

pub more_bits : (masks : List ℕ) (place mask old s i : ℕ) → place < length masks → old ≡ slice_index masks place → i < 128
    → bit_of (set masks place (bit_or old mask)) s i ≡ (bit_of masks s i || (nat_lt s (length masks) && ((s == place) && has_bit mask i)))
more_bits masks place mask old s i inside is small =
    low_bit (set masks place (bit_or old mask)) s i small ∙ more_at masks place mask old s i inside is
    ∙ ap (λ b. b || (nat_lt s (length masks) && ((s == place) && has_bit mask i))) (sym (low_bit masks s i small))

less_at : (masks : List ℕ) (place mask old s i : ℕ) → place < length masks → old ≡ slice_index masks place
    → has_bit (slice_index (set masks place (bit_xor old (bit_and old mask))) s) i
    ≡ (has_bit (slice_index masks s) i && not ((s == place) && has_bit mask i))
less_at masks place mask old s i inside is =
    let new = bit_xor old (bit_and old mask) in
    by_cases (s == place)
    (λ yes. let e : s ≡ place = eqb-true s place yes in
    ap (λ z. has_bit (slice_index (set masks place new) z) i) e
    ∙ ap (λ z. has_bit z i) (get_or-set_same masks place new 0 inside)
    ∙ has_one old (bit_and old mask) i
    ∙ ap (λ b. (has_bit old i && not b) || (not (has_bit old i) && b)) (has_both old mask i)
    ∙ but_both (has_bit old i) (has_bit mask i)
    ∙ ap (λ z. has_bit z i && not (has_bit mask i)) (is ∙ ap (slice_index masks) (sym e))
    ∙ sym (ap (λ b. has_bit (slice_index masks s) i && not (b && has_bit mask i)) yes))
    (λ no. ap (λ z. has_bit z i) (get_or-set_other masks place s new 0 (eqb-false s place no))
    ∙ sym (ap (λ b. has_bit (slice_index masks s) i && not (b && has_bit mask i)) no ∙ and-true (has_bit (slice_index masks s) i)))

pub less_bits : (masks : List ℕ) (place mask old s i : ℕ) → place < length masks → old ≡ slice_index masks place
    → bit_of (set masks place (bit_xor old (bit_and old mask))) s i ≡ (bit_of masks s i && not ((s == place) && has_bit mask i))
less_bits masks place mask old s i inside is =
    ap (λ b. nat_lt i 128 && b) (less_at masks place mask old s i inside is)
    ∙ out_of (nat_lt i 128) (has_bit (slice_index masks s) i) ((s == place) && has_bit mask i)

-- what is read from a list of numbers
pub read_at : (masks : List ℕ) (k old : ℕ) → k < length masks → old ≡ get_or masks k old → old ≡ slice_index masks k
read_at masks k old inside is = is ∙ get_or_default masks k old 0 inside
