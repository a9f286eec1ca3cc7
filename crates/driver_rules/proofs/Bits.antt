-- Bits of masks and of tables of masks.
use Rattle.std.proofs.Common.{◌≡◌, ◌<◌, ◌≤◌, ◌+◌, ◌^◌, ◌==◌, ◌&&◌, ◌||◌, ℕ, Bool, true, false, not, nat_le, nat_lt, List, [], ◌∷◌, length, get_or, set, refl, sym, ◌∙◌, ap, ap₂, arith, true≢false}
use Rattle.std.specs.Prelude.{bit_and, bit_or, slice_index}
use Rattle.std.specs.Int.{bit_at}
use Rattle.std.proofs.Math.Bool.{or_assoc, and-false}
use Rattle.std.proofs.lemmas.Bool.{eqb-true, eqb-false, eq-eqb, or_from}
use Rattle.std.proofs.lemmas.List.{get_or-set_same, get_or-set_other}
use Rattle.std.proofs.lemmas.Nat.{pow_pos}
use Rattle.std.proofs.lemmas.Nat.Bits.{bit_at-lt, bit_at-zero, same_from_bits_below}
use Rattle.typed_ir.specs.declared.span.Span.{Span}
use Rattle.typed_ir.specs.Valuations.{Places, within}
use Rattle.typed_ir.specs.Touches.{has_bit}
use Rattle.typed_ir.proofs.Cases.{by_cases, or_none}
use Rattle.typed_ir.proofs.Masks.{has_both, has_either, no_bit}
use Rattle.block_rules.specs.Paths.{some_below}
use Rattle.block_rules.proofs.Knowing.{some_same}
use Rattle.block_rules.proofs.Finding.{none_some}
use Rattle.block_rules.proofs.Whole.{none_below}
use Rattle.driver_rules.specs.Doubles.{meets}
use Rattle.driver_rules.specs.Told.{marked, joined}

-- ---- one test of a bit for each

-- ---- masks

-- two masks of 128 bits have one in common
pub masks_meet : (m n : ℕ) → bit_and m n < 2 ^ 128 → not (bit_and m n == 0) ≡ some_below 128 (λ i. has_bit m i && has_bit n i)
masks_meet m n small = by_cases (bit_and m n == 0)
    (λ yes. let e : bit_and m n ≡ 0 = eqb-true (bit_and m n) 0 yes in
    ap not yes ∙ sym (none_some 128 (λ i. has_bit m i && has_bit n i)
    (λ i k. sym (has_both m n i) ∙ ap (λ x. has_bit x i) e
    ∙ no_bit i)))
    (λ no. ap not no ∙ sym (found no))
  where
    found : (bit_and m n == 0) ≡ false → some_below 128 (λ i. has_bit m i && has_bit n i) ≡ true
    found other = by_cases (some_below 128 (λ i. has_bit m i && has_bit n i)) (λ yes. yes)
        (λ none. absurd (eqb-false (bit_and m n) 0 other (same_from_bits_below 128 (bit_and m n) 0 small (pow_pos 128)
        (λ i k. let bit = eqb-false (bit_at (bit_and m n) i) 1 (has_both m n i ∙ none_below 128 i (λ j. has_bit m j && has_bit n j) none k) in
        let two : bit_at (bit_and m n) i < 2 = bit_at-lt (bit_and m n) i in
        let z : bit_at 0 i ≡ 0 = bit_at-zero i in
        omega (arith, bit, two, z)))))

-- ---- tables of masks

-- a part has a bit of the table
pub meets_is : (table : List ℕ) (p : Span) (mask old : ℕ) → old ≡ slice_index table p.signal
    → ((i : ℕ) → i < 128 → has_bit mask i ≡ (nat_le p.low i && nat_lt i (p.low + p.width)))
    → some_below 128 (λ i. has_bit mask i && has_bit old i) ≡ meets (marked table) p
meets_is table p mask old is run = some_same 128 (λ i. has_bit mask i && has_bit old i) (λ i. within p p.signal i && marked table p.signal i)
    (λ i small. ap₂ (λ b m. b && has_bit m i) (run i small) is
    ∙ ap (λ b. (b && (nat_le p.low i && nat_lt i (p.low + p.width))) && marked table p.signal i) (sym (eq-eqb p.signal p.signal refl)))

-- a part joins the table
pub marks_part : (table : List ℕ) (p : Span) (mask old s i : ℕ) → p.signal < length table → old ≡ slice_index table p.signal
    → has_bit mask i ≡ (nat_le p.low i && nat_lt i (p.low + p.width))
    → marked (set table p.signal (bit_or old mask)) s i ≡ (marked table s i || within p s i)
marks_part table p mask old s i inside is run =
    by_cases (s == p.signal)
    (λ yes. let e : s ≡ p.signal = eqb-true s p.signal yes in
    ap (λ z. has_bit (slice_index (set table p.signal (bit_or old mask)) z) i) e
    ∙ ap (λ z. has_bit z i) (get_or-set_same table p.signal (bit_or old mask) 0 inside)
    ∙ has_either old mask i
    ∙ ap₂ (λ m b. has_bit m i || b) (is ∙ ap (slice_index table) (sym e)) run
    ∙ ap (λ b. marked table s i || (b && (nat_le p.low i && nat_lt i (p.low + p.width)))) (sym yes))
    (λ no. ap (λ z. has_bit z i) (get_or-set_other table p.signal s (bit_or old mask) 0 (eqb-false s p.signal no))
    ∙ sym (or_none (marked table s i) (within p s i) (ap (λ b. b && (nat_le p.low i && nat_lt i (p.low + p.width))) no)))

apart : (m w : Bool) → ((m || w) && not m) ≡ (w && not m)
apart true true = refl
apart true false = refl
apart false w = refl

-- and its bits that weren't there are those that joined
pub part_joined : (table new : List ℕ) (p : Span) (old s i : ℕ) → old ≡ slice_index table p.signal
    → marked new s i ≡ (marked table s i || within p s i)
    → (within p s i && not (has_bit old i)) ≡ joined table new s i
part_joined table new p old s i is more =
    by_cases (s == p.signal)
    (λ yes. ap (λ m. within p s i && not (has_bit m i)) (is ∙ ap (slice_index table) (sym (eqb-true s p.signal yes)))
    ∙ sym (apart (marked table s i) (within p s i)) ∙ ap (λ b. b && not (marked table s i)) (sym more))
    (λ no. let out : within p s i ≡ false = ap (λ b. b && (nat_le p.low i && nat_lt i (p.low + p.width))) no in
    ap (λ b. b && not (has_bit old i)) out ∙ sym (ap (λ b. b && not (marked table s i)) more
    ∙ apart (marked table s i) (within p s i) ∙ ap (λ b. b && not (marked table s i)) out))
