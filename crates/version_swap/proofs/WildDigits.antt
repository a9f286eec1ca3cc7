-- The bits that digits cover which match any bit are 0 in the value (IEEE 1364-2005, clause 9.5.1).
use Rattle.std.proofs.Common.{◌≡◌, ◌∙◌, ◌<◌, ◌≤◌, ◌≢◌, ℕ, ◌+◌, ◌-◌, ◌*◌, ◌%◌, ◌^◌, Bool, true, false, true≢false, ◌||◌, cond, eqb, ltb, List, [], ◌∷◌, slice_index, Option, Some, None, refl, sym, ap, subst, inl, inr, arith}
use Rattle.std.specs.Int.{bit_at}
use Rattle.std.proofs.lemmas.Bool.{cases_lt, eqb-true, ltb-true}
use Rattle.std.proofs.lemmas.Nat.{pow_pos, mod_below}
use Rattle.std.proofs.lemmas.Nat.Bits.{bit_at-zero, bit_at_above, bit_at_cat_low, bit_at_cat_high}
use Rattle.std.proofs.lemmas.Option.{none-some, same_Some}
use Rattle.bits.proofs.Runs.{bit_at-mod_in}
use Rattle.ls_text.specs.Options.{guard}
use Rattle.verilog_lex.specs.Cuts.{is_wild}
use Rattle.verilog_lex.specs.Numbers.{digit_of, more_value, value_from, small, digits_value, covered, covered_from, digits_mask}
use Rattle.version_swap.proofs.Patterns.{Apart}

no_bit : ◌≢◌ {A = ℕ} 0 1
no_bit is = omega arith

-- ---- one digit

wild_zero : (c : ℕ) → is_wild c ≡ true → digit_of c ≡ Some 0
wild_zero c is = by (eqb c 122) (eqb c 90) (eqb c 63) refl refl refl is
  where
    by : (a b d : Bool) → eqb c 122 ≡ a → eqb c 90 ≡ b → eqb c 63 ≡ d → (a || (b || d)) ≡ true → digit_of c ≡ Some 0
    by true b d i j l h = ap digit_of (eqb-true c 122 i)
    by false true d i j l h = ap digit_of (eqb-true c 90 j)
    by false false true i j l h = ap digit_of (eqb-true c 63 l)
    by false false false i j l h = absurd (true≢false (sym h))

-- a digit behind the others
joined : (k n m d c : ℕ) → d < 2 ^ k → c < 2 ^ k → Apart n m → Apart d c → Apart (n * 2 ^ k + d) (m * 2 ^ k + c)
joined k n m d c small few front last i one = elim (cases_lt i k) [
  | inl low ↦ bit_at_cat_low n k d i low ∙ last i (sym (bit_at_cat_low m k c i low) ∙ one)
  | inr high ↦ bit_at_cat_high n k d i small high ∙ front (i - k) (sym (bit_at_cat_high m k c i few high) ∙ one)
]

digit_apart : (k n m c d : ℕ) → digit_of c ≡ Some d → d < 2 ^ k → Apart n m → Apart (n * 2 ^ k + d) (m * 2 ^ k + covered (2 ^ k) c)
digit_apart k n m c d is low front = by (is_wild c) refl
  where
    by : (b : Bool) → is_wild c ≡ b → Apart (n * 2 ^ k + d) (m * 2 ^ k + cond b (2 ^ k - 1) 0)
    by true wild =
        let none : d ≡ 0 = same_Some d 0 (sym is ∙ wild_zero c wild) in
        let some = pow_pos k in
        joined k n m d (2 ^ k - 1) low (omega arith) front (λ i one. ap (λ z. bit_at z i) none ∙ bit_at-zero i)
    by false wild = joined k n m d 0 low (pow_pos k) front (λ i one. absurd (no_bit (sym (bit_at-zero i) ∙ one)))

-- ---- all digits

digits_apart : (k n m v : ℕ) (ds : List ℕ) → Apart n m → value_from (2 ^ k) n ds ≡ Some v → Apart v (covered_from (2 ^ k) m ds)
digits_apart k n m v [] front is = subst (λ z. Apart z m) (same_Some n v is) front
digits_apart k n m v (c ∷ cs) front is =
    by (eqb c 95) (digit_of c) refl (digits_apart k n m v cs front)
    (λ d more. digits_apart k (n * 2 ^ k + d) (m * 2 ^ k + covered (2 ^ k) c) v cs more) is
  where
    All : ℕ → Type 0
    All m = Apart v (covered_from (2 ^ k) m cs)

    more : ℕ
    more = m * 2 ^ k + covered (2 ^ k) c

    at : (b : Bool) (d : ℕ) → ltb d (2 ^ k) ≡ b → digit_of c ≡ Some d
        → ((d : ℕ) → Apart (n * 2 ^ k + d) more → value_from (2 ^ k) (n * 2 ^ k + d) cs ≡ Some v → All more)
        → cond b (value_from (2 ^ k) (n * 2 ^ k + d) cs) None ≡ Some v → All more
    at true d low digit go is = go d (digit_apart k n m c d digit (ltb-true d (2 ^ k) low) front) is
    at false d low digit go is = absurd (none-some v is)

    by : (b : Bool) (o : Option ℕ) → digit_of c ≡ o → (value_from (2 ^ k) n cs ≡ Some v → All m)
        → ((d : ℕ) → Apart (n * 2 ^ k + d) more → value_from (2 ^ k) (n * 2 ^ k + d) cs ≡ Some v → All more)
        → cond b (value_from (2 ^ k) n cs) (more_value (2 ^ k) n o (λ m. value_from (2 ^ k) m cs)) ≡ Some v
        → Apart v (cond b (covered_from (2 ^ k) m cs) (covered_from (2 ^ k) more cs))
    by true o digit same go is = same is
    by false None digit same go is = absurd (none-some v is)
    by false (Some d) digit same go is = at (ltb d (2 ^ k)) d refl digit go is

-- ---- a literal

small_is : (o : Option ℕ) (v : ℕ) → small o ≡ Some v → (o ≡ Some v) × (v < 2 ^ 128)
small_is None v is = absurd (none-some v is)
small_is (Some n) v is = by (ltb n (2 ^ 128)) refl is
  where
    by : (b : Bool) → ltb n (2 ^ 128) ≡ b → guard b n ≡ Some v → (Some n ≡ Some v) × (v < 2 ^ 128)
    by true low is = (is, subst (λ z. z < 2 ^ 128) (same_Some n v is) (ltb-true n (2 ^ 128) low))
    by false low is = absurd (none-some v is)

pub mask_apart : (k size v : ℕ) (ds : List ℕ) → size ≤ 128 → digits_value (2 ^ k) ds ≡ Some v
    → Apart (v % 2 ^ size) (digits_mask (2 ^ k) ds % 2 ^ size)
unfolding digits_value digits_mask
mask_apart k size v ds within is i one =
    let first = cond (is_wild (slice_index ds 0)) (2 ^ 128 - 1) 0 in
    let all = covered_from (2 ^ k) first ds in
    let apart = digits_apart k 0 first v ds (λ i one. bit_at-zero i) (small_is (value_from (2 ^ k) 0 ds) v is).0 in
    elim (cases_lt i size) [
      | inl low ↦
          let bit : bit_at all i ≡ 1 = sym (bit_at-mod_in all 128 i (omega arith)) ∙ sym (bit_at-mod_in (all % 2 ^ 128) size i low) ∙ one in
          bit_at-mod_in v size i low ∙ apart i bit
      | inr high ↦
          let below = mod_below (all % 2 ^ 128) (2 ^ size) (pow_pos size) in
          absurd (no_bit (sym (bit_at_above (all % 2 ^ 128 % 2 ^ size) size i below high) ∙ one))
    ]
