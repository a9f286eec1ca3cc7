-- Values that a step for 64 bits sees whole.
use Rattle.std.proofs.Common.{◌≡◌, ℕ, ◌+◌, ◌/◌, ◌%◌, ◌^◌, ◌<◌, ◌≤◌, Bool, true, false, ◌||◌, nat_lt, refl, sym, ◌∙◌, arith}
use Rattle.std.proofs.lemmas.Bool.{ltb-false}
use Rattle.std.proofs.lemmas.Nat.Bits.{same_from_bits}
use Rattle.bits.proofs.Modulo.{small, fits_wider}
use Rattle.bits.proofs.Runs.{by_order, bit_at-shr, bit_at-mod_in, bit_at-mod_out}
use Rattle.word_steps.specs.Walks.{seen}

-- one that takes all bits wherever a value may have more than 64
pub seen_whole : (long : Bool) (x w m : ℕ) → x < 2 ^ w → w ≤ m → seen (long || nat_lt 64 m) x ≡ x
seen_whole true x w m fits most = refl
seen_whole false x w m fits most = by_test (nat_lt 64 m) refl
  where
    by_test : (b : Bool) → nat_lt 64 m ≡ b → seen b x ≡ x
    by_test true e = refl
    by_test false e = let few : m ≤ 64 = ltb-false 64 m e in small x 64 (fits_wider x w 64 fits (omega (arith, few, most)))

-- a run of bits lies in as many of the lowest bits
pub in_lowest : (x low width k : ℕ) → low + width ≤ k → x % 2 ^ k / 2 ^ low % 2 ^ width ≡ x / 2 ^ low % 2 ^ width
in_lowest x low width k few =
    same_from_bits (x % 2 ^ k / 2 ^ low % 2 ^ width) (x / 2 ^ low % 2 ^ width) (λ i. by_order i width
    (λ h. bit_at-mod_in (x % 2 ^ k / 2 ^ low) width i h ∙ bit_at-shr (x % 2 ^ k) low i ∙ bit_at-mod_in x k (low + i) (omega (arith, h, few))
    ∙ sym (bit_at-mod_in (x / 2 ^ low) width i h ∙ bit_at-shr x low i))
    (λ h. bit_at-mod_out (x % 2 ^ k / 2 ^ low) width i h ∙ sym (bit_at-mod_out (x / 2 ^ low) width i h)))

pub seen_part : (x low width : ℕ) → seen (nat_lt 64 (low + width)) x / 2 ^ low % 2 ^ width ≡ x / 2 ^ low % 2 ^ width
seen_part x low width = by_test (nat_lt 64 (low + width)) refl
  where
    by_test : (b : Bool) → nat_lt 64 (low + width) ≡ b → seen b x / 2 ^ low % 2 ^ width ≡ x / 2 ^ low % 2 ^ width
    by_test true e = refl
    by_test false e = in_lowest x low width 64 (ltb-false 64 (low + width) e)
