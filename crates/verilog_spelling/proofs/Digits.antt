-- Digits of a literal with don't-cares.
use Rattle.std.proofs.Common.{◌≡◌, ◌<◌, ◌≤◌, ◌-◌, ◌^◌, ℕ, zero, suc, List, [], ◌∷◌, ◌++◌, append_assoc, sym, ap, ◌∙◌, arith}
use Rattle.std.proofs.lemmas.Nat.Bits.{bit_at_above}
use Rattle.std.specs.Int.{bit_at}
use Rattle.verilog_spelling.specs.Spellings.{binary_digit_of, binary_digits, digit_of}

pub one_more : (n value mask : ℕ) → 0 < n → binary_digits n value mask ≡ binary_digit_of (n - 1) value mask ∷ binary_digits (n - 1) value mask
one_more zero value mask some = absurd (omega arith)
one_more (suc n) value mask some = let e : n ≡ suc n - 1 = omega arith in ap (λ (k : ℕ). binary_digit_of k value mask ∷ binary_digits k value mask) e

-- past 128 bits there is none
pub no_digit : (bit value mask : ℕ) → 128 ≤ bit → value < 2 ^ 128 → mask < 2 ^ 128 → 48 ≡ binary_digit_of bit value mask
no_digit bit value mask far small narrow =
    ap (λ (b : ℕ). digit_of b 0) (sym (bit_at_above mask 128 bit narrow far)) ∙ ap (λ (b : ℕ). digit_of (bit_at mask bit) b) (sym (bit_at_above value 128 bit small far))

pub digit_pushed : (text new old : List ℕ) (left size value mask d : ℕ) → 0 < left → new ≡ text ++ d ∷ [] → d ≡ binary_digit_of (left - 1) value mask → text ++ binary_digits left value mask ≡ old ++ binary_digits size value mask
    → new ++ binary_digits (left - 1) value mask ≡ old ++ binary_digits size value mask
digit_pushed text new old left size value mask d some is at before =
    ap (λ (l : List ℕ). l ++ binary_digits (left - 1) value mask) is
    ∙ append_assoc text (d ∷ []) (binary_digits (left - 1) value mask)
    ∙ ap (λ (k : ℕ). text ++ k ∷ binary_digits (left - 1) value mask) at
    ∙ ap (λ (l : List ℕ). text ++ l) (sym (one_more left value mask some))
    ∙ before
