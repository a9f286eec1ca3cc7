-- Bytes that stand in no part of a text.
use Rattle.std.proofs.Common.{◌≡◌, ℕ, zero, suc, ◌+◌, ◌<◌, ◌^◌, ◌==◌, ◌%◌, ◌/◌, true, not, List, [], ◌∷◌, ◌++◌, drop, min, decimal, slice_index, refl, ap, ◌∙◌, arith}
use Rattle.std.proofs.lemmas.Bool.{and_parts, and_from, ne_eqb}
use Rattle.std.proofs.lemmas.Fmt.{decimal_by_steps}
use Rattle.std.proofs.lemmas.List.Folds.{list_all-append}
use Rattle.std.specs.Int.{to_be_bytes, w128}
use Rattle.std.specs.List.{prefix_len}
use Rattle.hex.specs.Hex.{encode_with, lower_digits}
use Rattle.verilog_spelling.specs.Spellings.{hex_text}
use Rattle.version_swap.specs.Told.{lacks}

pub lacks_both : (byte : ℕ) (xs ys : List ℕ) → lacks byte xs ≡ true → lacks byte ys ≡ true → lacks byte (xs ++ ys) ≡ true
lacks_both byte xs ys h k = list_all-append (λ c. not (c == byte)) xs ys ∙ and_from _ _ h k

lacks_drop : (byte n : ℕ) (xs : List ℕ) → lacks byte xs ≡ true → lacks byte (drop n xs) ≡ true
lacks_drop byte zero xs h = h
lacks_drop byte (suc n) [] h = h
lacks_drop byte (suc n) (x ∷ xs) h = lacks_drop byte n xs (and_parts _ _ h).1

pub lacks_digit : (byte c : ℕ) → byte < c → lacks byte (c ∷ []) ≡ true
lacks_digit byte c less = and_from _ true (ap not (ne_eqb c byte (λ e. omega (arith, e, less)))) refl

-- a number has digits alone
pub decimal_lacks : (byte n : ℕ) → byte < 48 → n < 2 ^ 64 → lacks byte (decimal n) ≡ true
decimal_lacks byte n low fits =
    decimal_by_steps (λ m ds. lacks byte ds ≡ true) (λ m h. lacks_digit byte (48 + m) (omega (arith, low)))
    (λ m ds h so. lacks_both byte ds ((48 + m % 10) ∷ []) so (lacks_digit byte (48 + m % 10) (omega (arith, low)))) n fits

-- what a table gives is one of its bytes, or 0
at_lacks : (byte : ℕ) (table : List ℕ) (i : ℕ) → not (0 == byte) ≡ true → lacks byte table ≡ true → not (slice_index table i == byte) ≡ true
at_lacks byte [] i other h = other
at_lacks byte (c ∷ table) zero other h = (and_parts _ _ h).0
at_lacks byte (c ∷ table) (suc i) other h = at_lacks byte table i other (and_parts _ _ h).1

encoded_lacks : (byte : ℕ) (table xs : List ℕ) → not (0 == byte) ≡ true → lacks byte table ≡ true → lacks byte (encode_with table xs) ≡ true
unfolding encode_with
encoded_lacks byte table [] other h = refl
encoded_lacks byte table (x ∷ xs) other h =
    and_from _ _ (at_lacks byte table (x / 16) other h)
    (and_from _ _ (at_lacks byte table (x % 16) other h) (encoded_lacks byte table xs other h))

-- a value in hexadecimal has no line end
pub hex_lacks : (value : ℕ) → lacks 10 (hex_text value) ≡ true
hex_lacks value =
    let digits : List ℕ = encode_with lower_digits (to_be_bytes w128 value) in
    lacks_drop 10 (min (prefix_len (λ c. c == 48) digits) 31) digits (encoded_lacks 10 lower_digits (to_be_bytes w128 value) refl refl)
