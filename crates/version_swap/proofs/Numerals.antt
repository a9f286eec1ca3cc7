-- A number is read back from its text.
use Rattle.std.proofs.Common.{◌≡◌, ◌≢◌, ◌∙◌, ◌<◌, ◌≤◌, ℕ, zero, suc, ◌+◌, ◌*◌, ◌/◌, ◌%◌, ◌^◌, Bool, true, false, cond, eqb, List, [], ◌∷◌, drop, min, slice_index, unwrap_or, Some, None, pow-suc, mul_comm, refl, sym, ap, arith}
use Rattle.std.specs.List.{prefix_len}
use Rattle.std.specs.Int.{w128, byte_at, bytes_high_first, to_be_bytes}
use Rattle.std.specs.Str.Parse.{AllDigits}
use Rattle.std.proofs.lemmas.Bool.{eqb-true}
use Rattle.std.proofs.lemmas.Fmt.{decimal_injective, decimal_is_IsNumeral, decimal_nonempty}
use Rattle.std.proofs.lemmas.Str.Parse.{digit_from_value}
use Rattle.std.proofs.Math.Nat.{pow-le-pow_right}
use Rattle.std.proofs.Math.Arith.{mod-mul}
use Rattle.std.specs.Prelude.{decimal, length}
use Rattle.hex.specs.Hex.{hex_digit_value, lower_digits, encode_lower, encode_with}
use Rattle.hex.proofs.HexLemmas.{IsDigits-lower_digits}
use Rattle.verilog_spelling.specs.Spellings.{hex_text, size_text}
use Rattle.version_swap.specs.Proper.{IsFreeOf}
use Rattle.version_swap.proofs.SpelledTexts.{free_drop}

-- ---- sizes

digits_free : (c : ℕ) (ds : List ℕ) → c < 48 → AllDigits 10 ds → IsFreeOf c ds
digits_free c [] low all = tt
digits_free c (d ∷ ds) low all = (λ is. omega (arith, digit_from_value d all.0), digits_free c ds low all.1)

pub size_free : (c n : ℕ) → c < 48 → n < 2 ^ 64 → IsFreeOf c (size_text n)
size_free c n low small = by (eqb n 0)
  where
    by : (b : Bool) → IsFreeOf c (cond b [] (decimal n))
    by true = tt
    by false = digits_free c (decimal n) low (decimal_is_IsNumeral n small).0.1

pub size_injective : (m n : ℕ) → m < 2 ^ 64 → n < 2 ^ 64 → size_text m ≡ size_text n → m ≡ n
size_injective m n small small' same = by (eqb m 0) (eqb n 0) refl refl same
  where
    some : (k : ℕ) → k < 2 ^ 64 → [] ≡ decimal k → ⊥
    some k small none = omega (arith, decimal_nonempty k small, ap length none)

    by : (a b : Bool) → eqb m 0 ≡ a → eqb n 0 ≡ b → cond a [] (decimal m) ≡ cond b [] (decimal n) → m ≡ n
    by true true is is' same = eqb-true m 0 is ∙ sym (eqb-true n 0 is')
    by true false is is' same = absurd (some n small' same)
    by false true is is' same = absurd (some m small (sym same))
    by false false is is' same = decimal_injective m n small small' same

-- ---- values

abbrev digit_value : ℕ → ℕ
digit_value c = unwrap_or (hex_digit_value c) 0

-- the value of hexadecimal digits behind those that have the value n
abbrev hex_from : ℕ → List ℕ → ℕ
hex_from n [] = n
hex_from n (c ∷ cs) = hex_from (n * 16 + digit_value c) cs

digit_back : (d : ℕ) → d < 16 → digit_value (slice_index lower_digits d) ≡ d
digit_back d small = ap (λ o. unwrap_or o 0) (IsDigits-lower_digits d small)

digit_free : (d : ℕ) → d < 16 → slice_index lower_digits d ≢ 32
digit_free d small is = let none : None ≡ Some d = sym (ap hex_digit_value is) ∙ IsDigits-lower_digits d small in cc

byte_small : (k n : ℕ) → byte_at k n < 256
byte_small zero n = omega arith
byte_small (suc k) n = omega arith

byte_on : (k n high : ℕ) → (high * 256 + byte_at k n) * 256 ^ k + n % 256 ^ k ≡ high * 256 ^ suc k + n % 256 ^ suc k
byte_on zero n high = omega arith
byte_on (suc k) n high =
    let unit = 256 ^ suc k in
    let wider : 256 ^ suc (suc k) ≡ 256 * unit = pow-suc 256 (suc k) ∙ mul_comm unit 256 in
    let some : 0 < unit = pow-le-pow_right {n = 256} (omega arith) {i = 0} {j = suc k} (omega arith) in
    rw (wider, mod-mul n {m = 256} {c = unit} (omega arith) some) (omega arith)

two_digits : (high b : ℕ) → b < 256
    → (high * 16 + digit_value (slice_index lower_digits (b / 16))) * 16 + digit_value (slice_index lower_digits (b % 16)) ≡ high * 256 + b
two_digits high b small = omega (arith, digit_back (b / 16) (omega arith), digit_back (b % 16) (omega arith))

hex_back : (k n high : ℕ) → hex_from high (encode_lower (bytes_high_first k n)) ≡ high * 256 ^ k + n % 256 ^ k
unfolding encode_with
hex_back zero n high = omega arith
hex_back (suc k) n high =
    ap (λ m. hex_from m (encode_lower (bytes_high_first k n))) (two_digits high (byte_at k n) (byte_small k n))
    ∙ hex_back k n (high * 256 + byte_at k n)
    ∙ byte_on k n high

bytes_free : (k n : ℕ) → IsFreeOf 32 (encode_lower (bytes_high_first k n))
unfolding encode_with
bytes_free zero n = tt
bytes_free (suc k) n =
    let small = byte_small k n in
    (digit_free (byte_at k n / 16) (omega arith), (digit_free (byte_at k n % 16) (omega arith), bytes_free k n))

-- leading zeros count for nothing
leading : (k : ℕ) (ds : List ℕ) → k ≤ prefix_len (λ c. eqb c 48) ds → hex_from 0 (drop k ds) ≡ hex_from 0 ds
leading zero ds within = refl
leading (suc k) [] within = refl
leading (suc k) (c ∷ cs) within = by (eqb c 48) refl within (leading k cs)
  where
    by : (b : Bool) → eqb c 48 ≡ b → suc k ≤ cond b (1 + prefix_len (λ c. eqb c 48) cs) 0
        → (k ≤ prefix_len (λ c. eqb c 48) cs → hex_from 0 (drop k cs) ≡ hex_from 0 cs) → hex_from 0 (drop k cs) ≡ hex_from (0 * 16 + digit_value c) cs
    by true is within rest = rest (omega arith) ∙ ap (λ d. hex_from (0 * 16 + digit_value d) cs) (sym (eqb-true c 48 is))
    by false is within rest = absurd (omega arith)

pub hex_read : (value : ℕ) → value < 2 ^ 128 → hex_from 0 (hex_text value) ≡ value
hex_read value small =
    let digits = encode_lower (to_be_bytes w128 value) in
    leading (min (prefix_len (λ c. eqb c 48) digits) 31) digits (omega arith) ∙ hex_back 16 value 0 ∙ omega arith

pub hex_free : (value : ℕ) → IsFreeOf 32 (hex_text value)
hex_free value =
    let digits = encode_lower (to_be_bytes w128 value) in
    free_drop 32 (min (prefix_len (λ c. eqb c 48) digits) 31) digits (bytes_free 16 value)

pub hex_injective : (m n : ℕ) → m < 2 ^ 128 → n < 2 ^ 128 → hex_text m ≡ hex_text n → m ≡ n
hex_injective m n small small' same = sym (hex_read m small) ∙ ap (hex_from 0) same ∙ hex_read n small'
