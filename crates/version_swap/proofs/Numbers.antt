-- A value is told by its text in hexadecimal.
use Rattle.std.proofs.Common.{◌≡◌, ℕ, zero, suc, ◌+◌, ◌*◌, ◌/◌, ◌%◌, ◌<◌, ◌^◌, List, length, Ok, refl, sym, ap, ap₂, ◌∙◌, subst, arith, mod-eq_of_lt, pow-suc, mul_comm, div-one, mul-pos}
use Rattle.std.proofs.Math.Arith.{mod-mul}
use Rattle.std.proofs.lemmas.Nat.{mod_below}
use Rattle.std.specs.Int.{byte_at, bytes_high_first, to_be_bytes, w128}
use Rattle.ls_text.proofs.Lists.{first_of, rest_of}
use Rattle.hex.specs.Hex.{IsBytes, encode_lower, decode_of, lower_digits}
use Rattle.hex.proofs.HexLemmas.{decode_of-encode_lower, decode_of-same, length-encode_with}
use Rattle.verilog_spelling.specs.Spellings.{hex_text}
use Rattle.version_swap.proofs.Stripped.{stripped}

-- ---- bytes

byte_is : (k n : ℕ) → byte_at k n ≡ n / 256 ^ k % 256
byte_is zero n = ap (λ q. q % 256) (sym (div-one n))
byte_is (suc k) n = refl

byte_low : (k n : ℕ) → byte_at k n < 256
byte_low k n = subst (λ b. b < 256) (sym (byte_is k n)) (mod_below (n / 256 ^ k) 256 (omega arith))

bytes_low : (k n : ℕ) → IsBytes (bytes_high_first k n)
bytes_low zero n i = omega arith
bytes_low (suc k) n zero = byte_low k n
bytes_low (suc k) n (suc i) = bytes_low k n i

length-bytes : (k n : ℕ) → length (bytes_high_first k n) ≡ k
length-bytes zero n = refl
length-bytes (suc k) n = ap suc (length-bytes k n)

power_pos : (k : ℕ) → 0 < 256 ^ k
power_pos zero = omega arith
power_pos (suc k) = subst (λ p. 0 < p) (sym (pow-suc 256 k)) (mul-pos (power_pos k) (omega arith))

-- the lowest bytes of a number: the highest of them, and those below
low_part : (k n : ℕ) → n % 256 ^ suc k ≡ byte_at k n * 256 ^ k + n % 256 ^ k
low_part k n =
    ap (λ p. n % p) (pow-suc 256 k ∙ mul_comm (256 ^ k) 256) ∙ mod-mul n {m = 256} {c = 256 ^ k} (omega arith) (power_pos k)
    ∙ ap (λ b. b * 256 ^ k + n % 256 ^ k) (sym (byte_is k n))

bytes_tell : (k a b : ℕ) → bytes_high_first k a ≡ bytes_high_first k b → a % 256 ^ k ≡ b % 256 ^ k
bytes_tell zero a b e = omega arith
bytes_tell (suc k) a b e =
    low_part k a ∙ ap₂ (λ high low. high * 256 ^ k + low) (ap first_of e) (bytes_tell k a b (ap rest_of e)) ∙ sym (low_part k b)

-- ---- digits

encoded_tell : (xs ys : List ℕ) → IsBytes xs → IsBytes ys → encode_lower xs ≡ encode_lower ys → xs ≡ ys
encoded_tell xs ys low_x low_y e =
    decode_of-same (encode_lower ys) xs ys (subst (λ s. decode_of s ≡ Ok xs) e (decode_of-encode_lower xs low_x)) (decode_of-encode_lower ys low_y)

many_digits : (n : ℕ) → length (encode_lower (to_be_bytes w128 n)) ≡ 32
many_digits n = length-encode_with lower_digits (to_be_bytes w128 n) ∙ ap (λ k. 2 * k) (length-bytes 16 n)

pub hex_tells : (a b : ℕ) → a < 2 ^ 128 → b < 2 ^ 128 → hex_text a ≡ hex_text b → a ≡ b
hex_tells a b small_a small_b e =
    let digits : encode_lower (to_be_bytes w128 a) ≡ encode_lower (to_be_bytes w128 b) =
    stripped 48 31 (encode_lower (to_be_bytes w128 a)) (encode_lower (to_be_bytes w128 b))
    (many_digits a ∙ sym (many_digits b)) (omega (arith, many_digits a)) e in
    let bytes : to_be_bytes w128 a ≡ to_be_bytes w128 b =
    encoded_tell (to_be_bytes w128 a) (to_be_bytes w128 b) (bytes_low 16 a) (bytes_low 16 b) digits in
    sym (mod-eq_of_lt small_a) ∙ bytes_tell 16 a b bytes ∙ mod-eq_of_lt small_b
