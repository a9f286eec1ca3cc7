-- The one spelling of tokens.
use Rattle.std.specs.Prelude.{ℕ, zero, suc, ◌==◌, min, if◌then◌else◌, List, [], ◌∷◌, ◌++◌, drop, codes, decimal}
use Rattle.std.specs.List.{prefix_len, flat_map}
use Rattle.std.specs.Int.{bit_at, w128, to_be_bytes}
use Rattle.hex.specs.Hex.{encode_lower}
use Rattle.ls_text.specs.Texts.{text_at}
use Rattle.verilog_lex.specs.declared.token.Token.{Token}
use Rattle.verilog_lex.specs.declared.literal.Literal.{Literal}
use Rattle.verilog_lex.specs.declared.kind.Kind.{Kind}
use Rattle.verilog_lex.specs.declared.kind.Kind.TheVariants as k

-- in lower-case hexadecimal without leading zeros
abbrev pub hex_text : ℕ → List ℕ
hex_text value = let digits = encode_lower (to_be_bytes w128 value) in drop (min (prefix_len (λ c. c == 48) digits) 31) digits

-- nothing where there is no size
abbrev pub size_text : ℕ → List ℕ
size_text size = if size == 0 then [] else decimal size

abbrev pub number_text : Literal → List ℕ
number_text l = size_text l.size ++ (if l.signed then codes "'sh" else codes "'h") ++ hex_text l.value

-- `?` where the mask has a 1, else the bit
abbrev pub digit_of : ℕ → ℕ → ℕ
digit_of mask_bit value_bit = if mask_bit == 1 then 63 else (if value_bit == 1 then 49 else 48)

abbrev pub binary_digit_of : ℕ → ℕ → ℕ → ℕ
binary_digit_of bit value mask = digit_of (bit_at mask bit) (bit_at value bit)

-- so many binary digits, from the highest
abbrev pub binary_digits : ℕ → ℕ → ℕ → List ℕ
binary_digits zero value mask = []
binary_digits (suc n) value mask = binary_digit_of n value mask ∷ binary_digits n value mask

abbrev pub pattern_text : Literal → List ℕ
pattern_text l = size_text l.size ++ codes "'b" ++ binary_digits l.size l.value l.mask

abbrev pub text_of_kind : Kind → List (List ℕ) → Token → List ℕ
text_of_kind k.Number names t = number_text t.literal
text_of_kind k.Wild names t = pattern_text t.literal
text_of_kind _ names t = text_at names t.text.0

-- a number by its size, sign and value, all else as it is written
abbrev pub token_text : List (List ℕ) → Token → List ℕ
token_text names t = text_of_kind t.kind names t

-- each after a space
abbrev pub spaced : List (List ℕ) → List Token → List ℕ
spaced names tokens = flat_map (λ (t : Token). 32 ∷ token_text names t) tokens

-- with single spaces between
abbrev pub spelling : List (List ℕ) → List Token → List ℕ
spelling names [] = []
spelling names (t ∷ ts) = token_text names t ++ spaced names ts
