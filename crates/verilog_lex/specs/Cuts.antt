-- The longest token, white space or attribute at the front of a text that isn't empty (IEEE 1364-2005, clauses 3.1
-- to 3.8), and how many bytes it has.
use Rattle.std.specs.Prelude.{ℕ, ◌+◌, ◌-◌, Bool, ◌&&◌, ◌||◌, ◌==◌, not, nat_le, nat_lt, if◌then◌else◌, false, List, length, take, drop, slice_index, Option, Some, None}
use Rattle.std.specs.List.{prefix_len}
use Rattle.ls_text.specs.Bytes.{is_letter, is_digit, is_word_byte, is_space, through_pair}
use Rattle.verilog_lex.specs.declared.kind.Kind.{Kind}
use Rattle.verilog_lex.specs.Forms.{Form, Gap, Letters, Digits, Part, Sign, Unfit}
use Rattle.verilog_lex.specs.Keywords.{kind_in}
use Rattle.verilog_lex.specs.Signs.{triples, doubles, singles}

-- what follows the first digit of a plain decimal (clause 3.5.1)
abbrev pub is_decimal_byte : ℕ → Bool
is_decimal_byte c = is_digit c || (c == 95)

-- z and ? digits, which match any bit (clauses 3.5.1 and 9.5.1)
abbrev pub is_wild : ℕ → Bool
is_wild c = (c == 122) || ((c == 90) || (c == 63))

-- a digit of any base (clause 3.5.1)
abbrev pub is_part_digit : ℕ → Bool
is_part_digit c = is_digit c || ((nat_le 97 c && nat_le c 102) || ((nat_le 65 c && nat_le c 70) || ((c == 120) || ((c == 88) || is_wild c))))

abbrev pub is_part_byte : ℕ → Bool
is_part_byte c = is_part_digit c || (c == 95)

abbrev pub is_sign_letter : ℕ → Bool
is_sign_letter c = (c == 115) || (c == 83)

-- the radix of a base letter, 0 where it is none
abbrev pub radix_of : ℕ → ℕ
radix_of c =
    if (c == 98) || (c == 66) then 2 else if (c == 111) || (c == 79) then 8
    else if (c == 100) || (c == 68) then 10 else if (c == 104) || (c == 72) then 16 else 0

-- a based part (clause 3.5.1): a quote, an optional s, a base letter, optional white space, and digits with _ after the first
unfoldable pub part_at : List ℕ → Option (Form × ℕ)
part_at text =
    let signed = is_sign_letter (slice_index text 1) in
    let from = if signed then 3 else 2 in
    let radix = radix_of (slice_index text (from - 1)) in
    let gap = prefix_len is_space (drop from text) in
    let digits = drop gap (drop from text) in
    let n = prefix_len is_part_byte digits in
    if nat_lt 0 radix && is_part_digit (slice_index digits 0) then Some (Part (signed, radix, take n digits), from + gap + n) else None

-- `(*` whose next byte that isn't white space is there, and isn't `)` (clause 3.8)
unfoldable pub opens_attribute : List ℕ → Bool
opens_attribute text =
    let rest = drop 2 text in
    let next = drop (prefix_len is_space rest) rest in
    (slice_index text 0 == 40) && ((slice_index text 1 == 42) && (nat_lt 0 (length next) && not (slice_index next 0 == 41)))

abbrev pub to_its_end : Option ℕ → Form × ℕ
to_its_end None = (Unfit, 1)
to_its_end (Some n) = (Gap, 2 + n)

-- an attribute runs to the next `*)` (clause 3.8); one that has none is no token
unfoldable pub attribute_at : List ℕ → Form × ℕ
attribute_at text = to_its_end (through_pair 42 41 false 0 (drop 2 text))

abbrev pub sign_or : List ℕ → Option Kind → Form × ℕ → Form × ℕ
sign_or text None other = other
sign_or text (Some kind) other = (Sign kind text, length text)

-- the longest sign of the tables (clause 3.4)
unfoldable pub mark_at : List ℕ → Form × ℕ
mark_at text =
    sign_or (take 3 text) (kind_in triples (take 3 text))
    (sign_or (take 2 text) (kind_in doubles (take 2 text))
    (sign_or (take 1 text) (kind_in singles (take 1 text)) (Unfit, 1)))

abbrev pub found_or : Option (Form × ℕ) → Form × ℕ → Form × ℕ
found_or None other = other
found_or (Some found) other = found

unfoldable pub cut_at : List ℕ → Form × ℕ
cut_at text =
    let first = slice_index text 0 in
    if is_space first then (Gap, prefix_len is_space text)
    else if is_letter first then (Letters (take (prefix_len is_word_byte text) text), prefix_len is_word_byte text)
    else if is_digit first then (Digits (take (prefix_len is_decimal_byte text) text), prefix_len is_decimal_byte text)
    else if first == 39 then found_or (part_at text) (Unfit, 1)
    else if opens_attribute text then attribute_at text
    else mark_at text
