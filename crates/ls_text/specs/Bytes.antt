-- Classes of bytes (IEEE 1364-2005, clauses 3.1 to 3.7), and the first pair of two bytes.
use Rattle.std.specs.Prelude.{ℕ, ◌+◌, Bool, ◌&&◌, ◌||◌, ◌==◌, nat_le, if◌then◌else◌, List, [], ◌∷◌, Option, Some, None}

abbrev pub is_letter : ℕ → Bool
is_letter c = (nat_le 97 c && nat_le c 122) || ((nat_le 65 c && nat_le c 90) || (c == 95))

abbrev pub is_digit : ℕ → Bool
is_digit c = nat_le 48 c && nat_le c 57

-- what follows the first byte of a word
abbrev pub is_word_byte : ℕ → Bool
is_word_byte c = is_letter c || (is_digit c || (c == 36))

-- a byte of a file's name: a letter, a digit, `_`, `-`, `.` or `/`
abbrev pub is_file_byte : ℕ → Bool
is_file_byte c = is_letter c || (is_digit c || ((c == 45) || ((c == 46) || (c == 47))))

-- white space within a line
abbrev pub is_blank : ℕ → Bool
is_blank c = (c == 32) || ((c == 9) || ((c == 12) || (c == 13)))

abbrev pub is_space : ℕ → Bool
is_space c = (c == 10) || is_blank c

-- How many bytes end with the first pair of these two, after n bytes before the text. `seen` says that
-- the byte before the text is the first of the pair.
abbrev pub through_pair : ℕ → ℕ → Bool → ℕ → List ℕ → Option ℕ
through_pair first second seen n [] = None
through_pair first second seen n (b ∷ bs) =
    if seen && (b == second) then Some (n + 1) else through_pair first second (b == first) (n + 1) bs
