-- The forms of the values that words of a script have: identifiers, numbers, registers. That of a file's name is of ls_text.
use Rattle.std.specs.Prelude.{ℕ, ◌+◌, ◌^◌, Bool, false, ◌==◌, ◌&&◌, not, nat_le, nat_lt, if◌then◌else◌, List, [], ◌∷◌, length, take, drop, Option, Some, None}
use Rattle.std.specs.List.{prefix_len, list_all}
use Rattle.std.specs.Char.{is_digit}
use Rattle.std.specs.Str.Parse.{digits_value}
use Rattle.ls_text.specs.Bytes.{is_letter, is_word_byte}
use Rattle.ls_text.specs.Options.{guard, ◌>>=◌}

-- a letter or `_`, and then letters, digits, `_` and `$`
unfoldable pub is_identifier : List ℕ → Bool
is_identifier [] = false
is_identifier (b ∷ bs) = is_letter b && (prefix_len is_word_byte bs == length bs)

-- the number that digits of a base spell, where there is a digit and it is below 2 ^ 128
unfoldable pub number_in : (base : ℕ) → List ℕ → Option ℕ
number_in base ds =
    guard (nat_lt 0 (length ds) && (list_all (λ c. is_digit c base) ds && nat_lt (digits_value base ds) (2 ^ 128))) (digits_value base ds)

-- N: 1 to 20 decimal digits, for a number below 2 ^ 64
unfoldable pub count_of : List ℕ → Option ℕ
count_of word = number_in 10 word >>= λ n. guard (nat_le (length word) 20 && nat_lt n (2 ^ 64)) n

-- HEX: 1 to 32 hexadecimal digits in either case
unfoldable pub hex_of : List ℕ → Option ℕ
hex_of word = number_in 16 word >>= λ n. guard (nat_le (length word) 32) n

-- what stands before the first such byte, and what behind it
unfoldable pub parted_at : (byte : ℕ) → List ℕ → Option (List ℕ × List ℕ)
parted_at byte word =
    let n = prefix_len (λ b. not (b == byte)) word in
    guard (nat_lt n (length word)) (take n word, drop (n + 1) word)

-- M.R: a module, and the name of a register within it, of at least one byte
unfoldable pub register_of : List ℕ → Option (List ℕ × List ℕ)
register_of word = parted_at 46 word >>= λ r. guard (is_identifier r.0 && nat_lt 0 (length r.1)) r

-- PORT=HEX
unfoldable pub setting_of : List ℕ → Option (List ℕ × ℕ)
setting_of word = do
  parts ← parted_at 61 word
  value ← hex_of parts.1
  guard (is_identifier parts.0) (parts.0, value)

-- M.R=HEX
unfoldable pub created_of : List ℕ → Option (List ℕ × List ℕ × ℕ)
created_of word = do
  parts ← parted_at 61 word
  register ← register_of parts.0
  value ← hex_of parts.1
  Some (register.0, register.1, value)

abbrev pub port_or : (word : List ℕ) → Option (List ℕ × List ℕ) → List ℕ
port_or word None = word
port_or word (Some parts) = if is_identifier parts.0 then parts.0 else word

-- what a bad value shows: the port where an identifier stands before `=`, else the whole word
unfoldable pub shown_of : List ℕ → List ℕ
shown_of word = port_or word (parted_at 61 word)
