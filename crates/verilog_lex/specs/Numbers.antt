-- Integer constants (IEEE 1364-2005, clause 3.5.1).
use Rattle.std.specs.Prelude.{ℕ, ◌+◌, ◌-◌, ◌*◌, ◌%◌, ◌^◌, Bool, true, false, ◌&&◌, ◌||◌, ◌==◌, nat_le, nat_lt, if◌then◌else◌, List, [], ◌∷◌, slice_index, Option, Some, None}
use Rattle.std.specs.List.{list_any}
use Rattle.verilog_lex.specs.declared.kind.Kind.{Kind}
use Rattle.verilog_lex.specs.declared.kind.Kind.TheVariants as kind
use Rattle.verilog_lex.specs.declared.literal.Literal.{Literal}
use Rattle.verilog_lex.specs.Cuts.{is_wild}
use Rattle.ls_text.specs.Options.{guard, ◌>>=◌}

-- the value of a digit (clause 3.5.1): a wildcard digit counts as 0, an x digit has none
abbrev pub digit_of : ℕ → Option ℕ
digit_of c =
    if nat_le 48 c && nat_le c 57 then Some (c - 48) else if nat_le 97 c && nat_le c 102 then Some (c - 97 + 10)
    else if nat_le 65 c && nat_le c 70 then Some (c - 65 + 10) else if is_wild c then Some 0 else None

abbrev pub more_value : ℕ → ℕ → Option ℕ → (ℕ → Option ℕ) → Option ℕ
more_value radix n None next = None
more_value radix n (Some d) next = if nat_lt d radix then next (n * radix + d) else None

-- the value of digits behind those that have the value n, where each is of the radix; _ counts for nothing
abbrev pub value_from : ℕ → ℕ → List ℕ → Option ℕ
value_from radix n [] = Some n
value_from radix n (c ∷ cs) =
    if c == 95 then value_from radix n cs else more_value radix n (digit_of c) (λ m. value_from radix m cs)

-- a value below 2 ^ 128
abbrev pub small : Option ℕ → Option ℕ
small value = value >>= λ n. guard (nat_lt n (2 ^ 128)) n

unfoldable pub digits_value : ℕ → List ℕ → Option ℕ
digits_value radix digits = small (value_from radix 0 digits)

-- what a digit covers: a wildcard digit all its bits, which is the highest digit, and another none (clauses 3.5.1 and 9.5.1)
abbrev pub covered : ℕ → ℕ → ℕ
covered radix c = if is_wild c then radix - 1 else 0

-- the value of the digits that are covered, behind those that have the value n; _ counts for nothing
abbrev pub covered_from : ℕ → ℕ → List ℕ → ℕ
covered_from radix n [] = n
covered_from radix n (c ∷ cs) = if c == 95 then covered_from radix n cs else covered_from radix (n * radix + covered radix c) cs

-- the lowest 128 bits that are covered; a leftmost wildcard digit goes on to the left (clause 3.5.1)
unfoldable pub digits_mask : ℕ → List ℕ → ℕ
digits_mask radix digits = covered_from radix (if is_wild (slice_index digits 0) then 2 ^ 128 - 1 else 0) digits % 2 ^ 128

abbrev pub has_wild : List ℕ → Bool
has_wild digits = list_any is_wild digits

-- a value of a size, which is cut on the left; without a size it has 32 bits (clause 3.5.1)
unfoldable pub number_of : ℕ → Bool → ℕ → Option (Kind × Literal)
number_of size signed value =
    if size == 0 then guard (nat_le value 4294967295) (kind.Number, record { size = 0; signed = signed; value = value; mask = 0 })
    else Some (kind.Number, record { size = size; signed = signed; value = value % 2 ^ size; mask = 0 })

-- digits that match any bit (clause 9.5.1) stand only in sized unsigned literals of base b, o or h
unfoldable pub wild_of : ℕ → Bool → ℕ → List ℕ → ℕ → Option (Kind × Literal)
wild_of size signed radix digits value =
    if (size == 0) || (signed || (radix == 10)) then None
    else Some (kind.Wild, record { size = size; signed = false; value = value % 2 ^ size; mask = digits_mask radix digits % 2 ^ size })

-- a based part under a size, or under none, which is 0
unfoldable pub based_literal : ℕ → Bool → ℕ → List ℕ → Option (Kind × Literal)
based_literal size signed radix digits =
    digits_value radix digits >>= λ value.
    if has_wild digits then wild_of size signed radix digits value else number_of size signed value

-- a plain decimal alone, which is signed (clause 3.5.1)
unfoldable pub plain_literal : List ℕ → Option (Kind × Literal)
plain_literal digits = digits_value 10 digits >>= λ value. number_of 0 true value

-- a size is from 1 to 128
unfoldable pub size_of : List ℕ → Option ℕ
size_of digits = digits_value 10 digits >>= λ n. guard (nat_le 1 n && nat_le n 128) n

-- a plain decimal and the based part behind it
unfoldable pub sized_literal : List ℕ → Bool × ℕ × List ℕ → Option (Kind × Literal)
sized_literal digits part = size_of digits >>= λ size. based_literal size part.0 part.1 part.2

abbrev pub decimal_literal : List ℕ → Option (Bool × ℕ × List ℕ) → Option (Kind × Literal)
decimal_literal digits None = plain_literal digits
decimal_literal digits (Some part) = sized_literal digits part
