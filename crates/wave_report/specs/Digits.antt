-- Values in hexadecimal, as a table shows them: this project's own.
use Rattle.std.specs.Prelude.{ℕ, ◌+◌, ◌-◌, ◌/◌, List, drop}
use Rattle.std.specs.Int.{w128, to_be_bytes}
use Rattle.hex.specs.Hex.{encode_lower}

-- the last digits of a value's 32, lower-case: as many as a quarter of the width, rounded up
abbrev pub hex_text : ℕ → ℕ → List ℕ
hex_text width value = drop (32 - (width + 3) / 4) (encode_lower (to_be_bytes w128 value))
