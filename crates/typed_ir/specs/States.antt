-- The values of registers.
use Rattle.std.specs.Prelude.{ℕ}
use Rattle.bits.specs.declared.Bits.{Bits}

-- a value's width, and its number
abbrev pub sized_value : Bits → ℕ × ℕ
sized_value b = (b.width, b.value)
