-- What names stand for (IEEE Std 1364-2005, 4.2, 4.3, 4.8, 4.10, 4.11, 12.4 and 12.7).
use Rattle.std.specs.Prelude.{ℕ, Bool, true, false, ◌==◌, if◌then◌else◌}
use Rattle.width_rules.specs.declared.writer.Writer.{Writer}

pub data Meaning : Type 0 where
  -- a net or variable: its number, its bits, the lower bound of its range (0 without one), its sign, and what may write it
  Signal : (signal width lsb : ℕ) (signed : Bool) (writer : Writer) → Meaning
  -- a parameter
  Constant : (width value : ℕ) (signed : Bool) → Meaning
  -- a genvar within its loop, with its value in this turn
  Turn : (width value : ℕ) (signed : Bool) → Meaning
  -- a genvar outside of its loop
  Genvar : Meaning
  -- nothing that an expression can use: not declared in reach, a label or an instance
  Unknown : Meaning

-- the names in reach, by their numbers
abbrev pub Scope : Type 0
Scope = ℕ → Meaning

-- and one more declaration
abbrev pub with_name : ℕ → Meaning → Scope → Scope
with_name name meaning scope other = if name == other then meaning else scope other

-- whether it is a net or variable
abbrev pub is_signal : Meaning → Bool
is_signal (Signal signal width lsb signed writer) = true
is_signal (Constant width value signed) = false
is_signal (Turn width value signed) = false
is_signal Genvar = false
is_signal Unknown = false
