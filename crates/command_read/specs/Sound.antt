-- What the fields of a reader have to do with each other.
use Rattle.std.specs.Prelude.{◌≡◌, ℕ, ◌+◌, ◌-◌, ◌≤◌, nat_lt, Bool, true, false, Option, Some, None}
use Rattle.command_read.specs.declared.stop.Stop.{Stop}
use Rattle.command_read.specs.declared.stop.Stop.TheVariants.{End, Fault, TooMuch, NoMemory}

abbrev pub is_too_much : Option Stop → Bool
is_too_much None = false
is_too_much (Some End) = false
is_too_much (Some Fault) = false
is_too_much (Some TooMuch) = true
is_too_much (Some NoMemory) = false

-- A read has room for 65,536 bytes; what is handed out was held; each line takes a byte; and a reader that has taken the byte above the
-- limit has stopped.
pub record IsSound (room held at number taken : ℕ) (stop : Option Stop) : Type 0 where
  pub piece : room ≡ 65536
  pub within : at ≤ held
  pub lines : number + (held - at) ≤ taken + 1
  pub most : taken ≤ 67108865
  pub much : is_too_much stop ≡ nat_lt 67108864 taken
