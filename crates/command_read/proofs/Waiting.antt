-- How long a reader can go on reading.
use Rattle.std.proofs.Common.{ℕ, ◌+◌, ◌-◌, Bool, true, false, Option, Some, None}
use Rattle.command_read.specs.declared.stop.Stop.{Stop}

abbrev pub open_yet : Bool → ℕ
open_yet false = 1
open_yet true = 0

abbrev pub goes_yet : Option Stop → ℕ
goes_yet None = 1
goes_yet (Some stop) = 0

-- the bytes that may still come, and one for each of two ends that may still come
abbrev pub waits : (taken : ℕ) → (ended : Bool) → Option Stop → ℕ
waits taken ended stop = 67108866 - taken + open_yet ended + goes_yet stop
