-- The status of a run whose lines were all written.
use Rattle.std.specs.Prelude.{ℕ, Bool, if◌then◌else◌}
use Rattle.livesim.specs.declared.ending.Ending.{Ending}
use Rattle.livesim.specs.declared.ending.Ending.TheVariants.{Whole, Failed, TooMuch, NoMemory}

-- by how its reading ended, and whether a command was refused
abbrev pub status_of : Ending → (refused : Bool) → ℕ
status_of Whole refused = if refused then 1 else 0
status_of Failed refused = 3
status_of TooMuch refused = 6
status_of NoMemory refused = 5
