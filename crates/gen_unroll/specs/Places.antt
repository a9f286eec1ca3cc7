-- The first of several places.
use Rattle.std.specs.Prelude.{ℕ, Bool, Option, Some, None}
use Rattle.ls_text.specs.Options.{guard}

-- a place that is known stays; else there is this one, where it is one
abbrev pub first_of : Option ℕ → Bool → ℕ → Option ℕ
first_of (Some k) here n = Some k
first_of None here n = guard here n
