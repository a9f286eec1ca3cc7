-- Where constants stand.
use Rattle.std.specs.Prelude.{ℕ, ◌+◌, ◌==◌, List, length, position, Option, Some, None}
use Rattle.design_steps.specs.declared.constants.Constants.{Constants}

-- a place in a list, or else the place behind it
abbrev pub or_end : Option ℕ → ℕ → ℕ
or_end (Some place) n = place
or_end None n = n

abbrev pub spot : List ℕ → ℕ → ℕ
spot values v = or_end (position (λ x. v == x) values) (length values)

abbrev pub place_in : Constants → ℕ → ℕ
place_in pool v = pool.first + spot pool.values.keys v
