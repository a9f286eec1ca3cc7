-- Selects of so many bits up or down from a base (IEEE Std 1364-2005, 5.2.1).
use Rattle.std.specs.Prelude.{ℕ, ◌-◌}
use Rattle.width_rules.specs.declared.direction.Direction.{Direction}
use Rattle.width_rules.specs.declared.direction.Direction.TheVariants.{Upward, Downward}

-- how far below its base it begins
abbrev pub down_of : Direction → ℕ → ℕ
down_of Upward width = 0
down_of Downward width = width - 1
