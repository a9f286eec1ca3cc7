-- Settings of the code's type, as a row's pairs.
use Rattle.std.specs.Prelude.{ℕ, List, map}
use Rattle.stimulus.specs.declared.setting.Setting.{Setting}

abbrev pub pair_of : Setting → ℕ × ℕ
pair_of s = (s.name.0, s.value)

abbrev pub pairs_of : List Setting → List (ℕ × ℕ)
pairs_of settings = map pair_of settings
