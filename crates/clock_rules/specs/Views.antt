-- What the types of the code mean: the name of a clock port, and those of instances.
use Rattle.std.specs.Prelude.{ℕ, List, map, Option}
use Rattle.std.specs.Option.{option_map}
use Rattle.ls_text.specs.declared.name_id.NameId.{NameId}

abbrev pub id_of : NameId → ℕ
id_of n = n.0

abbrev pub clock_view : Option NameId → Option ℕ
clock_view = option_map id_of

abbrev pub clocks_view : List (Option NameId) → List (Option ℕ)
clocks_view = map clock_view
