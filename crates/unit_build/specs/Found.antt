-- The number that a map of the code gives a name.
use Rattle.std.specs.Prelude.{ℕ, nat_eq, Option}
use Rattle.indexmap.specs.IndexMap.{get}
use Rattle.unit_build.specs.declared.port_names.PortNames.{PortNames}

abbrev pub port_in : PortNames → ℕ → Option ℕ
port_in names name = get nat_eq names.first name
