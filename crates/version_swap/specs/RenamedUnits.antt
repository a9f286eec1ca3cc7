-- What a module is built with and what is built of it, under other names.
use Rattle.std.specs.Prelude.{map}
use Rattle.std.specs.Option.{option_map}
use Rattle.ls_text.specs.declared.name_id.NameId.{NameId}
use Rattle.module_registry.specs.Building.{Built}
use Rattle.unit_build.specs.BuiltModules.{Usage}
use Rattle.version_swap.specs.RenamedFindings.{shape_as, unit_as}

-- values of parameters have no names
abbrev pub usage_as : (NameId → NameId) → Usage → Usage
usage_as f u = record {
  parameters = u.parameters;
  clock = option_map f u.clock;
  children = map (shape_as f) u.children;
  names = map f u.names;
}

abbrev pub built_as : (NameId → NameId) → Built → Built
built_as f b = record { unit = unit_as f b.unit; shapes = map (shape_as f) b.shapes }
