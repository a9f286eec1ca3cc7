-- What elaboration finds, under other names.
use Rattle.std.specs.Prelude.{ℕ, map, Option}
use Rattle.std.specs.Option.{option_map}
use Rattle.ls_text.specs.declared.name_id.NameId.{NameId}
use Rattle.verilog_ast.specs.Renamed.{renamed_identifier}
use Rattle.elaborate.specs.Checks.{ModuleChild, Checked}
use Rattle.elaborate.specs.Elaborated.{Standing}
use Rattle.elaborate.specs.Overrides.{Given}
use Rattle.elaborate.specs.Ports.{PortOutline}
use Rattle.elaborate.specs.Tables.{NameIn, Declaration, Table}
use Rattle.elaborate.specs.Trees.{TreeInstance}
use Rattle.elaborate.specs.Visits.{Visited}
use Rattle.elaborate.specs.Renaming.{number_as, block_as}

-- ---- a module

abbrev pub name_in_as : (NameId → NameId) → NameIn → NameIn
name_in_as f n = record { block = n.block; name = number_as f n.name }

abbrev pub entry_as : (NameId → NameId) → NameIn × Declaration → NameIn × Declaration
entry_as f e = (name_in_as f e.0, e.1)

abbrev pub table_as : (NameId → NameId) → Table → Table
table_as f = map (entry_as f)

abbrev pub given_as : (NameId → NameId) → Given → Given
given_as f g = record { name = number_as f g.name; value = g.value }

abbrev pub child_as : (NameId → NameId) → ModuleChild → ModuleChild
child_as f c = record {
  block = c.block;
  name = renamed_identifier f c.name;
  instantiated = renamed_identifier f c.instantiated;
  overrides = c.overrides;
}

abbrev pub checked_as : (NameId → NameId) → Checked → Checked
checked_as f c = record {
  ports = map (renamed_identifier f) c.ports;
  port = c.port;
  parameters = c.parameters;
  declared = table_as f c.declared;
  children = map (child_as f) c.children;
}

abbrev pub clock_as : (NameId → NameId) → Option ℕ → Option ℕ
clock_as f = option_map (number_as f)

abbrev pub outline_as : (NameId → NameId) → PortOutline → PortOutline
outline_as f p = record { name = number_as f p.name; input = p.input; width = p.width; signed = p.signed }

abbrev pub visited_as : (NameId → NameId) → Visited → Visited
visited_as f v = record {
  checks = checked_as f v.checks;
  clocks = map (clock_as f) v.clocks;
  blocks = map (block_as f) v.blocks;
  ports = map (outline_as f) v.ports;
}

-- ---- a design

abbrev pub standing_as : (NameId → NameId) → Standing → Standing
standing_as f s = record {
  parent = s.parent;
  block = s.block;
  name = renamed_identifier f s.name;
  instantiated = number_as f s.instantiated;
  overrides = s.overrides;
  clock = clock_as f s.clock;
  visited = visited_as f s.visited;
}

-- what an instance is called is its text, which stays
abbrev pub seen_instance_as : (NameId → NameId) → TreeInstance → TreeInstance
seen_instance_as f i = record {
  parent = i.parent;
  name = i.name;
  instantiated = number_as f i.instantiated;
  parameters = i.parameters;
  clock = clock_as f i.clock;
  ports = map (outline_as f) i.ports;
}
