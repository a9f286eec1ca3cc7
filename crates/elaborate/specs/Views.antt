-- What the types of the code mean.
use Rattle.std.specs.Prelude.{List, map}
use Rattle.std.specs.Option.{option_map}
use Rattle.ls_text.specs.declared.name_id.NameId.{NameId}
use Rattle.typed_ir.specs.declared.constant.Const.{Const}
use Rattle.typed_ir.specs.declared.port_shape.PortShape.{PortShape}
use Rattle.gen_unroll.specs.Values.{constant_of}
use Rattle.gen_unroll.specs.Views.{bit_range_of, override_view, here_of, block_of}
use Rattle.clock_rules.specs.Views.{clocks_view}
use Rattle.elaborate.specs.declared.checking.Checking.{Checking}
use Rattle.elaborate.specs.declared.child_instance.ChildInstance.{ChildInstance}
use Rattle.elaborate.specs.declared.given_parameters.GivenParameters.{GivenParameters}
use Rattle.elaborate.specs.declared.visited.Visited.{Visited as Found}
use Rattle.elaborate.specs.declared.declared_name.DeclaredName.{DeclaredName}
use Rattle.elaborate.specs.declared.declaration.Declaration.{Declaration as Declared}
use Rattle.elaborate.specs.declared.declarations.Declarations.{Declarations}
use Rattle.elaborate.specs.Checks.{ModuleChild, Checked}
use Rattle.elaborate.specs.Overrides.{Given}
use Rattle.elaborate.specs.Tables.{NameIn, Declaration, Table}
use Rattle.elaborate.specs.Ports.{PortOutline}
use Rattle.elaborate.specs.Visits.{Visited}

abbrev pub declaration_of : Declared → Declaration
declaration_of d = record { at = d.at; kind = d.kind; range = option_map bit_range_of d.range; signed = d.signed }

abbrev pub key_of : DeclaredName → NameIn
key_of k = record { block = here_of k.block; name = k.name.0 }

abbrev pub entry_of : DeclaredName × Declared → NameIn × Declaration
entry_of e = (key_of e.0, declaration_of e.1)

abbrev pub table_of : Declarations → Table
table_of t = map entry_of t.names.entries

abbrev pub given_entry : NameId × Const → Given
given_entry e = record { name = e.0.0; value = constant_of e.1 }

abbrev pub given_of : GivenParameters → List Given
given_of g = map given_entry g.values.entries

abbrev pub child_of : ChildInstance → ModuleChild
child_of c = record { block = here_of c.block; name = c.name; instantiated = c.instantiated; overrides = map override_view c.overrides.items }

abbrev pub checked_of : Checking → Checked
checked_of c = record {
  ports = c.ports;
  port = declaration_of c.port;
  parameters = map constant_of c.parameters.items;
  declared = table_of c.declared;
  children = map child_of c.children.items;
}

abbrev pub port_of : PortShape → PortOutline
port_of p = record { name = p.name.0; input = p.input; width = p.width; signed = p.signed }

abbrev pub visited_of : Found → Visited
visited_of v = record {
  checks = checked_of v.checks;
  clocks = clocks_view v.clocks.items;
  blocks = map block_of v.blocks.items;
  ports = map port_of v.ports.items;
}
