-- What the parts of a unit mean.
use Rattle.std.specs.Prelude.{[], ◌∷◌, map}
use Rattle.typed_ir.specs.Cycles.{Signal}
use Rattle.typed_ir.specs.Forms.{sized}
use Rattle.typed_ir.specs.FlatNodes.{node_of}
use Rattle.typed_ir.specs.Statements.{stmt_of}
use Rattle.typed_ir.specs.Trees.{SizedUnit, Own, Into, From}
use Rattle.typed_ir.specs.Trees.{UnitNode as SizedNode}
use Rattle.typed_ir.specs.declared.unit_node.UnitNode.{UnitNode}
use Rattle.typed_ir.specs.declared.unit_node.UnitNode.TheVariants.{Own as Own', Into as Into', From as From'}
use Rattle.typed_ir.specs.declared.unit_signal.UnitSignal.{UnitSignal}
use Rattle.typed_ir.specs.declared.unit_parts.UnitParts.{UnitParts}

-- a signal of a module; its path there is its name
abbrev pub signal_within : UnitSignal → Signal
signal_within x = record {
  in_module = x.in_module.0;
  path = x.name.0 ∷ [];
  lsb = x.lsb;
  signed = x.signed;
  width = x.width;
  initial = x.initial;
}

abbrev pub unit_node_of : UnitNode → SizedNode
unit_node_of (Own' node) = Own (node_of node)
unit_node_of (Into' child form lanes e) = Into child form lanes.items (sized e.form)
unit_node_of (From' child form lanes e) = From child form lanes.items (sized e.form)

abbrev pub sized_unit : UnitParts → SizedUnit
sized_unit p = record {
  signals = map signal_within p.signals.items;
  registers = p.registers.items;
  inputs = p.inputs.items;
  nodes = map unit_node_of p.nodes.items;
  clocked = map stmt_of p.clocked.items;
}
