-- The signals, the items and the unit of a module under other names: what each name's number becomes is told by a function.
use Rattle.std.specs.Prelude.{map}
use Rattle.std.specs.Option.{option_map}
use Rattle.ls_text.specs.declared.name_id.NameId.{NameId}
use Rattle.typed_ir.specs.Cycles.{Signal}
use Rattle.typed_ir.specs.declared.child_shape.ChildShape.{ChildShape}
use Rattle.typed_ir.specs.declared.mention.Mention.{Mention}
use Rattle.typed_ir.specs.declared.port_shape.PortShape.{PortShape}
use Rattle.typed_ir.specs.Items.{PlacedItem, PlacedItems}
use Rattle.typed_ir.specs.Trees.{SizedUnit}
use Rattle.verilog_ast.specs.Renamed.{renamed_identifier}
use Rattle.verilog_ast.specs.Renaming.{expression_as}
use Rattle.gen_unroll.specs.Numbers.{SignalTable}
use Rattle.gen_unroll.specs.Signals.{NamedSignal}
use Rattle.unit_build.specs.Connections.{Connected}
use Rattle.driver_rules.specs.declared.shown.Shown.{Shown}
use Rattle.statement_rules.specs.DeclaredValues.{DeclaredValue}
use Rattle.elaborate.specs.Renaming.{number_as}

-- ---- the signals of a module

abbrev pub signal_as : (NameId → NameId) → NamedSignal → NamedSignal
signal_as f x = record x { name = renamed_identifier f x.name }

abbrev pub table_as : (NameId → NameId) → SignalTable → SignalTable
table_as f t = record { signals = map (signal_as f) t.signals; declared = t.declared }

-- ---- the instances in it, by their shapes

abbrev pub port_shape_as : (NameId → NameId) → PortShape → PortShape
port_shape_as f p = record p { name = f p.name }

abbrev pub shape_as : (NameId → NameId) → ChildShape → ChildShape
shape_as f s = record { instance = f s.instance; clock = option_map f s.clock; ports = map (port_shape_as f) s.ports }

-- ---- its items

abbrev pub value_as : (NameId → NameId) → DeclaredValue → DeclaredValue
value_as f x = record { kind = x.kind; name = renamed_identifier f x.name; value = expression_as f x.value }

abbrev pub connected_as : (NameId → NameId) → Connected → Connected
connected_as f c = record { port = c.port; shape = port_shape_as f c.shape; value = expression_as f c.value }

abbrev pub mention_as : (NameId → NameId) → Mention → Mention
mention_as f m = record { name = f m.name; at = m.at; order = m.order }

abbrev pub shown_as : (NameId → NameId) → Shown → Shown
shown_as f x = record { name = option_map f x.name; at = x.at; order = x.order }

abbrev pub placed_as : (NameId → NameId) → PlacedItem → PlacedItem
placed_as f x = record { body = x.body; at = x.at; targets = map (mention_as f) x.targets; reads = map (mention_as f) x.reads }

-- ---- its unit: signals have the module's name and a path, all else of it has numbers

abbrev pub unit_signal_as : (NameId → NameId) → Signal → Signal
unit_signal_as f x = record x { in_module = number_as f x.in_module; path = map (number_as f) x.path }

abbrev pub items_as : (NameId → NameId) → PlacedItems → PlacedItems
items_as f p = record p { signals = map (unit_signal_as f) p.signals; items = map (placed_as f) p.items }

abbrev pub unit_as : (NameId → NameId) → SizedUnit → SizedUnit
unit_as f u = record u { signals = map (unit_signal_as f) u.signals }
