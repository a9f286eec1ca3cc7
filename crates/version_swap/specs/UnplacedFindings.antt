-- What unrolling tells and what is found in a module, without places.
use Rattle.std.specs.Prelude.{map, Result, Ok, Err}
use Rattle.std.specs.Option.{option_map}
use Rattle.ls_text.specs.declared.at.At.TheVariants.{Text}
use Rattle.ls_text.specs.declared.fault.Fault.{Fault}
use Rattle.verilog_ast.specs.Places.{no_place}
use Rattle.gen_unroll.specs.Steps.{LoopTurn, GenerateBlock, ModuleStep, Listed, Port, Parameter, Item, Labelled, Opened, Closed}
use Rattle.gen_unroll.specs.Told.{Told}
use Rattle.gen_unroll.specs.Signals.{NamedSignal}
use Rattle.gen_unroll.specs.Numbers.{SignalTable}
use Rattle.typed_ir.specs.declared.mention.Mention.{Mention}
use Rattle.typed_ir.specs.Items.{PlacedItem, PlacedItems}
use Rattle.driver_rules.specs.declared.shown.Shown.{Shown}
use Rattle.unit_build.specs.Connections.{Connected}
use Rattle.statement_rules.specs.DeclaredValues.{DeclaredValue}
use Rattle.version_swap.specs.Unplaced.{unplaced_name, unplaced_expression, unplaced_port, unplaced_item}

-- a fault shows the same names; its code stays
abbrev pub fault_unplaced : Fault → Fault
fault_unplaced x = record { code = x.code; at = Text no_place; names = x.names }

-- what is found, or a fault
abbrev pub found_unplaced : {A : Type 0} → (A → A) → Result A Fault → Result A Fault
found_unplaced moved (Ok x) = Ok (moved x)
found_unplaced moved (Err e) = Err (fault_unplaced e)

-- a value without places stays
abbrev pub answer_unplaced : {A : Type 0} → Result A Fault → Result A Fault
answer_unplaced = found_unplaced (λ x. x)

-- ---- what is told

abbrev pub turn_unplaced : LoopTurn → LoopTurn
turn_unplaced t = record { genvar = unplaced_name t.genvar; value = t.value }

abbrev pub block_unplaced : GenerateBlock → GenerateBlock
block_unplaced b = record { number = b.number; parent = b.parent; label = unplaced_name b.label; turn = option_map turn_unplaced b.turn }

abbrev pub step_unplaced : ModuleStep → ModuleStep
step_unplaced (Listed n) = Listed (unplaced_name n)
step_unplaced (Port p) = Port (unplaced_port p)
step_unplaced (Parameter s n v) = Parameter s (unplaced_name n) v
step_unplaced (Item x) = Item (unplaced_item x)
step_unplaced (Labelled n) = Labelled (unplaced_name n)
step_unplaced (Opened b items) = Opened (block_unplaced b) (unplaced_item items)
step_unplaced Closed = Closed

-- the same steps, and the same end
abbrev pub told_unplaced : {A : Type 0} → Told A → Told A
told_unplaced t = record { said = map step_unplaced t.said; ending = answer_unplaced t.ending }

-- ---- the signals of a module

abbrev pub signal_unplaced : NamedSignal → NamedSignal
signal_unplaced x = record x { name = unplaced_name x.name }

abbrev pub table_unplaced : SignalTable → SignalTable
table_unplaced t = record { signals = map signal_unplaced t.signals; declared = t.declared }

-- ---- its items

abbrev pub value_unplaced : DeclaredValue → DeclaredValue
value_unplaced x = record { kind = x.kind; name = unplaced_name x.name; value = unplaced_expression x.value }

abbrev pub connected_unplaced : Connected → Connected
connected_unplaced c = record { port = c.port; shape = c.shape; value = unplaced_expression c.value }

abbrev pub mention_unplaced : Mention → Mention
mention_unplaced m = record { name = m.name; at = no_place; order = m.order }

abbrev pub shown_unplaced : Shown → Shown
shown_unplaced x = record { name = x.name; at = no_place; order = x.order }

abbrev pub placed_unplaced : PlacedItem → PlacedItem
placed_unplaced x = record { body = x.body; at = no_place; targets = map mention_unplaced x.targets; reads = map mention_unplaced x.reads }

abbrev pub items_unplaced : PlacedItems → PlacedItems
items_unplaced p = record p { items = map placed_unplaced p.items }
