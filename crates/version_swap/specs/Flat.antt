-- The flat design of modules: each is copied out at each of its instances, its names mean the signals of that copy, and the ports of an instance are
-- joined with what is connected to them (IEEE Std 1364-2005, 12.1.2, 12.3.9 and 12.4).
use Rattle.std.specs.Prelude.{ℕ, Bool, List, [], ◌∷◌, ◌++◌, map}
use Rattle.typed_ir.specs.Cycles.{Signal, Flat}
use Rattle.typed_ir.specs.Nodes.{FlatNode, Drive}
use Rattle.typed_ir.specs.Stmts.{SizedStmt}
use Rattle.typed_ir.specs.Items.{PlacedItem, nodes_in, blocks_in}
use Rattle.typed_ir.specs.Trees.{UnitNode, Own, Into, From, signal_there}
use Rattle.driver_rules.specs.Targets.{is_settled as is_settled_by}
use Rattle.statement_rules.specs.Renumbering.{lane_as, numbered_as}
use Rattle.gen_unroll.specs.UnitLists.{unit_signals, data_inputs, registers}
use Rattle.gen_unroll.specs.UnitReaches.{unit_reach_in, writer_of, is_settled}
use Rattle.width_rules.specs.declared.writer.Writer.{Writer}
use Rattle.unit_build.specs.Building.{settled_signals, with_initials}
use Rattle.unit_build.specs.Walks.{Walk, walk_items, walk_initials}
use Rattle.version_swap.specs.CopiedWalks.{copied_items}
use Rattle.version_swap.specs.Copies.{ModuleCopy, Copies, Nothing, One, Where, outside, from_each, SignalPlace, all_places, place_in}

-- ---- a module by itself: which of its variables blocks settle, where its text begins, and its items

abbrev pub settled_in : ModuleCopy → List Bool
settled_in c = settled_signals c.declaration c.table c.steps

abbrev pub writers_in : ModuleCopy → ℕ → Writer
writers_in c = writer_of (is_settled (settled_in c)) c.table.signals

abbrev pub beginning_of : ModuleCopy → Walk
beginning_of c = record { here = unit_reach_in (writers_in c) c.table.signals c.declaration; child = 0; left = c.children }

abbrev pub own_items : ModuleCopy → List PlacedItem
own_items c = walk_items (writers_in c) c.table.signals (beginning_of c) c.steps

-- ---- its items at a copy: each name means the signal of the copy, which has the number g gives it

abbrev pub items_at : List SignalPlace → Where → ModuleCopy → List PlacedItem
items_at all w c = copied_items (place_in all w.at) (writers_in c) c.table.signals (beginning_of c) c.steps

-- the ports of the k-th instance within are the signals of its copy
abbrev pub joined : List SignalPlace → Where → UnitNode → FlatNode
joined all w (Own node) = node
joined all w (Into k form lanes e) = Drive form (map (lane_as (place_in all (w.at ++ k ∷ []))) lanes) e
joined all w (From k form lanes e) = Drive form lanes (numbered_as (place_in all (w.at ++ k ∷ [])) e)

-- ---- what a copy gives

abbrev pub signals_of : Where → ModuleCopy → List Signal
signals_of w c =
    map (signal_there w.path)
    (with_initials (walk_initials (writers_in c) c.table.signals (beginning_of c) c.steps) (unit_signals c.declaration.name.name.0 c.names c.table.signals))

abbrev pub registers_of : List SignalPlace → Where → ModuleCopy → List ℕ
registers_of all w c = map (place_in all w.at) (registers (is_settled_by (own_items c)) c.table)

abbrev pub nodes_of : List SignalPlace → Where → ModuleCopy → List FlatNode
nodes_of all w c = map (joined all w) (nodes_in (items_at all w c))

abbrev pub blocks_of : List SignalPlace → Where → ModuleCopy → List SizedStmt
blocks_of all w c = blocks_in (items_at all w c)

-- the data inputs of a design are those of its top
abbrev pub inputs_of : List SignalPlace → Copies → List ℕ
inputs_of all Nothing = []
inputs_of all (One c within after) = map (place_in all (0 ∷ [])) (data_inputs c.clock c.table.signals)

-- ---- all of it

abbrev pub flat_with : List SignalPlace → Copies → Flat
flat_with all copies = record {
  signals = from_each signals_of outside 0 copies;
  registers = from_each (registers_of all) outside 0 copies;
  inputs = inputs_of all copies;
  nodes = from_each (nodes_of all) outside 0 copies;
  clocked = from_each (blocks_of all) outside 0 copies;
}

unfoldable pub flat : Copies → Flat
flat copies = flat_with (all_places copies) copies
