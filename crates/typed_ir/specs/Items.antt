-- The items of a module in the order of its text, with their places, and the unit that they make.
use Rattle.std.specs.Prelude.{ℕ, List, [], ◌∷◌, ◌++◌, map}
use Rattle.ls_text.specs.declared.place.Place.{Place}
use Rattle.typed_ir.specs.Stmts.{SizedStmt}
use Rattle.typed_ir.specs.Statements.{stmt_of}
use Rattle.typed_ir.specs.Cycles.{Signal}
use Rattle.typed_ir.specs.declared.mention.Mention.{Mention}
use Rattle.typed_ir.specs.declared.signal_declaration.SignalDeclaration.{SignalDeclaration}
use Rattle.typed_ir.specs.declared.item_body.ItemBody.{ItemBody}
use Rattle.typed_ir.specs.declared.item_body.ItemBody.TheVariants.{Node as Node', Clocked as Clocked', Initial as Initial'}
use Rattle.typed_ir.specs.declared.typed_item.TypedItem.{TypedItem}
use Rattle.typed_ir.specs.declared.typed_items.TypedItems.{TypedItems}
use Rattle.typed_ir.specs.Trees.{UnitNode, SizedUnit}
use Rattle.typed_ir.specs.Units.{signal_within, unit_node_of}

pub data SizedBody : Type 0 where
  Node : (node : UnitNode) → SizedBody
  Clocked : (st : SizedStmt) → SizedBody
  -- a declaration with an initial value
  Initial : (signal : ℕ) → SizedBody

pub record PlacedItem : Type 0 where
  pub body : SizedBody
  pub at : Place
  -- beside the parts of its targets and the leaves of its expressions
  pub targets : List Mention
  pub reads : List Mention

pub record PlacedItems : Type 0 where
  pub signals : List Signal
  pub declarations : List SignalDeclaration
  pub registers : List ℕ
  pub inputs : List ℕ
  pub items : List PlacedItem

-- ---- what the code's items mean

abbrev pub body_of : ItemBody → SizedBody
body_of (Node' node) = Node (unit_node_of node)
body_of (Clocked' st) = Clocked (stmt_of st)
body_of (Initial' s) = Initial s

abbrev pub item_of : TypedItem → PlacedItem
item_of x = record {
  body = body_of x.body;
  at = x.places.at;
  targets = x.places.targets.items;
  reads = x.places.reads.items;
}

abbrev pub items_of : TypedItems → PlacedItems
items_of x = record {
  signals = map signal_within x.signals.items;
  declarations = x.declarations.items;
  registers = x.registers.items;
  inputs = x.inputs.items;
  items = map item_of x.items.items;
}

-- ---- the unit

abbrev pub node_in : SizedBody → List UnitNode
node_in (Node node) = node ∷ []
node_in (Clocked st) = []
node_in (Initial s) = []

abbrev pub block_in : SizedBody → List SizedStmt
block_in (Node node) = []
block_in (Clocked st) = st ∷ []
block_in (Initial s) = []

abbrev pub nodes_in : List PlacedItem → List UnitNode
nodes_in [] = []
nodes_in (x ∷ xs) = node_in x.body ++ nodes_in xs

abbrev pub blocks_in : List PlacedItem → List SizedStmt
blocks_in [] = []
blocks_in (x ∷ xs) = block_in x.body ++ blocks_in xs

abbrev pub unit_of : PlacedItems → SizedUnit
unit_of p = record {
  signals = p.signals;
  registers = p.registers;
  inputs = p.inputs;
  nodes = nodes_in p.items;
  clocked = blocks_in p.items;
}
