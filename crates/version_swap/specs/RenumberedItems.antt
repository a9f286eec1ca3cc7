-- The nodes and items of a module whose signals have other numbers; those of its instances keep theirs.
use Rattle.std.specs.Prelude.{ℕ, map}
use Rattle.typed_ir.specs.Nodes.{FlatNode, Drive, Block}
use Rattle.typed_ir.specs.Trees.{UnitNode, Own, Into, From}
use Rattle.typed_ir.specs.Items.{SizedBody, PlacedItem, Node, Clocked, Initial}
use Rattle.statement_rules.specs.Renumbering.{numbered_as, lane_as, statement_as}
use Rattle.statement_rules.specs.DeclaredValues.{InitialValue}

abbrev pub flat_node_as : (ℕ → ℕ) → FlatNode → FlatNode
flat_node_as g (Drive form lanes e) = Drive form (map (lane_as g) lanes) (numbered_as g e)
flat_node_as g (Block shown body) = Block shown (statement_as g body)

-- lanes of an input connection are by the numbers of the child, and so is the value of an output connection
abbrev pub node_as : (ℕ → ℕ) → UnitNode → UnitNode
node_as g (Own node) = Own (flat_node_as g node)
node_as g (Into c form lanes e) = Into c form lanes (numbered_as g e)
node_as g (From c form lanes e) = From c form (map (lane_as g) lanes) e

abbrev pub body_as : (ℕ → ℕ) → SizedBody → SizedBody
body_as g (Node node) = Node (node_as g node)
body_as g (Clocked st) = Clocked (statement_as g st)
body_as g (Initial signal) = Initial (g signal)

-- what it mentions are names, which stay
abbrev pub placed_as : (ℕ → ℕ) → PlacedItem → PlacedItem
placed_as g x = record { body = body_as g x.body; at = x.at; targets = x.targets; reads = x.reads }

abbrev pub initial_as : (ℕ → ℕ) → InitialValue → InitialValue
initial_as g x = record { signal = g x.signal; value = x.value }
