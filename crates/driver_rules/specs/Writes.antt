-- Which bits of its module an item drives or writes, as spans in the order of the sized item (IEEE Std 1364-2005, 6.1, 9.2, 9.7.5, 12.3.9).
use Rattle.std.specs.Prelude.{ℕ, ◌<◌, List, [], ◌∷◌, map}
use Rattle.typed_ir.specs.declared.span.Span.{Span}
use Rattle.typed_ir.specs.Valuations.{Places, any_within}
use Rattle.typed_ir.specs.Stmts.{SizedStmt, targets, later_targets}
use Rattle.typed_ir.specs.Nodes.{FlatNode, Drive, Block, lane_spans}
use Rattle.typed_ir.specs.Orders.{Each}
use Rattle.typed_ir.specs.Trees.{UnitNode, Own, Into, From}
use Rattle.typed_ir.specs.Items.{SizedBody, Node, Clocked, Initial, PlacedItem}

abbrev pub flat_spans : FlatNode → List Span
flat_spans (Drive form lanes e) = lane_spans lanes
flat_spans (Block shown body) = targets body

-- a connection into an instance drives a port of it, and no signal of the module
abbrev pub node_spans : UnitNode → List Span
node_spans (Own node) = flat_spans node
node_spans (Into child form lanes e) = []
node_spans (From child form lanes e) = lane_spans lanes

abbrev pub spans_of : SizedBody → List Span
spans_of (Node node) = node_spans node
spans_of (Clocked st) = later_targets st
spans_of (Initial signal) = []

abbrev pub writes : PlacedItem → Places
writes x = any_within (spans_of x.body)

-- the signals that it drives or writes, part by part; a declaration with an initial value its own
abbrev pub written : SizedBody → List ℕ
written (Node node) = map (λ (p : Span). p.signal) (node_spans node)
written (Clocked st) = map (λ (p : Span). p.signal) (later_targets st)
written (Initial signal) = signal ∷ []

-- they are of so many signals
abbrev pub AreWithin : ℕ → List Span → Type 0
AreWithin count spans = Each (λ (p : Span). p.signal < count) spans

abbrev pub AreItemsWithin : ℕ → List PlacedItem → Type 0
AreItemsWithin count items = Each (λ (x : PlacedItem). AreWithin count (spans_of x.body)) items

-- ---- combinational blocks

abbrev pub flat_blocks : FlatNode → List SizedStmt
flat_blocks (Drive form lanes e) = []
flat_blocks (Block shown body) = body ∷ []

abbrev pub node_blocks : UnitNode → List SizedStmt
node_blocks (Own node) = flat_blocks node
node_blocks (Into child form lanes e) = []
node_blocks (From child form lanes e) = []

-- the combinational block that an item is, or none
abbrev pub blocks_of : SizedBody → List SizedStmt
blocks_of (Node node) = node_blocks node
blocks_of (Clocked st) = []
blocks_of (Initial signal) = []
