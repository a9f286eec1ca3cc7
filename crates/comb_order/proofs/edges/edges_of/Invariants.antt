use Rattle.std.proofs.Common.{◌≡◌, length, map}
use Rattle.typed_ir.specs.FlatNodes.{node_of}
use Rattle.comb_order.specs.Graphs.{rows_of}
use Rattle.comb_order.specs.Driving.{AreRows}
use Rattle.comb_order.proofs.Edging.{AreEdges}
use Rattle.comb_order.proofs.edges.edges_of.Given as goal

abbrev pub invariant-loop-b : goal.invariant-loop-b
invariant-loop-b l = record {
  size : length l.rows.items ≡ length l.nodes;
  rows : AreRows l.b (rows_of l.rows.items);
  edges : AreEdges (map node_of l.nodes) l.b (rows_of l.rows.items);
}
