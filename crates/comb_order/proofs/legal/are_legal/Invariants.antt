use Rattle.std.proofs.Common.{◌≡◌, map, drop}
use Rattle.typed_ir.specs.Nodes.{are_legal}
use Rattle.typed_ir.specs.FlatNodes.{node_of}
use Rattle.typed_ir.specs.Views.{widths}
use Rattle.comb_order.proofs.legal.are_legal.Given as goal

abbrev pub invariant-loop-node : goal.invariant-loop-node
invariant-loop-node l = are_legal (map node_of (drop l.node-index l.nodes)) (widths l.env) ≡ are_legal (map node_of l.nodes) (widths l.env)
