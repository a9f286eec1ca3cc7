use Rattle.std.proofs.Common.{◌≡◌, map, drop}
use Rattle.typed_ir.specs.FlatNodes.{node_of}
use Rattle.comb_order.specs.Parts.{has_block}
use Rattle.comb_order.proofs.parts.no_block.Given as goal

abbrev pub invariant-loop-node : goal.invariant-loop-node
invariant-loop-node l = has_block (map node_of (drop l.node-index l.nodes)) ≡ has_block (map node_of l.nodes)
