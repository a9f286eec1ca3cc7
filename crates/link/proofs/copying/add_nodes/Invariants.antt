use Rattle.std.proofs.Common.{◌≡◌, ◌++◌, map, drop, slice_index}
use Rattle.typed_ir.specs.FlatNodes.{node_of}
use Rattle.typed_ir.specs.Trees.{node_there}
use Rattle.typed_ir.specs.Units.{unit_node_of}
use Rattle.link.proofs.copying.add_nodes.Given as goal

abbrev pub invariant-loop-node : goal.invariant-loop-node
invariant-loop-node l =
    map node_of l.nodes.items ++ map (node_there l.first (slice_index l.kids)) (map unit_node_of (drop l.node-index l.own))
    ≡ map node_of l.initial.nodes.items ++ map (node_there l.first (slice_index l.kids)) (map unit_node_of l.own)
