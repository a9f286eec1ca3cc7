use Rattle.std.proofs.Common.{◌≤◌, map, drop, length}
use Rattle.typed_ir.specs.FlatNodes.{node_of}
use Rattle.design_steps.specs.Pooled.{Holds, nodes_constants}
use Rattle.design_steps.proofs.constant_walk.pool_nodes.Given as goal

abbrev pub invariant-nodes : goal.invariant-nodes
invariant-nodes l = record {
  within : l.left ≤ length l.nodes;
  holds : Holds l.fn.pool.keys l.pool.keys (nodes_constants (map node_of (drop l.left l.nodes)));
}

abbrev pub decreases-nodes : goal.decreases-nodes
decreases-nodes l = l.left
