use Rattle.std.proofs.Common.{◌≡◌, ◌≤◌, ◌++◌, [], length, map, drop}
use Rattle.typed_ir.specs.FlatNodes.{node_of}
use Rattle.design_steps.specs.Nodes.{nodes_code, in_order}
use Rattle.design_steps.specs.Views.{plan_of}
use Rattle.design_steps.proofs.nodes.lay_nodes.Given as goal

abbrev pub invariant-nodes : goal.invariant-nodes
invariant-nodes l = record {
  none : l.first.items ≡ [];
  within : l.left ≤ length l.order;
  behind : l.steps.items ≡ nodes_code (plan_of l.layout) (in_order (map node_of l.nodes) (drop l.left l.order)) l.mark ++ l.fn.steps.items;
}

abbrev pub decreases-nodes : goal.decreases-nodes
decreases-nodes l = l.left
