use Rattle.std.proofs.Common.{◌≡◌, ◌++◌, map, drop}
use Rattle.typed_ir.specs.FlatNodes.{node_of}
use Rattle.design_steps.specs.Namings.{kept}
use Rattle.design_steps.proofs.sharing.kept_of.Given as goal

abbrev pub invariant-loop-k : goal.invariant-loop-k
invariant-loop-k l = l.order.items ++ kept l.widths l.slots (map node_of l.linked.design.nodes.items) (drop l.k-index l.linked.order.items)
    ≡ kept l.widths l.slots (map node_of l.linked.design.nodes.items) l.linked.order.items
