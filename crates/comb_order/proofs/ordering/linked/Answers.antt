use Rattle.std.proofs.Common.{◌<◌, length, map, arith}
use Rattle.std.proofs.lemmas.List.{length-map}
use Rattle.typed_ir.specs.FlatNodes.{node_of}
use Rattle.comb_order.proofs.Designs.{all_of}
use Rattle.comb_order.proofs.ordering.linked.Goals as goal

pub invariant_of-result : goal.invariant_of-result
invariant_of-result c =
    let nodes = c.args.design.nodes.items in
    let o = c.in-Ok.ensures.order in
    record {
      in_range = all_of (λ k. k < length nodes) c.in-Ok.order.items
          (λ k m. (let h : k < length (map node_of nodes) = o.in_range k m in omega (arith, h, length-map nodes node_of)));
      in_order = ∣ o ∣₁;
    }
