use Rattle.std.proofs.Common.{◌<◌, length, map, sym, subst, arith}
use Rattle.std.proofs.lemmas.List.{length-map}
use Rattle.typed_ir.specs.FlatNodes.{node_of}
use Rattle.typed_ir.specs.Linkeds.{flat}
use Rattle.comb_order.proofs.Designs.{all_of}
use Rattle.comb_order.specs.declared.refusing.OrderRefusal.TheVariants.{Loop}
use Rattle.comb_order.specs.Refusals.{NodeBefore, IsRefusal}
use Rattle.link.proofs.Faulty.{is_loop_fault}
use Rattle.link.proofs.linking.in_order.Goals as goal

pub invariant_of-result : goal.invariant_of-result
invariant_of-result c =
    let nodes = c.args.design.nodes.items in
    let o = c.in-Ok.ensures.order in
    record {
      in_range = all_of (λ k. k < length nodes) c.in-Ok.order.items
          (λ k m. (let h : k < length (map node_of nodes) = o.in_range k m in omega (arith, h, length-map nodes node_of)));
      in_order = ∣ o ∣₁;
    }

pub returns-in-Ok-loop_fault-clause-exactly : goal.returns-in-Ok-loop_fault-clause-exactly
returns-in-Ok-loop_fault-clause-exactly c = λ most few.
    is_loop_fault most c.args.names.now c.loop_fault.new.names (flat c.args.design) c.in-Ok-loop_fault.fault c.nodes.result.now
    c.in-Ok-loop_fault.ensures.fault c.in-Ok-loop_fault.ensures.texts c.in-Ok-loop_fault.ensures.within
    (subst (λ zs. IsRefusal (NodeBefore (flat c.args.design).nodes) (length (flat c.args.design).nodes) (Loop zs)) (sym c.nodes.ensures) (subst (IsRefusal (NodeBefore (flat c.args.design).nodes) (length (flat c.args.design).nodes)) c.in-Err-Loop.field-0-is c.in-Err-Loop.ensures.exactly))
    few
