use Rattle.std.proofs.Common.{◌≡◌, ◌<◌, ◌+◌, ◌-◌, ◌++◌, map, length, get_or, drop, sym, ap, ◌∙◌, subst, arith}
use Rattle.std.proofs.lemmas.List.{get_or_default}
use Rattle.typed_ir.specs.FlatNodes.{node_of}
use Rattle.design_steps.specs.Nodes.{nodes_code, in_order}
use Rattle.design_steps.specs.Views.{plan_of}
use Rattle.design_steps.proofs.Numbered.{node_more}
use Rattle.design_steps.proofs.nodes.lay_nodes.Goals as goal

pub nodes-preserved : goal.nodes-preserved
nodes-preserved c =
    let l = plan_of c.args.layout.now in
    let nodes = c.args.nodes.now in
    let order = c.args.order.now in
    let left = c.nodes.left in
    let k = left - 1 in
    let x = c.index-nodes-place.result in
    let less : k < length order = omega (arith, c.nodes-test.true, c.nodes.invariant.within) in
    let more : k + 1 ≡ left = omega (arith, c.nodes-test.true) in
    let number : c.index-place.result ≡ get_or order k 0 =
    c.index-place.ensures ∙ c.index-order-left.is ∙ get_or_default order k c.index-order-left.result 0 less in
    let there : get_or order k 0 < length nodes = c.requires.in_range k 0 less in
    let is : x ≡ get_or nodes (get_or order k 0) x = c.index-nodes-place.is ∙ ap (λ i. get_or nodes i x) number in
    record {
      none = c.in_ok-lay_node.ensures.none;
      within = omega (arith, c.nodes.invariant.within);
      behind = node_more l nodes order k x c.args.mark c.args.steps.now.items c.nodes.steps.items c.lay_node.new.steps.items less there is c.in_ok-lay_node.ensures.steps
          (subst (λ i. c.nodes.steps.items ≡ nodes_code l (in_order (map node_of nodes) (drop i order)) c.args.mark ++ c.args.steps.now.items) (sym more) c.nodes.invariant.behind);
    }
