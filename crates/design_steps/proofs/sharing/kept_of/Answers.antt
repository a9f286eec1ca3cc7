use Rattle.std.proofs.Common.{true, ◌≡◌, ◌<◌, ◌≤◌, ℕ, map, length, get_or, sym, ap, ◌∙◌, subst}
use Rattle.std.proofs.lemmas.List.{get_or_default}
use Rattle.typed_ir.specs.FlatNodes.{node_of}
use Rattle.design_steps.specs.Namings.{is_shared}
use Rattle.design_steps.proofs.Shared.{node_index, kept_more, kept_below, kept_all}
use Rattle.design_steps.proofs.sharing.kept_of.Goals as goal

pub loop-k-preserved : goal.loop-k-preserved
loop-k-preserved c =
    let linked = c.args.linked.now in
    let ws = c.args.widths.now in
    let slots = c.args.slots.now in
    let nodes = linked.design.nodes.items in
    let ks = linked.order.items in
    let i = c.loop-k.k-index in
    let x = c.index-in-loop-k.result.now in
    let all = c.deref-k-items.ensures.value in
    let less : i < length ks = subst (λ zs. i < length zs) all c.loop-k-test.true in
    let is : c.k-item.result ≡ get_or ks i 0 = c.k-item.is ∙ ap (λ zs. get_or zs i c.k-item.result) all ∙ get_or_default ks i c.k-item.result 0 less in
    let there : get_or ks i 0 < length nodes = linked.in_range i 0 less in
    kept_more ws slots (map node_of nodes) ks i c.k-item.result (is_shared ws slots (node_of x)) c.loop-k.order.items c.keep.new.order.items less is
    (node_index (is_shared ws slots) true nodes (get_or ks i 0) x there (c.index-in-loop-k.ensures ∙ ap (λ j. get_or nodes j x) (c.index.ensures ∙ is)))
    c.in_ok-keep.ensures
    ∙ c.loop-k.invariant

pub returns-clause-in_range : goal.returns-clause-in_range
returns-clause-in_range c =
    let linked = c.args.linked.now in
    let ws = c.args.widths.now in
    let slots = c.args.slots.now in
    let ns = map node_of linked.design.nodes.items in
    let ks = linked.order.items in
    let i = c.loop-k.k-index in
    let all : length ks ≤ i = subst (λ zs. length zs ≤ i) c.deref-k-items.ensures.value c.loop-k-test.false in
    subst (λ zs. (k d : ℕ) → k < length zs → get_or zs k d < length linked.design.nodes.items)
    (sym (kept_all ws slots ns ks i c.loop-k.order.items all c.loop-k.invariant))
    (kept_below (length linked.design.nodes.items) ws slots ns ks linked.in_range)
