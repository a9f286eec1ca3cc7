use Rattle.std.proofs.Common.{◌≡◌, ◌∙◌, length, map, ap, sym, subst, arith, rules}
use Rattle.typed_ir.specs.Nodes.{drives_at}
use Rattle.typed_ir.specs.FlatNodes.{node_of}
use Rattle.typed_ir.specs.Linkeds.{flat}
use Rattle.comb_order.specs.Driving.{IsPlain, IsTable}
use Rattle.comb_order.proofs.Designs.{design_plain, design_table}
use Rattle.comb_order.proofs.ordering.graph_of.Goals as goal

pub edges_of-requires-clause-plain : goal.edges_of-requires-clause-plain
edges_of-requires-clause-plain c = subst (λ ns. IsPlain (map node_of ns)) (sym c.deref-2.ensures.value) (design_plain c.args.design.now)

pub edges_of-requires-clause-table : goal.edges_of-requires-clause-table
edges_of-requires-clause-table c =
    let design = c.args.design.now in
    let table = c.in_ok-table.table.items in
    let count : c.len.result ≡ length design.signals.items = search (rules, c.len.ensures) in
    subst (λ ns. IsTable (map node_of ns) c.deref-3.result.now) (sym c.deref-2.ensures.value)
    (subst (IsTable (flat design).nodes) (sym c.deref-3.ensures.value)
    (design_table design table (c.in_ok-table.ensures.length ∙ count)
    (λ a s i h low. c.in_ok-table.ensures.drives a s i (omega (arith, h, count)) low
    ∙ ap (λ ns. drives_at (map node_of ns) a s i) c.deref.ensures.value)))
