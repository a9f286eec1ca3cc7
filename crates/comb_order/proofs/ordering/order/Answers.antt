use Rattle.std.proofs.Common.{◌≡◌, ◌<◌, ◌^◌, ℕ, [], length, map, ap, subst, sym, arith, IfOk, IfErr}
use Rattle.std.proofs.lemmas.List.{length-map}
use Rattle.std.proofs.lemmas.Result.{IfOk-weaker, IfErr-weaker}
use Rattle.typed_ir.specs.FlatNodes.{node_of}
use Rattle.typed_ir.specs.Linkeds.{flat}
use Rattle.typed_ir.specs.Orders.{IsOrderOf}
use Rattle.comb_order.specs.Graphs.{rows_of, waiting, HasEdge}
use Rattle.comb_order.specs.Kahn.{IsClosed}
use Rattle.comb_order.specs.Refusals.{IsRefusal}
use Rattle.comb_order.proofs.Counts.{length_rows}
use Rattle.comb_order.proofs.Designs.{order_of, exactly, no_order, graph_closed, graph_few}
use Rattle.comb_order.proofs.ordering.order.Goals as goal

pub ordered-requires-clause-ranked : goal.ordered-requires-clause-ranked
ordered-requires-clause-ranked c =
    let design = c.args.design.now in
    let rows = c.in-Ok.graph.items in
    let size : length (rows_of rows) ≡ length (map node_of design.nodes.items) = c.in-Ok.ensures.graph.size in
    let ranked : length c.in-Ok-ranks_of.ranks.items ≡ length design.nodes.items = c.in-Ok-ranks_of.ensures in
    omega (arith, ap length c.deref-2.ensures.value, ap length c.deref-3.ensures.value, length_rows rows, size, length-map design.nodes.items node_of, ranked)

pub ordered-requires-clause-closed : goal.ordered-requires-clause-closed
ordered-requires-clause-closed c =
    subst (λ g. IsClosed (rows_of g)) (sym c.deref-2.ensures.value)
    (graph_closed (flat c.args.design.now).nodes (rows_of c.in-Ok.graph.items) c.in-Ok.ensures.graph)

pub ordered-requires-clause-few : goal.ordered-requires-clause-few
ordered-requires-clause-few c =
    let design = c.args.design.now in
    let nodes = (flat design).nodes in
    subst (λ g. (t : ℕ) → waiting (rows_of g) [] t < 2 ^ 32) (sym c.deref-2.ensures.value)
    (graph_few nodes (rows_of c.in-Ok.graph.items) (length nodes) c.in-Ok.ensures.rows c.in-Ok.ensures.graph
    (omega (arith, length-map design.nodes.items node_of, design.few)))

pub ordered-requires-clause-nodes : goal.ordered-requires-clause-nodes
ordered-requires-clause-nodes c =
    let design = c.args.design.now in
    let rows = c.in-Ok.graph.items in
    let size : length (rows_of rows) ≡ length (map node_of design.nodes.items) = c.in-Ok.ensures.graph.size in
    omega (arith, ap length c.deref-2.ensures.value, length_rows rows, size, length-map design.nodes.items node_of, design.few)

pub returns-clause-order : goal.returns-clause-order
returns-clause-order c =
    let rows = c.in-Ok.graph.items in
    IfOk-weaker c.ordered.result _ _
    (λ order o. order_of (flat c.args.design.now).nodes (rows_of rows) order.items c.in-Ok.ensures.graph
    (subst (λ n. IsOrderOf (HasEdge (rows_of rows)) n order.items) (sym (length_rows rows)) o))
    (subst (λ g. IfOk c.ordered.result (λ order. IsOrderOf (HasEdge (rows_of g)) (length g) order.items)) c.deref-2.ensures.value c.ordered.ensures.order)

pub returns-clause-exactly : goal.returns-clause-exactly
returns-clause-exactly c =
    let rows = c.in-Ok.graph.items in
    let nodes = (flat c.args.design.now).nodes in
    exactly nodes (rows_of rows) c.ordered.result c.in-Ok.ensures.graph
    (IfOk-weaker c.ordered.result _ _ (λ order o. subst (λ n. IsOrderOf (HasEdge (rows_of rows)) n order.items) (sym (length_rows rows)) o)
    (subst (λ g. IfOk c.ordered.result (λ order. IsOrderOf (HasEdge (rows_of g)) (length g) order.items)) c.deref-2.ensures.value c.ordered.ensures.order))
    (subst (λ g. IfErr c.ordered.result (λ r. IsRefusal (HasEdge (rows_of g)) (length (rows_of g)) r)) c.deref-2.ensures.value c.ordered.ensures.refusal)

pub returns-clause-none : goal.returns-clause-none
returns-clause-none c =
    let rows = c.in-Ok.graph.items in
    IfErr-weaker c.ordered.result _ _
    (λ r h is order o. no_order (flat c.args.design.now).nodes (rows_of rows) r order c.in-Ok.ensures.graph h is o)
    (subst (λ g. IfErr c.ordered.result (λ r. IsRefusal (HasEdge (rows_of g)) (length (rows_of g)) r)) c.deref-2.ensures.value c.ordered.ensures.refusal)
