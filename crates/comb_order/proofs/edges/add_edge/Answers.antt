use Rattle.std.proofs.Common.{◌∙◌, ap, sym, subst, nat_lt}
use Rattle.comb_order.specs.Graphs.{times}
use Rattle.comb_order.specs.Driving.{IsRow, ends_with}
use Rattle.comb_order.proofs.Rows.{pushed_edge, kept_edge, row_pushed}
use Rattle.comb_order.proofs.edges.add_edge.Goals as goal

pub returns-in_ok-push-clause-row : goal.returns-in_ok-push-clause-row
returns-in_ok-push-clause-row c =
    let row = c.args.row.now.items in
    let b = c.args.b in
    subst (IsRow b) (sym c.in_ok-push.ensures.items)
    (row_pushed row b (ap (λ z. ends_with z b) (sym c.deref.ensures.value) ∙ sym c.ends_with.ensures ∙ c.if-not-ends_with.true) c.requires)

pub returns-in_ok-push-clause-edges : goal.returns-in_ok-push-clause-edges
returns-in_ok-push-clause-edges c = λ t.
    ap (λ z. nat_lt 0 (times t z)) c.in_ok-push.ensures.items ∙ pushed_edge c.args.row.now.items c.args.b t

pub returns-else-not-ends_with-clause-edges : goal.returns-else-not-ends_with-clause-edges
returns-else-not-ends_with-clause-edges c =
    kept_edge c.args.row.now.items c.args.b (ap (λ z. ends_with z c.args.b) (sym c.deref.ensures.value) ∙ sym c.ends_with.ensures ∙ c.if-not-ends_with.false)
