use Rattle.std.proofs.Common.{◌≡◌, ◌∙◌, ◌||◌, ◌&&◌, ◌==◌, not, false, ap, ap₂, sym, subst, nat_lt}
use Rattle.typed_ir.proofs.Rows.{row_read}
use Rattle.comb_order.specs.Graphs.{times, rows_of}
use Rattle.comb_order.specs.Driving.{IsRow, common, edge}
use Rattle.comb_order.proofs.Tables.{rows_row}
use Rattle.comb_order.proofs.Rows.{rows_set, edges_set, not_own}
use Rattle.comb_order.proofs.edges.connect_driver.Goals as goal

pub add_edge-requires : goal.add_edge-requires
add_edge-requires c =
    let rows = c.args.rows.now in
    let k = c.index-a.result in
    subst (IsRow c.args.b) (rows_row rows k ∙ row_read rows k c.index-rows-a.result c.if-a-rows.false) (c.requires k)

pub returns-clause-rows : goal.returns-clause-rows
returns-clause-rows c =
    rows_set c.args.rows.now c.index-a.result c.args.b c.add_edge.new.row c.if-a-rows.false c.in_ok-add_edge.ensures.row c.requires

pub returns-clause-edges : goal.returns-clause-edges
returns-clause-edges c = λ a t _.
    let rows = c.args.rows.now in
    let k = c.index-a.result in
    let block = c.args.block in
    let both = common c.args.driver.mask c.args.mask in
    let foreign : (block && (k == c.args.b)) ≡ false =
    sym (ap₂ (λ m n. block && (m == n)) (c.number-from.ensures ∙ sym c.index-a.ensures) c.number-to.ensures)
    ∙ not_own block c.number-from.result c.number-to.result c.else-block.either in
    edges_set rows k c.args.b c.add_edge.new.row both block c.if-a-rows.false
    (λ x. c.in_ok-add_edge.ensures.edges x
    ∙ ap (λ z. nat_lt 0 (times x z) || (x == c.args.b)) (sym (row_read rows k c.index-rows-a.result c.if-a-rows.false)))
    (sym c.meet.ensures ∙ c.if-not-meet.false) foreign a t
    ∙ ap (λ z. edge (rows_of rows) a t || ((t == c.args.b) && (((a == z) && both) && not (block && (a == c.args.b))))) c.index-a.ensures
