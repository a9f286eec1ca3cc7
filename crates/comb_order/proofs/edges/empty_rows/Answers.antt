use Rattle.std.proofs.Common.{◌≡◌, ◌+◌, ◌∷◌, [], ◌∙◌, length, ap, sym, arith}
use Rattle.std.proofs.lemmas.List.{length-append}
use Rattle.typed_ir.proofs.Rows.{row_more}
use Rattle.comb_order.specs.Graphs.{rows_of, row_at}
use Rattle.comb_order.proofs.Tables.{rows_row}
use Rattle.comb_order.proofs.edges.empty_rows.Goals as goal

pub loop-node-preserved : goal.loop-node-preserved
loop-node-preserved c =
    let old = c.loop-node.rows.items in
    let row = c.new.result in
    let long : length c.push.new.self.items ≡ length old + 1 = ap length c.in_ok-push.ensures.items ∙ length-append old (row ∷ []) in
    record {
      length = omega (arith, long, c.loop-node.invariant.length);
      empty = λ a. ap (λ z. row_at (rows_of z) a) c.in_ok-push.ensures.items ∙ rows_row _ a
          ∙ row_more old row c.new.ensures.items (λ k. sym (rows_row old k) ∙ c.loop-node.invariant.empty k) a;
    }
