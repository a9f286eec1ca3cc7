use Rattle.std.proofs.Common.{◌≡◌, ◌+◌, ◌∷◌, [], ◌∙◌, length, ap, arith}
use Rattle.std.proofs.lemmas.List.{length-append}
use Rattle.typed_ir.specs.Rows.{row_in}
use Rattle.typed_ir.proofs.Rows.{row_more}
use Rattle.comb_order.proofs.drivers.empty_table.Goals as goal

pub loop-signal-preserved : goal.loop-signal-preserved
loop-signal-preserved c =
    let old = c.loop-signal.table.items in
    let row = c.new.result in
    let long : length c.push.new.self.items ≡ length old + 1 = ap length c.in_ok-push.ensures.items ∙ length-append old (row ∷ []) in
    record {
      length = omega (arith, long, c.loop-signal.invariant.length);
      empty = λ s. ap (λ z. row_in z s) c.in_ok-push.ensures.items ∙ row_more old row c.new.ensures.items c.loop-signal.invariant.empty s;
    }
