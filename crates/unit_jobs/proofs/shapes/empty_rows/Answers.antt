use Rattle.std.proofs.Common.{◌≡◌, ◌+◌, ◌∷◌, [], ◌∙◌, length, ap, arith}
use Rattle.std.proofs.lemmas.List.{length-append}
use Rattle.typed_ir.specs.Rows.{row_in}
use Rattle.typed_ir.proofs.Rows.{row_more}
use Rattle.unit_jobs.proofs.shapes.empty_rows.Goals as goal

pub loop-instance-preserved : goal.loop-instance-preserved
loop-instance-preserved c =
    let old = c.loop-instance.rows.items in
    let row = c.new.result in
    let more : length c.push.new.self.items ≡ length old + 1 = ap length c.in_ok-push.ensures.items ∙ length-append old (row ∷ []) in
    record {
      long = omega (arith, more, c.loop-instance.invariant.long);
      empty = λ i. ap (λ z. row_in z i) c.in_ok-push.ensures.items ∙ row_more old row c.new.ensures.items c.loop-instance.invariant.empty i;
    }
