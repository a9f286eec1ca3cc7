use Rattle.std.proofs.Common.{◌≡◌, ◌+◌, ◌∷◌, [], ◌∙◌, length, ap, arith}
use Rattle.std.proofs.lemmas.List.{length-append}
use Rattle.gen_unroll.specs.Rows.{row_in}
use Rattle.gen_unroll.proofs.Rowing.{row_more}
use Rattle.gen_unroll.proofs.adding.make_rows.Goals as goal

pub loop-row-preserved : goal.loop-row-preserved
loop-row-preserved c =
    let old = c.loop-row.blocks.items in
    let row = c.new.result in
    let more : length c.push.new.self.items ≡ length old + 1 = ap length c.in_ok-push.ensures.items ∙ length-append old (row ∷ []) in
    record {
      rows = λ b. ap (λ z. row_in z b) c.in_ok-push.ensures.items ∙ row_more old row c.new.ensures.items b ∙ c.loop-row.invariant.rows b;
      long = omega (arith, more, c.loop-row.invariant.long);
    }
