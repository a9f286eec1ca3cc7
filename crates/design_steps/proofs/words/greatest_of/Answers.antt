use Rattle.std.proofs.Common.{◌∙◌, arith}
use Rattle.design_steps.proofs.Placing.{placed_more}
use Rattle.design_steps.proofs.words.greatest_of.Goals as goal

pub loop-step-preserved : goal.loop-step-preserved
loop-step-preserved c =
    let old = c.loop-step.invariant in
    let new = c.greatest-most.ensures in
    record {
      least = omega (arith, old.least, new.least);
      placed = λ n h. placed_more n c.args.steps.now c.loop-step.step-index _ c.loop-step-test.true (new.placed n h) ∙ old.placed n (omega (arith, h, new.least));
    }
