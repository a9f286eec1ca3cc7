use Rattle.std.proofs.Common.{◌+◌, ◌∙◌, refl, arith}
use Rattle.typed_ir.proofs.Masks.{run_mask, run_to_end, ones_to, ones_cover}
use Rattle.typed_ir.proofs.touching.run_mask.Goals as goal

pub returns-then-width-low : goal.returns-then-width-low
returns-then-width-low c = λ i small.
    run_mask c.args.low 128 _ _ i c.if-low-ge128.false refl refl (omega (arith, c.if-low-ge128.false))
    ∙ run_to_end c.args.low c.args.width i (omega (arith, c.if-width-low.true)) small

pub overflow_sub-result-3 : goal.overflow_sub-result-3
overflow_sub-result-3 c =
    ones_cover c.args.low (c.args.low + c.args.width) c.if-low-ge128.false (omega arith) (omega (arith, c.if-width-low.false))

pub returns : goal.returns
returns c = λ i small.
    run_mask c.args.low (c.args.low + c.args.width) _ _ i c.if-low-ge128.false refl
    (ones_to (c.args.low + c.args.width) (omega (arith, c.if-width-low.false))) (omega arith)
