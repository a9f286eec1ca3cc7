use Rattle.std.proofs.Common.{◌∙◌, ◌&&◌, not}
use Rattle.typed_ir.specs.Touches.{touched}
use Rattle.block_rules.specs.Tables.{bits_of}
use Rattle.block_rules.proofs.Finding.{forget_next, forget_done}
use Rattle.block_rules.proofs.learning.forget.Goals as goal

pub loop-touch-preserved : goal.loop-touch-preserved
loop-touch-preserved c = (
  c.take.ensures.size ∙ c.loop-touch.invariant.0,
  (λ s i. forget_next c.args.touches.now c.loop-touch.touch-index c.touch-item.result c.loop-touch.table c.take.new.self s i
      c.loop-touch-test.true c.touch-item.is (c.take.ensures.bits s i)
      ∙ c.loop-touch.invariant.1 s i),
)

pub returns-clause-size : goal.returns-clause-size
returns-clause-size c = c.loop-touch.invariant.0

pub returns-clause-bits : goal.returns-clause-bits
returns-clause-bits c = λ s i.
    forget_done c.args.touches.now c.loop-touch.touch-index c.loop-touch.table (bits_of c.args.table.now s i && not (touched c.args.touches.now s i)) s i
    c.loop-touch-test.false (c.loop-touch.invariant.1 s i)
