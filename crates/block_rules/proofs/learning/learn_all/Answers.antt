use Rattle.std.proofs.Common.{◌||◌, ◌&&◌, ◌==◌, refl}
use Rattle.typed_ir.specs.declared.touch.Touch.{Touch}
use Rattle.typed_ir.specs.Touches.{has_bit, touched}
use Rattle.block_rules.specs.Tables.{bits_of}
use Rattle.block_rules.proofs.Leading.{leads_none, learn_next, learn_done}
use Rattle.block_rules.proofs.learning.learn_all.Goals as goal

pub loop-touch-init : goal.loop-touch-init
loop-touch-init c =
    leads_none c.args.table.now c.args.learned.now.items (λ s i. bits_of c.args.table.now s i || touched c.args.touches.now s i)
    (λ s i. bits_of c.args.table.now s i || touched c.args.touches.now s i) (λ s i here small. refl)

pub loop-touch-preserved : goal.loop-touch-preserved
loop-touch-preserved c =
    learn_next touched (λ (t : Touch) s i. (s == t.signal) && has_bit t.mask i) c.args.touches.now c.loop-touch.touch-index c.touch-item.result
    c.args.table.now c.loop-touch.table c.learn.new.table
    c.args.learned.now.items c.loop-touch.learned.items c.learn.new.learned.items
    (λ s i. bits_of c.args.table.now s i || touched c.args.touches.now s i)
    c.loop-touch-test.true c.touch-item.is (λ ys s i. refl) c.loop-touch.invariant c.in_ok-learn.ensures

pub returns : goal.returns
returns c =
    learn_done touched c.args.touches.now c.loop-touch.touch-index c.args.table.now c.loop-touch.table c.args.learned.now.items c.loop-touch.learned.items
    (λ s i. bits_of c.args.table.now s i || touched c.args.touches.now s i) c.loop-touch-test.false (λ s i. refl) c.loop-touch.invariant
