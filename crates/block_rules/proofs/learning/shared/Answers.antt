use Rattle.std.proofs.Common.{◌∙◌}
use Rattle.block_rules.proofs.Finding.{shared_next}
use Rattle.block_rules.proofs.learning.shared.Goals as goal

pub loop-touch-preserved : goal.loop-touch-preserved
loop-touch-preserved c = λ s i small.
    shared_next c.args.touches.now c.loop-touch.touch-index c.touch-item.result c.args.table.now c.loop-touch.kept.items c.keep_shared.new.kept.items s i
    c.loop-touch-test.true c.touch-item.is small c.in_ok-keep_shared.ensures
    ∙ c.loop-touch.invariant s i small
