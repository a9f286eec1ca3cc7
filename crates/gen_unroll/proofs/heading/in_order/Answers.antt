use Rattle.std.proofs.Common.{◌∙◌}
use Rattle.gen_unroll.specs.NumberingViews.{numbered_in}
use Rattle.gen_unroll.proofs.Ordering.{order_next}
use Rattle.gen_unroll.proofs.heading.in_order.Goals as goal

pub loop-k-preserved : goal.loop-k-preserved
loop-k-preserved c =
    order_next c.loop-k.k c.args.count (numbered_in c.args.numbering.now) c.loop-k.declared.items c.push_any.new.declared.items c.find-found.result
    c.loop-k-test.true (c.find-found.ensures ∙ c.requires.ordered c.loop-k.k) c.in_ok-push_any.ensures
    ∙ c.loop-k.invariant
