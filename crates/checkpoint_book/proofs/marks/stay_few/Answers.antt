use Rattle.std.proofs.Common.{refl, arith}
use Rattle.checkpoint_book.proofs.Marking.{counted_more, counted_all, counted_full}
use Rattle.checkpoint_book.proofs.marks.stay_few.Goals as goal

pub loop-at-init : goal.loop-at-init
loop-at-init c = record { sum = refl; few = c.requires.few; within = c.requires.rises }

pub loop-at-preserved : goal.loop-at-preserved
loop-at-preserved c =
    counted_more c.args.interval c.args.links c.args.c c.loop-at.at c.args.end c.loop-at.count c.next_cycle-at.result c.requires.interval c.loop-at-test.true c.next_cycle-at.ensures.value c.next_cycle-at.ensures.within (omega (arith, c.loop-at.invariant.few, c.if-count-eq1024.false)) c.loop-at.invariant

pub returns : goal.returns
returns c = counted_all c.args.interval c.args.links c.args.c c.loop-at.at c.args.end c.loop-at.count (omega (arith, c.loop-at-test.false)) c.loop-at.invariant

pub returns-then-count-eq1024 : goal.returns-then-count-eq1024
returns-then-count-eq1024 c = counted_full c.args.interval c.args.links c.args.c c.loop-at.at c.args.end c.loop-at.count c.requires.interval c.loop-at-test.true c.if-count-eq1024.true c.loop-at.invariant

pub overflow_add-count : goal.overflow_add-count
overflow_add-count c = omega (arith, c.loop-at.invariant.few)

pub loop-at-smaller : goal.loop-at-smaller
loop-at-smaller c = omega (arith, c.next_cycle-at.ensures.after, c.next_cycle-at.ensures.within)
