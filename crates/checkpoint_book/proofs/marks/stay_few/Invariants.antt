use Rattle.std.proofs.Common.{◌-◌}
use Rattle.checkpoint_book.proofs.Marking.{Counted}
use Rattle.checkpoint_book.proofs.marks.stay_few.Given as goal

abbrev pub invariant-loop-at : goal.invariant-loop-at
invariant-loop-at l = Counted l.interval l.links l.c l.at l.end l.count

abbrev pub decreases-loop-at : goal.decreases-loop-at
decreases-loop-at l = l.end - l.at
