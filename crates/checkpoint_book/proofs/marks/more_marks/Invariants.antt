use Rattle.std.proofs.Common.{◌-◌}
use Rattle.checkpoint_book.proofs.Marking.{Marked}
use Rattle.checkpoint_book.proofs.marks.more_marks.Given as goal

abbrev pub invariant-loop-at : goal.invariant-loop-at
invariant-loop-at g l =
    Marked g.M.Machine.kit (g.M.Machine.fits l.machine) l.machine l.rows l.from l.marks.items l.interval l.c l.at l.end (g.M.Machine.work l.machine) l.initial.steps l.steps

abbrev pub decreases-loop-at : goal.decreases-loop-at
decreases-loop-at g l = l.end - l.at
