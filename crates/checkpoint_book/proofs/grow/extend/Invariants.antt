use Rattle.std.proofs.Common.{◌-◌, vec_capacity}
use Rattle.checkpoint_book.proofs.Thins.{Extended}
use Rattle.checkpoint_book.proofs.grow.extend.Given as goal

abbrev pub invariant-loop-at : goal.invariant-loop-at
invariant-loop-at g l =
    Extended g.M.Machine.kit (g.M.Machine.fits l.machine) l.machine l.rows l.first l.initial.segs.items l.segs.items (vec_capacity l.segs) l.interval l.c l.at l.end (g.M.Machine.work l.machine) l.initial.steps l.steps

abbrev pub decreases-loop-at : goal.decreases-loop-at
decreases-loop-at g l = l.end - l.at
