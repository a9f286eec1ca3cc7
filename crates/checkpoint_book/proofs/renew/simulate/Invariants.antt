use Rattle.std.proofs.Common.{◌≡◌, vec_capacity}
use Rattle.checkpoint_book.proofs.Renewals.{Simulated}
use Rattle.checkpoint_book.proofs.renew.simulate.Given as goal

abbrev pub invariant-loop-seg : goal.invariant-loop-seg
invariant-loop-seg g l =
    Simulated g.M.Machine.kit (g.M.Machine.fits l.machine) l.machine l.rows l.first l.segs l.initial.renewed.items l.renewed.items l.seg-index l.from l.at (g.M.Machine.work l.machine) l.initial.steps l.steps
    × (vec_capacity l.renewed ≡ vec_capacity l.initial.renewed)
