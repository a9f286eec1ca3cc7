use Rattle.live_session.proofs.GivenLoads.{IsLoading}
use Rattle.live_session.proofs.loading.loaded.Given as goal

abbrev pub invariant-loop-load : goal.invariant-loop-load
invariant-loop-load g l =
    IsLoading l.names l.loads l.load-index l.files.items (g.F.Shelf.answers l.initial.shelf) (g.F.Shelf.answers l.shelf)
    (g.F.Shelf.faults l.initial.shelf) (g.F.Shelf.faults l.shelf)
