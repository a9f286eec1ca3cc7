use Rattle.book_history.proofs.Readings.{held_kept, woven_kept}
use Rattle.book_history.proofs.history.History.loads.Goals as goal

pub returns-clause-held : goal.returns-clause-held
returns-clause-held g c =
    let m = g.M.Machine in
    held_kept m.kit m.valid c.self.inside.written c.args.self.now c.deref.result.now c.self.view_is c.self.invariant c.deref.ensures.value

pub returns-clause-events : goal.returns-clause-events
returns-clause-events g c =
    let m = g.M.Machine in
    woven_kept m.kit m.valid c.self.inside.written c.args.self.now c.deref.result.now c.self.view_is c.self.invariant c.deref.ensures.value
