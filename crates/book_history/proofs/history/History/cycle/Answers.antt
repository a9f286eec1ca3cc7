use Rattle.book_history.proofs.Readings.{cycle_kept}
use Rattle.book_history.proofs.history.History.cycle.Goals as goal

pub returns : goal.returns
returns g c =
    let m = g.M.Machine in
    cycle_kept m.kit m.valid c.self.inside.written c.args.self.now c.self.view_is c.self.invariant
