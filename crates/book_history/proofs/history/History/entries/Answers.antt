use Rattle.std.proofs.Common.{ap, map, sym, ◌∙◌}
use Rattle.book_history.specs.Entries.{entry_of}
use Rattle.book_history.specs.Journal.{Journal}
use Rattle.book_history.proofs.Weaves.{entries-weave}
use Rattle.book_history.proofs.history.History.entries.Goals as goal

pub returns : goal.returns
returns g c =
    let w = c.self.inside.written in
    c.deref.ensures.value ∙ sym (entries-weave w.entries.items w.loads.items _ c.self.invariant.held)
    ∙ ap (λ (j : Journal g.row.M.Denot g.row.M-Row.Denot g.row.M-Ops.Denot). map entry_of j.events) c.self.view_is
