use Rattle.std.proofs.Common.{List, ◌∙◌, subst, sym, ap}
use Rattle.std.specs.Prelude.{Option, Some}
use Rattle.book_history.specs.Book.{last_state}
use Rattle.book_history.specs.declared.segment.Segment.{Segment}
use Rattle.book_history.specs.Journal.{Journal}
use Rattle.checkpoint_book.specs.declared.opened.Opened.{Opened}
use Rattle.checkpoint_book.specs.Kept.{IsKept}
use Rattle.checkpoint_book.specs.Views.{book_of, FitsMachine}
use Rattle.checkpoint_book.proofs.Entries.{facts, fits_is}
use Rattle.checkpoint_book.proofs.book.Book.current.Goals as goal

pub returns-clause-fits : goal.returns-clause-fits
returns-clause-fits g c =
    let m = g.M.Machine in
    let j = c.self.inside.history in
    let n = c.self.inside.counters in
    let o = c.in-Some.opened in
    let kept : IsKept m.kit j (Some o) n = subst (λ (x : Option (Opened g.row.M.Denot g.row.M-State.Denot)). IsKept m.kit j x n) c.in-Some.is c.self.invariant in
    let f = facts m.kit m.fits m.valid (g.met.M.Machine g.world.𝓛 g.world.𝓜 g.world.𝓡 ((λ s x. x), (λ x. x), (λ x. x), λ x. x)).laws j o n.drawn n.out c.legal.ensures kept.stands in
    let P : Journal g.row.M.Denot g.row.M-Row.Denot g.row.M-Ops.Denot → Type 0 = λ x. FitsMachine m.fits (book_of m.kit x) c.last.result.now in
    let here : P j = fits_is m.kit m.fits (book_of m.kit j) o n.drawn n.out kept.stands (subst (λ (s : g.row.M-State.Denot). m.fits o.version.value.machine.value s) (sym (c.last.ensures ∙ ap (λ (l : List (Segment g.row.M-State.Denot)). last_state o.first l) c.deref.ensures.value)) f.last_fits) in
    subst P c.self.view_is here
