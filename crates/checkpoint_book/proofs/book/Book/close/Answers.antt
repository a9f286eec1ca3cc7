use Rattle.std.proofs.Common.{◌≡◌, sym, ◌∙◌, ap, subst, refl, false}
use Rattle.book_history.specs.Book.{Closes}
use Rattle.book_history.specs.Journal.{Journal}
use Rattle.book_history.specs.Rooms.{Counts}
use Rattle.checkpoint_book.specs.Counts.{closing}
use Rattle.checkpoint_book.specs.Views.{book_of, counts_of}
use Rattle.checkpoint_book.proofs.Keeps.{kept_more, legal_next}
use Rattle.checkpoint_book.proofs.Entries.{close_next}
use Rattle.checkpoint_book.proofs.book.Book.close.Goals as goal

pub push-requires-clause-legal : goal.push-requires-clause-legal
push-requires-clause-legal g c κs within =
    let m = g.M.Machine in
    let j = c.self.inside.history in
    let n = c.self.inside.counters in
    let o = c.self.inside.opened in
    let kept = c.self.invariant in
    let next = close_next m.kit m.valid j.settings (book_of m.kit j) o n.drawn n.out kept.stands in
    let Q : Journal g.row.M.Denot g.row.M-Row.Denot g.row.M-Ops.Denot → Type 0 = λ x. (counts_of x).closed ≡ false in
    let not_closed : Q j = subst Q (sym c.self.view_is) c.requires.open in
    legal_next m.kit m.valid j Closes o n kept c.legal.ensures next.0 (sym (ap (λ (x : Counts). x.closed) kept.counted) ∙ not_closed)

pub invariant_of-self : goal.invariant_of-self
invariant_of-self g c =
    let m = g.M.Machine in
    let j = c.self.inside.history in
    let n = c.self.inside.counters in
    let o = c.self.inside.opened in
    let kept = c.self.invariant in
    let next = close_next m.kit m.valid j.settings (book_of m.kit j) o n.drawn n.out kept.stands in
    kept_more m.kit j c.push.new.self Closes o o n (closing n) kept c.push.ensures.settings c.push.ensures.events next.1 refl kept.fewer
