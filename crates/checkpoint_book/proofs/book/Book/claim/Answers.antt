use Rattle.std.proofs.Common.{◌≡◌, ◌∙◌, sym, ap, subst, false}
use Rattle.book_history.specs.declared.who.Who.TheVariants.{Worker}
use Rattle.book_history.specs.Journal.{Journal}
use Rattle.book_history.specs.Rooms.{Counts}
use Rattle.checkpoint_book.specs.Claims.{IsDrawn}
use Rattle.checkpoint_book.specs.Views.{book_of, counts_of, none_free}
use Rattle.checkpoint_book.proofs.Entries.{all_false}
use Rattle.checkpoint_book.proofs.book.Book.claim.Goals as goal

pub returns-in-Some-clause-answer : goal.returns-in-Some-clause-answer
returns-in-Some-clause-answer g c =
    let m = g.M.Machine in
    let drawn : IsDrawn m.kit (Worker c.args.by) c.args.self.now c.take.new.self c.in-Some.ticket = rw c.in-Some.is at c.in_ok-ticket.ensures.some in
    let free : none_free (Worker c.args.by) (book_of m.kit c.args.self.now) ≡ false = rw c.in-Some.is at c.in_ok-ticket.ensures.free in
    let P : Journal g.row.M.Denot g.row.M-Row.Denot g.row.M-Ops.Denot → Type 0 = λ x. (counts_of x).closed ≡ false in
    let not_closed : P c.args.self.now = subst P c.self.view_is (ap (λ (x : Counts). x.closed) c.self.invariant.counted ∙ c.if-closed.false) in
    (drawn, all_false (sym c.is_full-full.ensures ∙ c.if-full.false) not_closed free)
