use Rattle.std.proofs.Common.{◌≤◌, ◌+◌, sym, ◌∙◌, ap, subst, refl, arith}
use Rattle.std.specs.Prelude.{Option, Some}
use Rattle.book_history.specs.Book.{Shows}
use Rattle.book_history.specs.Journal.{Journal}
use Rattle.book_history.specs.Rooms.{Counts}
use Rattle.checkpoint_book.specs.declared.opened.Opened.{Opened}
use Rattle.checkpoint_book.specs.declared.counters.Counters.{Counters}
use Rattle.checkpoint_book.specs.Counts.{one_more}
use Rattle.checkpoint_book.specs.Kept.{IsKept}
use Rattle.checkpoint_book.specs.Views.{book_of, HasSessionRoom}
use Rattle.checkpoint_book.proofs.Keeps.{kept_more, left_stands, legal_next, small_of}
use Rattle.checkpoint_book.proofs.Entries.{show_next}
use Rattle.checkpoint_book.proofs.book.Book.show.Goals as goal

pub shown-requires : goal.shown-requires
shown-requires g c =
    let m = g.M.Machine in
    let j = c.self.inside.history in
    let n = c.self.inside.counters in
    let o = c.in-Some.opened in
    let kept : IsKept m.kit j (Some o) n = subst (λ (x : Option (Opened g.row.M.Denot g.row.M-State.Denot)). IsKept m.kit j x n) c.in-Some.is c.self.invariant in
    left_stands m.kit (book_of m.kit j) o n.drawn n.out kept.stands

pub push-requires-clause-legal : goal.push-requires-clause-legal
push-requires-clause-legal g c κs within =
    let m = g.M.Machine in
    let j = c.self.inside.history in
    let n = c.self.inside.counters in
    let o = c.in-Some.opened in
    let kept : IsKept m.kit j (Some o) n = subst (λ (x : Option (Opened g.row.M.Denot g.row.M-State.Denot)). IsKept m.kit j x n) c.in-Some.is c.self.invariant in
    let Q : Journal g.row.M.Denot g.row.M-Row.Denot g.row.M-Ops.Denot → Type 0 = λ x. HasSessionRoom x 1 in
    let room : Q j = subst Q (sym c.self.view_is) c.requires.room in
    let fits : n.session + 1 ≤ j.settings.rooms.session = omega (arith, room, ap (λ (x : Counts). x.session) c.self.invariant.counted) in
    let e = c.settled_to.ensures ∙ c.answer_of-answer.ensures ∙ c.shown.ensures in
    let next = show_next m.kit m.valid j.settings (book_of m.kit j) o n.drawn n.out c.settled_to.result kept.stands e in
    legal_next m.kit m.valid j (Shows c.settled_to.result) (Some o) n kept c.legal.ensures next.0 fits

pub one_of_session-self-inside-requires : goal.one_of_session-self-inside-requires
one_of_session-self-inside-requires g c =
    let m = g.M.Machine in
    small_of m.kit m.valid c.self.inside.history c.self.inside.opened c.self.inside.counters c.self.invariant c.legal.ensures

pub invariant_of-self : goal.invariant_of-self
invariant_of-self g c =
    let m = g.M.Machine in
    let j = c.self.inside.history in
    let n = c.self.inside.counters in
    let o = c.in-Some.opened in
    let kept : IsKept m.kit j (Some o) n = subst (λ (x : Option (Opened g.row.M.Denot g.row.M-State.Denot)). IsKept m.kit j x n) c.in-Some.is c.self.invariant in
    let Q : Journal g.row.M.Denot g.row.M-Row.Denot g.row.M-Ops.Denot → Type 0 = λ x. HasSessionRoom x 1 in
    let room : Q j = subst Q (sym c.self.view_is) c.requires.room in
    let fits : n.session + 1 ≤ j.settings.rooms.session = omega (arith, room, ap (λ (x : Counts). x.session) c.self.invariant.counted) in
    let e = c.settled_to.ensures ∙ c.answer_of-answer.ensures ∙ c.shown.ensures in
    let next = show_next m.kit m.valid j.settings (book_of m.kit j) o n.drawn n.out c.settled_to.result kept.stands e in
    let after = kept_more m.kit j c.push.new.self (Shows c.settled_to.result) (Some o) (Some o) n (one_more n) kept c.push.ensures.settings c.push.ensures.events next.1 refl (omega (arith, kept.fewer)) in
    let back : IsKept m.kit c.push.new.self c.self.inside.opened (one_more n) = subst (λ (x : Option (Opened g.row.M.Denot g.row.M-State.Denot)). IsKept m.kit c.push.new.self x (one_more n)) (sym c.in-Some.is) after in
    subst (λ (x : Counters). IsKept m.kit c.push.new.self c.self.inside.opened x) (sym c.one_of_session-self-inside.ensures) back
