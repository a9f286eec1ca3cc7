use Rattle.std.proofs.Common.{◌≡◌, [], sym, ◌∙◌, ap, subst}
use Rattle.std.specs.Prelude.{Option, Some}
use Rattle.book_history.specs.Book.{Installs}
use Rattle.book_history.specs.Journal.{Journal}
use Rattle.book_history.specs.Outs.{IsOutFor}
use Rattle.checkpoint_book.specs.declared.opened.Opened.{Opened}
use Rattle.checkpoint_book.specs.declared.counters.Counters.{Counters}
use Rattle.checkpoint_book.specs.Answers.{is_joined_answer}
use Rattle.checkpoint_book.specs.Counts.{used_by}
use Rattle.checkpoint_book.specs.Opened.{core_of}
use Rattle.checkpoint_book.specs.Kept.{IsKept}
use Rattle.checkpoint_book.specs.Views.{book_of, HasRoomFor}
use Rattle.checkpoint_book.proofs.Keeps.{kept_more, legal_next, left_stands, small_of}
use Rattle.checkpoint_book.proofs.Uses.{install_next, install_fits, room_of, joined_answer, used_counts, used_fewer}
use Rattle.checkpoint_book.proofs.book.Book.install.Goals as goal

pub push-requires-clause-legal : goal.push-requires-clause-legal
push-requires-clause-legal g c κs within =
    let m = g.M.Machine in
    let j = c.self.inside.history in
    let n = c.self.inside.counters in
    let o = c.in-Some.opened in
    let kept : IsKept m.kit j (Some o) n = subst (λ (x : Option (Opened g.row.M.Denot g.row.M-State.Denot)). IsKept m.kit j x n) c.in-Some.is c.self.invariant in
    let num : c.number-ticket.result ≡ c.args.v.0 = c.number-ticket.ensures in
    let P : Journal g.row.M.Denot g.row.M-Row.Denot g.row.M-Ops.Denot → Type 0 = λ x. IsOutFor (book_of m.kit x) c.args.v.0 c.args.v.1 c.args.by in
    let out : P j = subst P (sym c.self.view_is) c.requires.out in
    let Q : Journal g.row.M.Denot g.row.M-Row.Denot g.row.M-Ops.Denot → Type 0 = λ x. HasRoomFor x c.args.by in
    let room : Q j = subst Q (sym c.self.view_is) c.requires.room in
    let joined = c.is_joined-joined.result in
    let kept_open = left_stands m.kit (book_of m.kit j) o n.drawn n.out kept.stands in
    let next = install_next m.kit m.valid j.settings (book_of m.kit j) o c.install_in-answer.new.o n c.args.v.0 c.args.v.1 joined c.args.by kept.stands out
    (record {
      answer = c.is_joined-joined.ensures ∙ ap is_joined_answer c.install_in-answer.ensures.answer ∙ joined_answer m.kit (core_of {R = g.row.M-Row.Denot} o [] [] []) c.args.v.1;
      book = c.install_in-answer.ensures.book;
      left_is = c.install_in-answer.ensures.left kept_open;
    }) in
    rw num (legal_next m.kit m.valid j (Installs c.args.v.0 joined c.args.by) (Some o) n kept c.legal.ensures next.0 (install_fits g.row.M.Denot g.row.M-Row.Denot g.row.M-Ops.Denot j.settings n c.args.v.0 joined c.args.by (room_of j n c.args.by kept.counted room)))

pub used-self-inside-requires : goal.used-self-inside-requires
used-self-inside-requires g c =
    let m = g.M.Machine in
    small_of m.kit m.valid c.self.inside.history c.self.inside.opened c.self.inside.counters c.self.invariant c.legal.ensures

pub invariant_of-self : goal.invariant_of-self
invariant_of-self g c =
    let m = g.M.Machine in
    let j = c.self.inside.history in
    let n = c.self.inside.counters in
    let o = c.in-Some.opened in
    let kept : IsKept m.kit j (Some o) n = subst (λ (x : Option (Opened g.row.M.Denot g.row.M-State.Denot)). IsKept m.kit j x n) c.in-Some.is c.self.invariant in
    let num : c.number-ticket.result ≡ c.args.v.0 = c.number-ticket.ensures in
    let P : Journal g.row.M.Denot g.row.M-Row.Denot g.row.M-Ops.Denot → Type 0 = λ x. IsOutFor (book_of m.kit x) c.args.v.0 c.args.v.1 c.args.by in
    let out : P j = subst P (sym c.self.view_is) c.requires.out in
    let Q : Journal g.row.M.Denot g.row.M-Row.Denot g.row.M-Ops.Denot → Type 0 = λ x. HasRoomFor x c.args.by in
    let room : Q j = subst Q (sym c.self.view_is) c.requires.room in
    let joined = c.is_joined-joined.result in
    let kept_open = left_stands m.kit (book_of m.kit j) o n.drawn n.out kept.stands in
    let next = install_next m.kit m.valid j.settings (book_of m.kit j) o c.install_in-answer.new.o n c.args.v.0 c.args.v.1 joined c.args.by kept.stands out
    (record {
      answer = c.is_joined-joined.ensures ∙ ap is_joined_answer c.install_in-answer.ensures.answer ∙ joined_answer m.kit (core_of {R = g.row.M-Row.Denot} o [] [] []) c.args.v.1;
      book = c.install_in-answer.ensures.book;
      left_is = c.install_in-answer.ensures.left kept_open;
    }) in
    let after = kept_more m.kit j c.push.new.self (Installs c.args.v.0 joined c.args.by) (Some o) (Some c.install_in-answer.new.o) n (used_by c.args.by n) kept c.push.ensures.settings (rw num at c.push.ensures.events)
    next.1 (used_counts c.args.by n) (used_fewer c.args.by n kept.fewer) in
    subst (λ (x : Counters). IsKept m.kit c.push.new.self (Some c.install_in-answer.new.o) x) (sym c.used-self-inside.ensures) after
