use Rattle.std.proofs.Common.{◌≡◌, sym, subst}
use Rattle.std.specs.Prelude.{Option, Some}
use Rattle.book_history.specs.Book.{Releases}
use Rattle.book_history.specs.Journal.{Journal}
use Rattle.book_history.specs.Outs.{IsOutFor}
use Rattle.checkpoint_book.specs.declared.opened.Opened.{Opened}
use Rattle.checkpoint_book.specs.declared.counters.Counters.{Counters}
use Rattle.checkpoint_book.specs.Counts.{used_by}
use Rattle.checkpoint_book.specs.Kept.{IsKept}
use Rattle.checkpoint_book.specs.Views.{book_of, HasRoomFor}
use Rattle.checkpoint_book.proofs.Keeps.{kept_more, legal_next, small_of}
use Rattle.checkpoint_book.proofs.Uses.{release_next, released_core, release_fits, room_of, used_counts, used_fewer}
use Rattle.checkpoint_book.proofs.book.Book.release.Goals as goal

pub push-requires-clause-legal : goal.push-requires-clause-legal
push-requires-clause-legal g c κs within =
    let m = g.M.Machine in
    let j = c.self.inside.history in
    let n = c.self.inside.counters in
    let o = c.in-Some.opened in
    let kept : IsKept m.kit j (Some o) n = subst (λ (x : Option (Opened g.row.M.Denot g.row.M-State.Denot)). IsKept m.kit j x n) c.in-Some.is c.self.invariant in
    let num : c.number-ticket.result ≡ c.args.t.0 = c.number-ticket.ensures in
    let P : Journal g.row.M.Denot g.row.M-Row.Denot g.row.M-Ops.Denot → Type 0 = λ x. IsOutFor (book_of m.kit x) c.args.t.0 c.args.t.1 c.args.by in
    let out : P j = subst P (sym c.self.view_is) c.requires.out in
    let Q : Journal g.row.M.Denot g.row.M-Row.Denot g.row.M-Ops.Denot → Type 0 = λ x. HasRoomFor x c.args.by in
    let room : Q j = subst Q (sym c.self.view_is) c.requires.room in
    let o' : Opened g.row.M.Denot g.row.M-State.Denot = c.release_in.new.o in
    let next = release_next m.kit m.valid j.settings (book_of m.kit j) o o' n c.args.t.0 c.args.t.1 c.args.by kept.stands out
    (released_core o o' c.args.t.0 c.release_in.ensures.version c.release_in.ensures.first (rw num at c.release_in.ensures.items)) c.release_in.ensures.left in
    rw num (legal_next m.kit m.valid j (Releases c.args.t.0 c.args.by) (Some o) n kept c.legal.ensures next.0 (release_fits g.row.M.Denot g.row.M-Row.Denot g.row.M-Ops.Denot j.settings n c.args.t.0 c.args.by (room_of j n c.args.by kept.counted room)))

pub used-self-inside-requires : goal.used-self-inside-requires
used-self-inside-requires g c =
    let m = g.M.Machine in
    small_of m.kit m.valid c.self.inside.history c.self.inside.opened c.self.inside.counters c.self.invariant c.legal.ensures

pub invariant_of-self : goal.invariant_of-self
invariant_of-self g c =
    let m = g.M.Machine in
    let j = c.self.inside.history in
    let n = c.self.inside.counters in
    let o = c.in-Some.opened in
    let kept : IsKept m.kit j (Some o) n = subst (λ (x : Option (Opened g.row.M.Denot g.row.M-State.Denot)). IsKept m.kit j x n) c.in-Some.is c.self.invariant in
    let num : c.number-ticket.result ≡ c.args.t.0 = c.number-ticket.ensures in
    let P : Journal g.row.M.Denot g.row.M-Row.Denot g.row.M-Ops.Denot → Type 0 = λ x. IsOutFor (book_of m.kit x) c.args.t.0 c.args.t.1 c.args.by in
    let out : P j = subst P (sym c.self.view_is) c.requires.out in
    let Q : Journal g.row.M.Denot g.row.M-Row.Denot g.row.M-Ops.Denot → Type 0 = λ x. HasRoomFor x c.args.by in
    let room : Q j = subst Q (sym c.self.view_is) c.requires.room in
    let o' : Opened g.row.M.Denot g.row.M-State.Denot = c.release_in.new.o in
    let next = release_next m.kit m.valid j.settings (book_of m.kit j) o o' n c.args.t.0 c.args.t.1 c.args.by kept.stands out
    (released_core o o' c.args.t.0 c.release_in.ensures.version c.release_in.ensures.first (rw num at c.release_in.ensures.items)) c.release_in.ensures.left in
    let after = kept_more m.kit j c.push.new.self (Releases c.args.t.0 c.args.by) (Some o) (Some o') n (used_by c.args.by n) kept c.push.ensures.settings (rw num at c.push.ensures.events)
    next.1 (used_counts c.args.by n) (used_fewer c.args.by n kept.fewer) in
    subst (λ (x : Counters). IsKept m.kit c.push.new.self (Some o') x) (sym c.used-self-inside.ensures) after
