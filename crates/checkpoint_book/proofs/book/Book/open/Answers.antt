use Rattle.std.proofs.Common.{◌≡◌, ◌≤◌, ◌+◌, sym, ◌∙◌, ap, subst, refl, arith}
use Rattle.std.specs.Prelude.{Some, None}
use Rattle.book_history.specs.Book.{Opens}
use Rattle.book_history.specs.Journal.{Journal}
use Rattle.book_history.specs.declared.version.Version.{Version}
use Rattle.book_history.specs.Rooms.{Counts}
use Rattle.checkpoint_book.specs.declared.counters.Counters.{Counters}
use Rattle.checkpoint_book.specs.Counts.{one_more}
use Rattle.checkpoint_book.specs.Kept.{IsKept}
use Rattle.checkpoint_book.specs.Views.{book_of, HasSessionRoom}
use Rattle.checkpoint_book.proofs.Keeps.{kept_more, legal_next, small_of}
use Rattle.checkpoint_book.proofs.Entries.{open_next}
use Rattle.checkpoint_book.proofs.book.Book.open.Goals as goal

pub push_open-requires-clause-legal : goal.push_open-requires-clause-legal
push_open-requires-clause-legal g c κs within =
    let m = g.M.Machine in
    let j = c.self.inside.history in
    let n = c.self.inside.counters in
    let o = c.self.inside.opened in
    let kept = c.self.invariant in
    let Q : Journal g.row.M.Denot g.row.M-Row.Denot g.row.M-Ops.Denot → Type 0 = λ x. HasSessionRoom x 1 in
    let room : Q j = subst Q (sym c.self.view_is) c.requires.room in
    let fits : n.session + 1 ≤ j.settings.rooms.session = omega (arith, room, ap (λ (x : Counts). x.session) c.self.invariant.counted) in
    let N : Journal g.row.M.Denot g.row.M-Row.Denot g.row.M-Ops.Denot → Type 0 = λ x. book_of m.kit x ≡ None in
    let never : N j = subst N (sym c.self.view_is) c.requires.never in
    let o' = c.in_ok-opened.opened in
    let v = c.in_ok-version.version.value in
    let same : v ≡ c.args.version.value = c.in_ok-version.ensures ∙ c.in_ok-opened.ensures.version in
    let first : o'.first ≡ m.kit.start v.machine.value = c.in_ok-opened.ensures.first ∙ ap (λ (x : Version g.row.M.Denot). m.kit.start x.machine.value) (sym same) in
    let number : v.number ≡ 1 = ap (λ (x : Version g.row.M.Denot). x.number) same ∙ c.requires.number in
    let next = open_next m.kit m.valid j.settings (book_of m.kit j) o o' v n.drawn n.out never kept.stands number (sym c.in_ok-version.ensures) first c.in_ok-opened.ensures.segs c.in_ok-opened.ensures.left in
    legal_next m.kit m.valid j (Opens v.number v.machine.value) o n kept c.legal.ensures next.0 fits

pub one_of_session-self-inside-requires : goal.one_of_session-self-inside-requires
one_of_session-self-inside-requires g c =
    let m = g.M.Machine in
    small_of m.kit m.valid c.self.inside.history c.self.inside.opened c.self.inside.counters c.self.invariant c.legal.ensures

pub invariant_of-self-2 : goal.invariant_of-self-2
invariant_of-self-2 g c =
    let m = g.M.Machine in
    let j = c.self.inside.history in
    let n = c.self.inside.counters in
    let o = c.self.inside.opened in
    let kept = c.self.invariant in
    let Q : Journal g.row.M.Denot g.row.M-Row.Denot g.row.M-Ops.Denot → Type 0 = λ x. HasSessionRoom x 1 in
    let room : Q j = subst Q (sym c.self.view_is) c.requires.room in
    let fits : n.session + 1 ≤ j.settings.rooms.session = omega (arith, room, ap (λ (x : Counts). x.session) c.self.invariant.counted) in
    let N : Journal g.row.M.Denot g.row.M-Row.Denot g.row.M-Ops.Denot → Type 0 = λ x. book_of m.kit x ≡ None in
    let never : N j = subst N (sym c.self.view_is) c.requires.never in
    let o' = c.in_ok-opened.opened in
    let v = c.in_ok-version.version.value in
    let same : v ≡ c.args.version.value = c.in_ok-version.ensures ∙ c.in_ok-opened.ensures.version in
    let first : o'.first ≡ m.kit.start v.machine.value = c.in_ok-opened.ensures.first ∙ ap (λ (x : Version g.row.M.Denot). m.kit.start x.machine.value) (sym same) in
    let number : v.number ≡ 1 = ap (λ (x : Version g.row.M.Denot). x.number) same ∙ c.requires.number in
    let next = open_next m.kit m.valid j.settings (book_of m.kit j) o o' v n.drawn n.out never kept.stands number (sym c.in_ok-version.ensures) first c.in_ok-opened.ensures.segs c.in_ok-opened.ensures.left in
    let after = kept_more m.kit j c.push_open.new.self (Opens v.number v.machine.value) o (Some o') n (one_more n) kept c.push_open.ensures.settings c.in_ok-push_open.ensures.ok next.1 refl (omega (arith, kept.fewer)) in
    subst (λ (x : Counters). IsKept m.kit c.push_open.new.self (Some o') x) (sym c.one_of_session-self-inside.ensures) after
