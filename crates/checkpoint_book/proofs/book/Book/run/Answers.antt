use Rattle.std.proofs.Common.{◌≡◌, ◌≤◌, ℕ, List, [], ◌∷◌, ◌++◌, ◌+◌, ◌-◌, sym, ◌∙◌, ap, subst, refl, arith, length}
use Rattle.std.specs.Prelude.{Option, Some, None}
use Rattle.book_history.specs.declared.segment.Segment.{Segment}
use Rattle.book_history.specs.Book.{Runs, extend, last_state, grid}
use Rattle.book_history.specs.Journal.{Journal}
use Rattle.book_history.specs.Legal.{Legal}
use Rattle.book_history.specs.Rooms.{Counts}
use Rattle.book_history.proofs.Prefixes.{replay_record}
use Rattle.checkpoint_book.specs.declared.opened.Opened.{Opened}
use Rattle.checkpoint_book.specs.declared.counters.Counters.{Counters}
use Rattle.checkpoint_book.specs.Counts.{one_more}
use Rattle.checkpoint_book.specs.Grid.{AgreeFrom}
use Rattle.checkpoint_book.specs.Growth.{grown_to}
use Rattle.checkpoint_book.specs.Idle.{left_of}
use Rattle.checkpoint_book.specs.Kept.{IsKept}
use Rattle.checkpoint_book.specs.Views.{book_of, HasSessionRoom, cycle_in}
use Rattle.checkpoint_book.proofs.Keeps.{kept_more, left_stands, legal_next, small_of}
use Rattle.checkpoint_book.proofs.Entries.{run_may, run_next, facts, cycle_is}
use Rattle.checkpoint_book.proofs.Thins.{agree_after}
use Rattle.checkpoint_book.proofs.book.Book.run.Goals as goal

pub grown-requires-clause-fit : goal.grown-requires-clause-fit
grown-requires-clause-fit g c κs within =
    let m = g.M.Machine in
    let j = c.self.inside.history in
    let n = c.self.inside.counters in
    let o = c.in-Some.opened in
    let kept : IsKept m.kit j (Some o) n = subst (λ (x : Option (Opened g.row.M.Denot g.row.M-State.Denot)). IsKept m.kit j x n) c.in-Some.is c.self.invariant in
    (facts m.kit m.fits m.valid (g.met.M.Machine g.world.𝓛 g.world.𝓜 g.world.𝓡 ((λ s x. x), (λ x. x), (λ x. x), λ x. x)).laws j o n.drawn n.out c.legal.ensures kept.stands).last_fits

pub push_run-requires-clause-next : goal.push_run-requires-clause-next
push_run-requires-clause-next g c κs within =
    let m = g.M.Machine in
    let j = c.self.inside.history in
    let T : Journal g.row.M.Denot g.row.M-Row.Denot g.row.M-Ops.Denot → Type 0 = λ x. c.args.rows.0 ≡ cycle_in (book_of m.kit x) in
    let starts : T j = subst T (sym c.self.view_is) c.requires.starts in
    starts ∙ cycle_is m.kit (book_of m.kit j) ∙ ap (λ (l : List g.row.M-Row.Denot). length l) (replay_record m.kit m.valid j.settings None j.events c.legal.ensures.follows)

pub push_run-requires-clause-legal : goal.push_run-requires-clause-legal
push_run-requires-clause-legal g c κs within =
    let m = g.M.Machine in
    let j = c.self.inside.history in
    let n = c.self.inside.counters in
    let o = c.in-Some.opened in
    let kept : IsKept m.kit j (Some o) n = subst (λ (x : Option (Opened g.row.M.Denot g.row.M-State.Denot)). IsKept m.kit j x n) c.in-Some.is c.self.invariant in
    let Q : Journal g.row.M.Denot g.row.M-Row.Denot g.row.M-Ops.Denot → Type 0 = λ x. HasSessionRoom x 1 in
    let room : Q j = subst Q (sym c.self.view_is) c.requires.room in
    let fits : n.session + 1 ≤ j.settings.rooms.session = omega (arith, room, ap (λ (x : Counts). x.session) c.self.invariant.counted) in
    let may = run_may m.kit m.valid j.settings (book_of m.kit j) o n.drawn n.out c.args.rows.1 c.args.n kept.stands c.requires.count c.requires.some in
    let here = legal_next m.kit m.valid j (Runs c.args.n c.args.rows.1) (Some o) n kept c.legal.ensures may fits in
    subst (λ (i : ℕ). Legal m.kit m.valid j.settings (j.events ++ Runs i c.args.rows.1 ∷ [])) (sym c.requires.count) here

pub one_of_session-self-inside-requires : goal.one_of_session-self-inside-requires
one_of_session-self-inside-requires g c =
    let m = g.M.Machine in
    small_of m.kit m.valid c.self.inside.history c.self.inside.opened c.self.inside.counters c.self.invariant c.legal.ensures

pub invariant_of-self-2 : goal.invariant_of-self-2
invariant_of-self-2 g c =
    let m = g.M.Machine in
    let j = c.self.inside.history in
    let n = c.self.inside.counters in
    let o = c.in-Some.opened in
    let o' = c.grow.new.o in
    let r = c.args.rows in
    let kept : IsKept m.kit j (Some o) n = subst (λ (x : Option (Opened g.row.M.Denot g.row.M-State.Denot)). IsKept m.kit j x n) c.in-Some.is c.self.invariant in
    let T : Journal g.row.M.Denot g.row.M-Row.Denot g.row.M-Ops.Denot → Type 0 = λ x. r.0 ≡ cycle_in (book_of m.kit x) in
    let starts : T j = subst T (sym c.self.view_is) c.requires.starts in
    let same : c.make_room.new.o.segs.items ≡ o.segs.items = c.make_room.ensures.items in
    let E : List g.row.M-Row.Denot → ℕ → ℕ → ℕ → List (Segment g.row.M-State.Denot) = λ all i a z. extend m.kit o.version.value.machine.value all o.segs.items a (last_state o.first o.segs.items) (grid i a z) in
    let items : (before : List g.row.M-Row.Denot) → length before ≡ r.0 → o'.segs.items ≡ E (before ++ r.1) j.settings.interval r.0 c.args.n = λ before len.
    let all = before ++ r.1 in
    let agree : AgreeFrom c.start-c.result c.end-end.result r all = subst (λ (s : ℕ). AgreeFrom s c.end-end.result r all) (sym c.start-c.ensures) (agree_after before r len c.end-end.result) in
    c.grow.ensures.items
    ∙ ap (λ (l : List (Segment g.row.M-State.Denot)). grown_to c.in_ok-growth.growth l) same
    ∙ c.in_ok-growth.ensures.items all agree
    ∙ ap (λ (i : ℕ). E all i c.start-c.result (c.end-end.result - c.start-c.result)) c.interval-interval.ensures
    ∙ ap (λ (s : ℕ). E all j.settings.interval s (c.end-end.result - s)) c.start-c.ensures
    ∙ ap (λ (z : ℕ). E all j.settings.interval r.0 z) (omega (arith, c.end-end.ensures, c.requires.count)) in
    let was_open : c.make_room.new.o.left ≡ left_of c.make_room.new.o.segs.items =
    c.make_room.ensures.left ∙ left_stands m.kit (book_of m.kit j) o n.drawn n.out kept.stands ∙ ap (λ (l : List (Segment g.row.M-State.Denot)). left_of l) (sym same) in
    let next = run_next m.kit m.valid j.settings (book_of m.kit j) o o' n.drawn n.out r c.args.n kept.stands starts c.requires.count c.requires.some
    (c.grow.ensures.version ∙ c.make_room.ensures.version) (c.grow.ensures.first ∙ c.make_room.ensures.first) items (c.grow.ensures.left was_open) in
    let events = c.in_ok-push_run.ensures.ok ∙ ap (λ (i : ℕ). j.events ++ Runs i r.1 ∷ []) c.requires.count in
    let after = kept_more m.kit j c.push_run.new.self (Runs c.args.n r.1) (Some o) (Some o') n (one_more n) kept c.push_run.ensures.settings events next.1 refl (omega (arith, kept.fewer)) in
    subst (λ (x : Counters). IsKept m.kit c.push_run.new.self (Some o') x) (sym c.one_of_session-self-inside.ensures) after
