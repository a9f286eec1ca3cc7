use Rattle.std.proofs.Common.{◌≡◌, ℕ, List, [], ◌∷◌, ◌++◌, ◌+◌, sym, ◌∙◌, ap, subst, arith, false}
use Rattle.std.specs.Prelude.{Option, Some, None}
use Rattle.book_history.specs.Book.{Event, Claims, Book, Settings, apply, takes, replay}
use Rattle.book_history.specs.Journal.{Journal}
use Rattle.book_history.specs.Law.{record_in, record_of}
use Rattle.book_history.specs.Legal.{Legal}
use Rattle.book_history.specs.Outs.{IsOutFor, tickets_drawn}
use Rattle.book_history.specs.Rooms.{Counts, HasRoom, out_in}
use Rattle.book_history.proofs.Prefixes.{replay_record, replay-snoc}
use Rattle.checkpoint_book.specs.declared.opened.Opened.{Opened}
use Rattle.checkpoint_book.specs.declared.counters.Counters.{Counters}
use Rattle.checkpoint_book.specs.Counts.{counts, drew_by}
use Rattle.checkpoint_book.specs.Claims.{IsDrawn}
use Rattle.checkpoint_book.specs.Draw.{IsDrawnAs}
use Rattle.checkpoint_book.specs.Kept.{IsKept}
use Rattle.checkpoint_book.specs.Opened.{core_of}
use Rattle.checkpoint_book.specs.Views.{book_of, counts_of, none_free, is_none}
use Rattle.checkpoint_book.proofs.Keeps.{kept_more, legal_next, left_stands, small_of, stands_out}
use Rattle.checkpoint_book.proofs.Entries.{claim_next, replay_drawn, facts, drew_counts, drew_fewer, tickets_are, none_free_is}
use Rattle.checkpoint_book.proofs.book.Book.take.Goals as goal

pub overflow_add-number : goal.overflow_add-number
overflow_add-number g c =
    let m = g.M.Machine in
    omega (arith, (small_of m.kit m.valid c.self.inside.history c.self.inside.opened c.self.inside.counters c.self.invariant c.legal.ensures).drawn)

pub draw-requires-clause-left : goal.draw-requires-clause-left
draw-requires-clause-left g c κs within =
    let m = g.M.Machine in
    let j = c.self.inside.history in
    let n = c.self.inside.counters in
    let o = c.in-Some.opened in
    let kept : IsKept m.kit j (Some o) n = subst (λ (x : Option (Opened g.row.M.Denot g.row.M-State.Denot)). IsKept m.kit j x n) c.in-Some.is c.self.invariant in
    left_stands m.kit (book_of m.kit j) o n.drawn n.out kept.stands

pub draw-requires-clause-drawable : goal.draw-requires-clause-drawable
draw-requires-clause-drawable g c κs within =
    let m = g.M.Machine in
    let j = c.self.inside.history in
    let n = c.self.inside.counters in
    let o = c.in-Some.opened in
    let kept : IsKept m.kit j (Some o) n = subst (λ (x : Option (Opened g.row.M.Denot g.row.M-State.Denot)). IsKept m.kit j x n) c.in-Some.is c.self.invariant in
    (facts m.kit m.fits m.valid (g.met.M.Machine g.world.𝓛 g.world.𝓜 g.world.𝓡 ((λ s x. x), (λ x. x), (λ x. x), λ x. x)).laws j o n.drawn n.out c.legal.ensures kept.stands).drawable (takes c.args.by)

pub push-requires-clause-legal : goal.push-requires-clause-legal
push-requires-clause-legal g c κs within =
    let m = g.M.Machine in
    let j = c.self.inside.history in
    let n = c.self.inside.counters in
    let o = c.in-Some.opened in
    let kept : IsKept m.kit j (Some o) n = subst (λ (x : Option (Opened g.row.M.Denot g.row.M-State.Denot)). IsKept m.kit j x n) c.in-Some.is c.self.invariant in
    let t = c.in-Some-2.ticket in
    let Q : Journal g.row.M.Denot g.row.M-Row.Denot g.row.M-Ops.Denot → Type 0 = λ x. HasRoom x.settings (counts_of x) (out_in (book_of m.kit x)) c.args.by in
    let room : Q j = subst Q (sym c.self.view_is) c.requires.room in
    let room1 : HasRoom j.settings (counts n) (out_in (book_of m.kit j)) c.args.by = subst (λ (x : Counts). HasRoom j.settings x (out_in (book_of m.kit j)) c.args.by) kept.counted room in
    let room2 : HasRoom j.settings (counts n) n.out c.args.by = subst (λ (x : ℕ). HasRoom j.settings (counts n) x c.args.by) (stands_out m.kit (book_of m.kit j) (Some o) n.drawn n.out kept.stands) room1 in
    let C : Journal g.row.M.Denot g.row.M-Row.Denot g.row.M-Ops.Denot → Type 0 = λ x. (counts_of x).closed ≡ false in
    let not_closed : n.closed ≡ false = sym (ap (λ (x : Counts). x.closed) kept.counted) ∙ subst C (sym c.self.view_is) c.requires.open in
    let rows : record_of j.events ≡ record_in (book_of m.kit j) = sym (replay_record m.kit m.valid j.settings None j.events c.legal.ensures.follows) in
    let drawn0 : IsDrawnAs m.kit c.args.by (n.drawn + 1) (core_of o (record_of j.events) [] []) (core_of c.draw.new.o (record_of j.events) [] []) t = rw c.in-Some-2.is at c.in_ok-ticket.ensures.some in
    let drawn1 : IsDrawnAs m.kit c.args.by (n.drawn + 1) (core_of o (record_in (book_of m.kit j)) [] []) (core_of c.draw.new.o (record_in (book_of m.kit j)) [] []) t =
    subst (λ (l : List g.row.M-Row.Denot). IsDrawnAs m.kit c.args.by (n.drawn + 1) (core_of o l [] []) (core_of c.draw.new.o l [] []) t) rows drawn0 in
    let next = claim_next m.kit m.valid j.settings (book_of m.kit j) o c.draw.new.o n c.args.by t (replay_drawn m.kit m.valid j.settings None j.events tt c.legal.ensures.follows) kept.stands drawn1 c.draw.ensures.left in
    let event = Claims t.0 t.1.a t.1.b c.args.by in
    let same : ◌≡◌ {A = Event g.row.M.Denot g.row.M-Row.Denot g.row.M-Ops.Denot} event (Claims (n.drawn + 1) c.a.result c.b.result c.args.by) =
    ap (λ (i : ℕ). Claims i t.1.a t.1.b c.args.by) drawn0.number_is ∙ ap (λ (i : ℕ). Claims (n.drawn + 1) i t.1.b c.args.by) (sym c.a.ensures) ∙ ap (λ (i : ℕ). Claims (n.drawn + 1) c.a.result i c.args.by) (sym c.b.ensures.value) in
    subst (λ (x : Event g.row.M.Denot g.row.M-Row.Denot g.row.M-Ops.Denot). Legal m.kit m.valid j.settings (j.events ++ x ∷ [])) same
    (legal_next m.kit m.valid j event (Some o) n kept c.legal.ensures next.0 (room2, not_closed))

pub drew-self-inside-requires : goal.drew-self-inside-requires
drew-self-inside-requires g c =
    let m = g.M.Machine in
    small_of m.kit m.valid c.self.inside.history c.self.inside.opened c.self.inside.counters c.self.invariant c.legal.ensures

pub invariant_of-self-2 : goal.invariant_of-self-2
invariant_of-self-2 g c =
    let m = g.M.Machine in
    let j = c.self.inside.history in
    let n = c.self.inside.counters in
    let o = c.in-Some.opened in
    let kept : IsKept m.kit j (Some o) n = subst (λ (x : Option (Opened g.row.M.Denot g.row.M-State.Denot)). IsKept m.kit j x n) c.in-Some.is c.self.invariant in
    let t = c.in-Some-2.ticket in
    let Q : Journal g.row.M.Denot g.row.M-Row.Denot g.row.M-Ops.Denot → Type 0 = λ x. HasRoom x.settings (counts_of x) (out_in (book_of m.kit x)) c.args.by in
    let room : Q j = subst Q (sym c.self.view_is) c.requires.room in
    let room1 : HasRoom j.settings (counts n) (out_in (book_of m.kit j)) c.args.by = subst (λ (x : Counts). HasRoom j.settings x (out_in (book_of m.kit j)) c.args.by) kept.counted room in
    let room2 : HasRoom j.settings (counts n) n.out c.args.by = subst (λ (x : ℕ). HasRoom j.settings (counts n) x c.args.by) (stands_out m.kit (book_of m.kit j) (Some o) n.drawn n.out kept.stands) room1 in
    let C : Journal g.row.M.Denot g.row.M-Row.Denot g.row.M-Ops.Denot → Type 0 = λ x. (counts_of x).closed ≡ false in
    let not_closed : n.closed ≡ false = sym (ap (λ (x : Counts). x.closed) kept.counted) ∙ subst C (sym c.self.view_is) c.requires.open in
    let rows : record_of j.events ≡ record_in (book_of m.kit j) = sym (replay_record m.kit m.valid j.settings None j.events c.legal.ensures.follows) in
    let drawn0 : IsDrawnAs m.kit c.args.by (n.drawn + 1) (core_of o (record_of j.events) [] []) (core_of c.draw.new.o (record_of j.events) [] []) t = rw c.in-Some-2.is at c.in_ok-ticket.ensures.some in
    let drawn1 : IsDrawnAs m.kit c.args.by (n.drawn + 1) (core_of o (record_in (book_of m.kit j)) [] []) (core_of c.draw.new.o (record_in (book_of m.kit j)) [] []) t =
    subst (λ (l : List g.row.M-Row.Denot). IsDrawnAs m.kit c.args.by (n.drawn + 1) (core_of o l [] []) (core_of c.draw.new.o l [] []) t) rows drawn0 in
    let next = claim_next m.kit m.valid j.settings (book_of m.kit j) o c.draw.new.o n c.args.by t (replay_drawn m.kit m.valid j.settings None j.events tt c.legal.ensures.follows) kept.stands drawn1 c.draw.ensures.left in
    let event = Claims t.0 t.1.a t.1.b c.args.by in
    let same : ◌≡◌ {A = Event g.row.M.Denot g.row.M-Row.Denot g.row.M-Ops.Denot} event (Claims (n.drawn + 1) c.a.result c.b.result c.args.by) =
    ap (λ (i : ℕ). Claims i t.1.a t.1.b c.args.by) drawn0.number_is ∙ ap (λ (i : ℕ). Claims (n.drawn + 1) i t.1.b c.args.by) (sym c.a.ensures) ∙ ap (λ (i : ℕ). Claims (n.drawn + 1) c.a.result i c.args.by) (sym c.b.ensures.value) in
    let events = c.push.ensures.events ∙ ap (λ (x : Event g.row.M.Denot g.row.M-Row.Denot g.row.M-Ops.Denot). j.events ++ x ∷ []) (sym same) in
    let after = kept_more m.kit j c.push.new.self event (Some o) (Some c.draw.new.o) n (drew_by c.args.by n) kept c.push.ensures.settings events next.1 (drew_counts c.args.by n) (drew_fewer c.args.by n kept.fewer) in
    subst (λ (x : Counters). IsKept m.kit c.push.new.self (Some c.draw.new.o) x) (sym c.drew-self-inside.ensures) after

pub returns-clause-some : goal.returns-clause-some
returns-clause-some g c =
    let m = g.M.Machine in
    let j = c.self.inside.history in
    let n = c.self.inside.counters in
    let o = c.in-Some.opened in
    let kept : IsKept m.kit j (Some o) n = subst (λ (x : Option (Opened g.row.M.Denot g.row.M-State.Denot)). IsKept m.kit j x n) c.in-Some.is c.self.invariant in
    let t = c.in-Some-2.ticket in
    let Q : Journal g.row.M.Denot g.row.M-Row.Denot g.row.M-Ops.Denot → Type 0 = λ x. HasRoom x.settings (counts_of x) (out_in (book_of m.kit x)) c.args.by in
    let room : Q j = subst Q (sym c.self.view_is) c.requires.room in
    let room1 : HasRoom j.settings (counts n) (out_in (book_of m.kit j)) c.args.by = subst (λ (x : Counts). HasRoom j.settings x (out_in (book_of m.kit j)) c.args.by) kept.counted room in
    let room2 : HasRoom j.settings (counts n) n.out c.args.by = subst (λ (x : ℕ). HasRoom j.settings (counts n) x c.args.by) (stands_out m.kit (book_of m.kit j) (Some o) n.drawn n.out kept.stands) room1 in
    let C : Journal g.row.M.Denot g.row.M-Row.Denot g.row.M-Ops.Denot → Type 0 = λ x. (counts_of x).closed ≡ false in
    let not_closed : n.closed ≡ false = sym (ap (λ (x : Counts). x.closed) kept.counted) ∙ subst C (sym c.self.view_is) c.requires.open in
    let rows : record_of j.events ≡ record_in (book_of m.kit j) = sym (replay_record m.kit m.valid j.settings None j.events c.legal.ensures.follows) in
    let drawn0 : IsDrawnAs m.kit c.args.by (n.drawn + 1) (core_of o (record_of j.events) [] []) (core_of c.draw.new.o (record_of j.events) [] []) t = rw c.in-Some-2.is at c.in_ok-ticket.ensures.some in
    let drawn1 : IsDrawnAs m.kit c.args.by (n.drawn + 1) (core_of o (record_in (book_of m.kit j)) [] []) (core_of c.draw.new.o (record_in (book_of m.kit j)) [] []) t =
    subst (λ (l : List g.row.M-Row.Denot). IsDrawnAs m.kit c.args.by (n.drawn + 1) (core_of o l [] []) (core_of c.draw.new.o l [] []) t) rows drawn0 in
    let next = claim_next m.kit m.valid j.settings (book_of m.kit j) o c.draw.new.o n c.args.by t (replay_drawn m.kit m.valid j.settings None j.events tt c.legal.ensures.follows) kept.stands drawn1 c.draw.ensures.left in
    let event = Claims t.0 t.1.a t.1.b c.args.by in
    let same : ◌≡◌ {A = Event g.row.M.Denot g.row.M-Row.Denot g.row.M-Ops.Denot} event (Claims (n.drawn + 1) c.a.result c.b.result c.args.by) =
    ap (λ (i : ℕ). Claims i t.1.a t.1.b c.args.by) drawn0.number_is ∙ ap (λ (i : ℕ). Claims (n.drawn + 1) i t.1.b c.args.by) (sym c.a.ensures) ∙ ap (λ (i : ℕ). Claims (n.drawn + 1) c.a.result i c.args.by) (sym c.b.ensures.value) in
    let events = c.push.ensures.events ∙ ap (λ (x : Event g.row.M.Denot g.row.M-Row.Denot g.row.M-Ops.Denot). j.events ++ x ∷ []) (sym same) in
    let number : t.0 ≡ tickets_drawn (book_of m.kit j) + 1 = drawn0.number_is ∙ ap (λ (i : ℕ). i + 1) (tickets_are (book_of m.kit j) (Some o) n.drawn n.out kept.stands) in
    let new = c.tickets_of_histories.ensures.next_is_new j.settings j.events c.legal.ensures t.0 number in
    let book : book_of m.kit c.push.new.self ≡ apply m.kit j.settings (book_of m.kit j) event =
    ap (λ (st : Settings). replay m.kit st c.push.new.self.events) c.push.ensures.settings ∙ ap (λ (h : List (Event g.row.M.Denot g.row.M-Row.Denot g.row.M-Ops.Denot)). replay m.kit j.settings h) events
    ∙ replay-snoc m.kit j.settings None j.events event in
    let out : IsOutFor (book_of m.kit c.push.new.self) t.0 t.1 c.args.by = subst (λ (b : Option (Book g.row.M.Denot g.row.M-State.Denot g.row.M-Row.Denot)). IsOutFor b t.0 t.1 c.args.by) (sym book) next.2 in
    let P : Journal g.row.M.Denot g.row.M-Row.Denot g.row.M-Ops.Denot → Type 0 = λ x. IsDrawn m.kit c.args.by x c.push.new.self t in
    let here : P j = record { events = events; not_drawn = new.0; not_used = new.1; is_out = out } in
    subst P c.self.view_is here

pub returns-clause-free : goal.returns-clause-free
returns-clause-free g c =
    let m = g.M.Machine in
    let j = c.self.inside.history in
    let n = c.self.inside.counters in
    let o = c.in-Some.opened in
    let kept : IsKept m.kit j (Some o) n = subst (λ (x : Option (Opened g.row.M.Denot g.row.M-State.Denot)). IsKept m.kit j x n) c.in-Some.is c.self.invariant in
    let t = c.in-Some-2.ticket in
    let d : IsDrawnAs m.kit c.args.by (n.drawn + 1) (core_of o (record_of j.events) [] []) (core_of c.draw.new.o (record_of j.events) [] []) t = rw c.in-Some-2.is at c.in_ok-ticket.ensures.some in
    let P : Journal g.row.M.Denot g.row.M-Row.Denot g.row.M-Ops.Denot → Type 0 = λ x. none_free c.args.by (book_of m.kit x) ≡ false in
    let here : P j = none_free_is c.args.by (book_of m.kit j) o n.drawn n.out kept.stands ∙ ap (λ (r : Option (ℕ × ℕ × g.row.M-State.Denot)). is_none r) d.found in
    subst P c.self.view_is here
