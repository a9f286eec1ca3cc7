use Rattle.std.proofs.Common.{◌≡◌, ◌≤◌, ℕ, List, ◌+◌, ◌-◌, ◌*◌, sym, ◌∙◌, ap, subst, refl, arith, length}
use Rattle.std.specs.Prelude.{Option, Some, None}
use Rattle.book_history.specs.Book.{Reloads, chosen, reloaded}
use Rattle.book_history.specs.Journal.{Journal}
use Rattle.book_history.specs.declared.segment.Segment.{Segment}
use Rattle.book_history.specs.declared.version.Version.{Version}
use Rattle.book_history.specs.Law.{record_in, record_of}
use Rattle.book_history.specs.Rooms.{Counts}
use Rattle.book_history.proofs.Prefixes.{replay_record}
use Rattle.checkpoint_book.specs.declared.opened.Opened.{Opened}
use Rattle.checkpoint_book.specs.declared.counters.Counters.{Counters}
use Rattle.checkpoint_book.specs.Counts.{one_more}
use Rattle.checkpoint_book.specs.Kept.{IsKept}
use Rattle.checkpoint_book.specs.Views.{book_of, HasSessionRoom, version_in, cycle_in, chosen_in, LeadTo}
use Rattle.checkpoint_book.proofs.Entries.{reload_next, facts, cycle_is, chosen_is_in}
use Rattle.checkpoint_book.proofs.Keeps.{kept_more, legal_next, small_of}
use Rattle.checkpoint_book.proofs.book.Book.reload.Goals as goal

pub renewed-requires-clause-fit : goal.renewed-requires-clause-fit
renewed-requires-clause-fit g c κs within =
    let m = g.M.Machine in
    let j = c.self.inside.history in
    let n = c.self.inside.counters in
    let o = c.in-Some.opened in
    let kept : IsKept m.kit j (Some o) n = subst (λ (x : Option (Opened g.row.M.Denot g.row.M-State.Denot)). IsKept m.kit j x n) c.in-Some.is c.self.invariant in
    let f = facts m.kit m.fits m.valid (g.met.M.Machine g.world.𝓛 g.world.𝓜 g.world.𝓡 ((λ s x. x), (λ x. x), (λ x. x), λ x. x)).laws j o n.drawn n.out c.legal.ensures kept.stands in
    f.all_fit

pub renewed-requires-clause-rises : goal.renewed-requires-clause-rises
renewed-requires-clause-rises g c κs within =
    let m = g.M.Machine in
    let j = c.self.inside.history in
    let n = c.self.inside.counters in
    let o = c.in-Some.opened in
    let kept : IsKept m.kit j (Some o) n = subst (λ (x : Option (Opened g.row.M.Denot g.row.M-State.Denot)). IsKept m.kit j x n) c.in-Some.is c.self.invariant in
    let f = facts m.kit m.fits m.valid (g.met.M.Machine g.world.𝓛 g.world.𝓜 g.world.𝓡 ((λ s x. x), (λ x. x), (λ x. x), λ x. x)).laws j o n.drawn n.out c.legal.ensures kept.stands in
    f.rises

pub renewed-requires-clause-end : goal.renewed-requires-clause-end
renewed-requires-clause-end g c κs within =
    let m = g.M.Machine in
    let j = c.self.inside.history in
    let n = c.self.inside.counters in
    let o = c.in-Some.opened in
    let kept : IsKept m.kit j (Some o) n = subst (λ (x : Option (Opened g.row.M.Denot g.row.M-State.Denot)). IsKept m.kit j x n) c.in-Some.is c.self.invariant in
    let f = facts m.kit m.fits m.valid (g.met.M.Machine g.world.𝓛 g.world.𝓜 g.world.𝓡 ((λ s x. x), (λ x. x), (λ x. x), λ x. x)).laws j o n.drawn n.out c.legal.ensures kept.stands in
    f.end

pub returns-in_err-next-clause-most : goal.returns-in_err-next-clause-most
returns-in_err-next-clause-most g c =
    let m = g.M.Machine in
    let j = c.self.inside.history in
    let n = c.self.inside.counters in
    let o = c.in-Some.opened in
    let kept : IsKept m.kit j (Some o) n = subst (λ (x : Option (Opened g.row.M.Denot g.row.M-State.Denot)). IsKept m.kit j x n) c.in-Some.is c.self.invariant in
    let b = book_of m.kit j in
    let segs = o.segs.items in
    let limit = c.saturating_sub-limit.result in
    let rows : record_of j.events ≡ record_in b = sym (replay_record m.kit m.valid j.settings None j.events c.legal.ensures.follows) in
    let limit_is : limit ≡ length (record_in b) - j.settings.lookback =
    c.saturating_sub-limit.ensures ∙ ap (λ (x : ℕ). x - c.lookback.result) (c.cycle.ensures ∙ ap (λ (l : List g.row.M-Row.Denot). length l) rows)
    ∙ ap (λ (x : ℕ). length (record_in b) - x) c.lookback.ensures in
    let choice : chosen limit 0 segs ≡ chosen_in j.settings b = ap (λ (x : ℕ). chosen x 0 segs) limit_is ∙ sym (chosen_is_in m.kit j.settings b o n.drawn n.out kept.stands) in
    let work = m.work c.args.version.value.machine.value in
    let same : c.args.steps.now + (length (record_of j.events) - chosen limit 0 segs) * work ≡ c.args.steps.now + (cycle_in b - chosen_in j.settings b) * work =
    ap (λ (l : List g.row.M-Row.Denot). c.args.steps.now + (length l - chosen limit 0 segs) * work) rows
    ∙ ap (λ (x : ℕ). c.args.steps.now + (x - chosen limit 0 segs) * work) (sym (cycle_is m.kit b))
    ∙ ap (λ (x : ℕ). c.args.steps.now + (cycle_in b - x) * work) choice in
    let P : Journal g.row.M.Denot g.row.M-Row.Denot g.row.M-Ops.Denot → Type 0 = λ x. c.renewed.new.steps ≤ c.args.steps.now + (cycle_in (book_of m.kit x) - chosen_in x.settings (book_of m.kit x)) * work in
    let here : P j = subst (λ (x : ℕ). c.renewed.new.steps ≤ x) same c.renewed.ensures.most in
    subst P c.self.view_is here

pub returns-in_err-version-clause-most : goal.returns-in_err-version-clause-most
returns-in_err-version-clause-most g c =
    let m = g.M.Machine in
    let j = c.self.inside.history in
    let n = c.self.inside.counters in
    let o = c.in-Some.opened in
    let kept : IsKept m.kit j (Some o) n = subst (λ (x : Option (Opened g.row.M.Denot g.row.M-State.Denot)). IsKept m.kit j x n) c.in-Some.is c.self.invariant in
    let b = book_of m.kit j in
    let segs = o.segs.items in
    let limit = c.saturating_sub-limit.result in
    let rows : record_of j.events ≡ record_in b = sym (replay_record m.kit m.valid j.settings None j.events c.legal.ensures.follows) in
    let limit_is : limit ≡ length (record_in b) - j.settings.lookback =
    c.saturating_sub-limit.ensures ∙ ap (λ (x : ℕ). x - c.lookback.result) (c.cycle.ensures ∙ ap (λ (l : List g.row.M-Row.Denot). length l) rows)
    ∙ ap (λ (x : ℕ). length (record_in b) - x) c.lookback.ensures in
    let choice : chosen limit 0 segs ≡ chosen_in j.settings b = ap (λ (x : ℕ). chosen x 0 segs) limit_is ∙ sym (chosen_is_in m.kit j.settings b o n.drawn n.out kept.stands) in
    let work = m.work c.args.version.value.machine.value in
    let same : c.args.steps.now + (length (record_of j.events) - chosen limit 0 segs) * work ≡ c.args.steps.now + (cycle_in b - chosen_in j.settings b) * work =
    ap (λ (l : List g.row.M-Row.Denot). c.args.steps.now + (length l - chosen limit 0 segs) * work) rows
    ∙ ap (λ (x : ℕ). c.args.steps.now + (x - chosen limit 0 segs) * work) (sym (cycle_is m.kit b))
    ∙ ap (λ (x : ℕ). c.args.steps.now + (cycle_in b - x) * work) choice in
    let P : Journal g.row.M.Denot g.row.M-Row.Denot g.row.M-Ops.Denot → Type 0 = λ x. c.renewed.new.steps ≤ c.args.steps.now + (cycle_in (book_of m.kit x) - chosen_in x.settings (book_of m.kit x)) * work in
    let here : P j = subst (λ (x : ℕ). c.renewed.new.steps ≤ x) same c.renewed.ensures.most in
    subst P c.self.view_is here

pub returns-in_err-push_reload-clause-most : goal.returns-in_err-push_reload-clause-most
returns-in_err-push_reload-clause-most g c =
    let m = g.M.Machine in
    let j = c.self.inside.history in
    let n = c.self.inside.counters in
    let o = c.in-Some.opened in
    let kept : IsKept m.kit j (Some o) n = subst (λ (x : Option (Opened g.row.M.Denot g.row.M-State.Denot)). IsKept m.kit j x n) c.in-Some.is c.self.invariant in
    let b = book_of m.kit j in
    let segs = o.segs.items in
    let limit = c.saturating_sub-limit.result in
    let rows : record_of j.events ≡ record_in b = sym (replay_record m.kit m.valid j.settings None j.events c.legal.ensures.follows) in
    let limit_is : limit ≡ length (record_in b) - j.settings.lookback =
    c.saturating_sub-limit.ensures ∙ ap (λ (x : ℕ). x - c.lookback.result) (c.cycle.ensures ∙ ap (λ (l : List g.row.M-Row.Denot). length l) rows)
    ∙ ap (λ (x : ℕ). length (record_in b) - x) c.lookback.ensures in
    let choice : chosen limit 0 segs ≡ chosen_in j.settings b = ap (λ (x : ℕ). chosen x 0 segs) limit_is ∙ sym (chosen_is_in m.kit j.settings b o n.drawn n.out kept.stands) in
    let work = m.work c.args.version.value.machine.value in
    let same : c.args.steps.now + (length (record_of j.events) - chosen limit 0 segs) * work ≡ c.args.steps.now + (cycle_in b - chosen_in j.settings b) * work =
    ap (λ (l : List g.row.M-Row.Denot). c.args.steps.now + (length l - chosen limit 0 segs) * work) rows
    ∙ ap (λ (x : ℕ). c.args.steps.now + (x - chosen limit 0 segs) * work) (sym (cycle_is m.kit b))
    ∙ ap (λ (x : ℕ). c.args.steps.now + (cycle_in b - x) * work) choice in
    let P : Journal g.row.M.Denot g.row.M-Row.Denot g.row.M-Ops.Denot → Type 0 = λ x. c.renewed.new.steps ≤ c.args.steps.now + (cycle_in (book_of m.kit x) - chosen_in x.settings (book_of m.kit x)) * work in
    let here : P j = subst (λ (x : ℕ). c.renewed.new.steps ≤ x) same c.renewed.ensures.most in
    subst P c.self.view_is here

pub returns-clause-most : goal.returns-clause-most
returns-clause-most g c =
    let m = g.M.Machine in
    let j = c.self.inside.history in
    let n = c.self.inside.counters in
    let o = c.in-Some.opened in
    let kept : IsKept m.kit j (Some o) n = subst (λ (x : Option (Opened g.row.M.Denot g.row.M-State.Denot)). IsKept m.kit j x n) c.in-Some.is c.self.invariant in
    let b = book_of m.kit j in
    let segs = o.segs.items in
    let limit = c.saturating_sub-limit.result in
    let rows : record_of j.events ≡ record_in b = sym (replay_record m.kit m.valid j.settings None j.events c.legal.ensures.follows) in
    let limit_is : limit ≡ length (record_in b) - j.settings.lookback =
    c.saturating_sub-limit.ensures ∙ ap (λ (x : ℕ). x - c.lookback.result) (c.cycle.ensures ∙ ap (λ (l : List g.row.M-Row.Denot). length l) rows)
    ∙ ap (λ (x : ℕ). length (record_in b) - x) c.lookback.ensures in
    let choice : chosen limit 0 segs ≡ chosen_in j.settings b = ap (λ (x : ℕ). chosen x 0 segs) limit_is ∙ sym (chosen_is_in m.kit j.settings b o n.drawn n.out kept.stands) in
    let work = m.work c.args.version.value.machine.value in
    let same : c.args.steps.now + (length (record_of j.events) - chosen limit 0 segs) * work ≡ c.args.steps.now + (cycle_in b - chosen_in j.settings b) * work =
    ap (λ (l : List g.row.M-Row.Denot). c.args.steps.now + (length l - chosen limit 0 segs) * work) rows
    ∙ ap (λ (x : ℕ). c.args.steps.now + (x - chosen limit 0 segs) * work) (sym (cycle_is m.kit b))
    ∙ ap (λ (x : ℕ). c.args.steps.now + (cycle_in b - x) * work) choice in
    let P : Journal g.row.M.Denot g.row.M-Row.Denot g.row.M-Ops.Denot → Type 0 = λ x. c.renewed.new.steps ≤ c.args.steps.now + (cycle_in (book_of m.kit x) - chosen_in x.settings (book_of m.kit x)) * work in
    let here : P j = subst (λ (x : ℕ). c.renewed.new.steps ≤ x) same c.renewed.ensures.most in
    subst P c.self.view_is here

pub returns-clause-taken : goal.returns-clause-taken
returns-clause-taken g c =
    let m = g.M.Machine in
    let j = c.self.inside.history in
    let n = c.self.inside.counters in
    let o = c.in-Some.opened in
    let kept : IsKept m.kit j (Some o) n = subst (λ (x : Option (Opened g.row.M.Denot g.row.M-State.Denot)). IsKept m.kit j x n) c.in-Some.is c.self.invariant in
    let b = book_of m.kit j in
    let segs = o.segs.items in
    let limit = c.saturating_sub-limit.result in
    let rows : record_of j.events ≡ record_in b = sym (replay_record m.kit m.valid j.settings None j.events c.legal.ensures.follows) in
    let limit_is : limit ≡ length (record_in b) - j.settings.lookback =
    c.saturating_sub-limit.ensures ∙ ap (λ (x : ℕ). x - c.lookback.result) (c.cycle.ensures ∙ ap (λ (l : List g.row.M-Row.Denot). length l) rows)
    ∙ ap (λ (x : ℕ). length (record_in b) - x) c.lookback.ensures in
    let choice : chosen limit 0 segs ≡ chosen_in j.settings b = ap (λ (x : ℕ). chosen x 0 segs) limit_is ∙ sym (chosen_is_in m.kit j.settings b o n.drawn n.out kept.stands) in
    let work = m.work c.args.version.value.machine.value in
    let same : c.args.steps.now + (length (record_of j.events) - chosen limit 0 segs) * work ≡ c.args.steps.now + (cycle_in b - chosen_in j.settings b) * work =
    ap (λ (l : List g.row.M-Row.Denot). c.args.steps.now + (length l - chosen limit 0 segs) * work) rows
    ∙ ap (λ (x : ℕ). c.args.steps.now + (x - chosen limit 0 segs) * work) (sym (cycle_is m.kit b))
    ∙ ap (λ (x : ℕ). c.args.steps.now + (cycle_in b - x) * work) choice in
    let P : Journal g.row.M.Denot g.row.M-Row.Denot g.row.M-Ops.Denot → Type 0 = λ x. c.renewed.new.steps ≡ c.args.steps.now + (cycle_in (book_of m.kit x) - chosen_in x.settings (book_of m.kit x)) * work in
    let here : P j = c.in_ok-next.ensures.taken ∙ same in
    subst P c.self.view_is here

pub returns-clause-chosen : goal.returns-clause-chosen
returns-clause-chosen g c =
    let m = g.M.Machine in
    let j = c.self.inside.history in
    let n = c.self.inside.counters in
    let o = c.in-Some.opened in
    let kept : IsKept m.kit j (Some o) n = subst (λ (x : Option (Opened g.row.M.Denot g.row.M-State.Denot)). IsKept m.kit j x n) c.in-Some.is c.self.invariant in
    let b = book_of m.kit j in
    let segs = o.segs.items in
    let limit = c.saturating_sub-limit.result in
    let rows : record_of j.events ≡ record_in b = sym (replay_record m.kit m.valid j.settings None j.events c.legal.ensures.follows) in
    let limit_is : limit ≡ length (record_in b) - j.settings.lookback =
    c.saturating_sub-limit.ensures ∙ ap (λ (x : ℕ). x - c.lookback.result) (c.cycle.ensures ∙ ap (λ (l : List g.row.M-Row.Denot). length l) rows)
    ∙ ap (λ (x : ℕ). length (record_in b) - x) c.lookback.ensures in
    let choice : chosen limit 0 segs ≡ chosen_in j.settings b = ap (λ (x : ℕ). chosen x 0 segs) limit_is ∙ sym (chosen_is_in m.kit j.settings b o n.drawn n.out kept.stands) in
    let work = m.work c.args.version.value.machine.value in
    let same : c.args.steps.now + (length (record_of j.events) - chosen limit 0 segs) * work ≡ c.args.steps.now + (cycle_in b - chosen_in j.settings b) * work =
    ap (λ (l : List g.row.M-Row.Denot). c.args.steps.now + (length l - chosen limit 0 segs) * work) rows
    ∙ ap (λ (x : ℕ). c.args.steps.now + (x - chosen limit 0 segs) * work) (sym (cycle_is m.kit b))
    ∙ ap (λ (x : ℕ). c.args.steps.now + (cycle_in b - x) * work) choice in
    let P : Journal g.row.M.Denot g.row.M-Row.Denot g.row.M-Ops.Denot → Type 0 = λ x. c.in_ok-next.from ≡ chosen_in x.settings (book_of m.kit x) in
    let here : P j = c.in_ok-next.ensures.cycle ∙ choice in
    subst P c.self.view_is here

pub push_reload-requires-clause-legal : goal.push_reload-requires-clause-legal
push_reload-requires-clause-legal g c κs within =
    let m = g.M.Machine in
    let j = c.self.inside.history in
    let n = c.self.inside.counters in
    let o = c.in-Some.opened in
    let kept : IsKept m.kit j (Some o) n = subst (λ (x : Option (Opened g.row.M.Denot g.row.M-State.Denot)). IsKept m.kit j x n) c.in-Some.is c.self.invariant in
    let b = book_of m.kit j in
    let segs = o.segs.items in
    let limit = c.saturating_sub-limit.result in
    let rows : record_of j.events ≡ record_in b = sym (replay_record m.kit m.valid j.settings None j.events c.legal.ensures.follows) in
    let limit_is : limit ≡ length (record_in b) - j.settings.lookback =
    c.saturating_sub-limit.ensures ∙ ap (λ (x : ℕ). x - c.lookback.result) (c.cycle.ensures ∙ ap (λ (l : List g.row.M-Row.Denot). length l) rows)
    ∙ ap (λ (x : ℕ). length (record_in b) - x) c.lookback.ensures in
    let choice : chosen limit 0 segs ≡ chosen_in j.settings b = ap (λ (x : ℕ). chosen x 0 segs) limit_is ∙ sym (chosen_is_in m.kit j.settings b o n.drawn n.out kept.stands) in
    let work = m.work c.args.version.value.machine.value in
    let same : c.args.steps.now + (length (record_of j.events) - chosen limit 0 segs) * work ≡ c.args.steps.now + (cycle_in b - chosen_in j.settings b) * work =
    ap (λ (l : List g.row.M-Row.Denot). c.args.steps.now + (length l - chosen limit 0 segs) * work) rows
    ∙ ap (λ (x : ℕ). c.args.steps.now + (x - chosen limit 0 segs) * work) (sym (cycle_is m.kit b))
    ∙ ap (λ (x : ℕ). c.args.steps.now + (cycle_in b - x) * work) choice in
    let Q : Journal g.row.M.Denot g.row.M-Row.Denot g.row.M-Ops.Denot → Type 0 = λ x. HasSessionRoom x 1 in
    let room : Q j = subst Q (sym c.self.view_is) c.requires.room in
    let fits : n.session + 1 ≤ j.settings.rooms.session = omega (arith, room, ap (λ (x : Counts). x.session) c.self.invariant.counted) in
    let o' = c.in_ok-next.next in
    let is = c.in_ok-next.ensures.book in
    let old = o.version.value.machine.value in
    let v = c.in_ok-version.version.value in
    let same_v : v ≡ c.args.version.value = c.in_ok-version.ensures ∙ is.version in
    let N : Journal g.row.M.Denot g.row.M-Row.Denot g.row.M-Ops.Denot → Type 0 = λ x. c.args.version.value.number ≡ version_in (book_of m.kit x) + 1 in
    let number : v.number ≡ version_in b + 1 = ap (λ (x : Version g.row.M.Denot). x.number) same_v ∙ subst N (sym c.self.view_is) c.requires.number in
    let ops = c.in_ok-ops.ops.value in
    let given : ops ≡ c.args.ops = c.in_ok-ops.ensures.ok in
    let L : Journal g.row.M.Denot g.row.M-Row.Denot g.row.M-Ops.Denot → Type 0 = λ x. LeadTo m.valid (book_of m.kit x) c.args.version.value.machine.value c.args.ops in
    let lead0 : L j = subst L (sym c.self.view_is) c.requires.valid in
    let lead1 : LeadTo m.valid b v.machine.value c.args.ops = subst (λ (x : Version g.row.M.Denot). LeadTo m.valid b x.machine.value c.args.ops) (sym same_v) lead0 in
    let lead : LeadTo m.valid b v.machine.value ops = subst (λ (x : g.row.M-Ops.Denot). LeadTo m.valid b v.machine.value x) (sym given) lead1 in
    let P : g.row.M-Ops.Denot → Version g.row.M.Denot → List g.row.M-Row.Denot → ℕ → List (Segment g.row.M-State.Denot) = λ y x l i. reloaded m.kit old x.machine.value y l i 0 (m.kit.start x.machine.value) segs in
    let R : Version g.row.M.Denot → List g.row.M-Row.Denot → ℕ → List (Segment g.row.M-State.Denot) = λ x l i. P ops x l i in
    let items : o'.segs.items ≡ R v (record_in b) (length (record_in b) - j.settings.lookback) =
    is.items ∙ ap (λ (y : g.row.M-Ops.Denot). P y c.args.version.value (record_of j.events) limit) c.deref.ensures ∙ ap (λ (x : Version g.row.M.Denot). R x (record_of j.events) limit) (sym same_v) ∙ ap (λ (l : List g.row.M-Row.Denot). R v l limit) rows ∙ ap (λ (i : ℕ). R v (record_in b) i) limit_is in
    let first : o'.first ≡ m.kit.start v.machine.value = is.first ∙ ap (λ (x : Version g.row.M.Denot). m.kit.start x.machine.value) (sym same_v) in
    let from_is : c.in_ok-next.from ≡ chosen (length (record_in b) - j.settings.lookback) 0 segs = c.in_ok-next.ensures.cycle ∙ ap (λ (x : ℕ). chosen x 0 segs) limit_is in
    let next = reload_next m.kit m.valid j.settings b o o' n.drawn n.out v ops c.in_ok-next.from kept.stands number lead from_is (sym c.in_ok-version.ensures) first items is.few is.left_is in
    let event = Reloads v.number v.machine.value ops c.in_ok-next.from in
    legal_next m.kit m.valid j event (Some o) n kept c.legal.ensures next.0 fits

pub one_of_session-self-inside-requires : goal.one_of_session-self-inside-requires
one_of_session-self-inside-requires g c =
    let m = g.M.Machine in
    small_of m.kit m.valid c.self.inside.history c.self.inside.opened c.self.inside.counters c.self.invariant c.legal.ensures

pub invariant_of-self-2 : goal.invariant_of-self-2
invariant_of-self-2 g c =
    let m = g.M.Machine in
    let j = c.self.inside.history in
    let n = c.self.inside.counters in
    let o = c.in-Some.opened in
    let kept : IsKept m.kit j (Some o) n = subst (λ (x : Option (Opened g.row.M.Denot g.row.M-State.Denot)). IsKept m.kit j x n) c.in-Some.is c.self.invariant in
    let b = book_of m.kit j in
    let segs = o.segs.items in
    let limit = c.saturating_sub-limit.result in
    let rows : record_of j.events ≡ record_in b = sym (replay_record m.kit m.valid j.settings None j.events c.legal.ensures.follows) in
    let limit_is : limit ≡ length (record_in b) - j.settings.lookback =
    c.saturating_sub-limit.ensures ∙ ap (λ (x : ℕ). x - c.lookback.result) (c.cycle.ensures ∙ ap (λ (l : List g.row.M-Row.Denot). length l) rows)
    ∙ ap (λ (x : ℕ). length (record_in b) - x) c.lookback.ensures in
    let choice : chosen limit 0 segs ≡ chosen_in j.settings b = ap (λ (x : ℕ). chosen x 0 segs) limit_is ∙ sym (chosen_is_in m.kit j.settings b o n.drawn n.out kept.stands) in
    let work = m.work c.args.version.value.machine.value in
    let same : c.args.steps.now + (length (record_of j.events) - chosen limit 0 segs) * work ≡ c.args.steps.now + (cycle_in b - chosen_in j.settings b) * work =
    ap (λ (l : List g.row.M-Row.Denot). c.args.steps.now + (length l - chosen limit 0 segs) * work) rows
    ∙ ap (λ (x : ℕ). c.args.steps.now + (x - chosen limit 0 segs) * work) (sym (cycle_is m.kit b))
    ∙ ap (λ (x : ℕ). c.args.steps.now + (cycle_in b - x) * work) choice in
    let Q : Journal g.row.M.Denot g.row.M-Row.Denot g.row.M-Ops.Denot → Type 0 = λ x. HasSessionRoom x 1 in
    let room : Q j = subst Q (sym c.self.view_is) c.requires.room in
    let fits : n.session + 1 ≤ j.settings.rooms.session = omega (arith, room, ap (λ (x : Counts). x.session) c.self.invariant.counted) in
    let o' = c.in_ok-next.next in
    let is = c.in_ok-next.ensures.book in
    let old = o.version.value.machine.value in
    let v = c.in_ok-version.version.value in
    let same_v : v ≡ c.args.version.value = c.in_ok-version.ensures ∙ is.version in
    let N : Journal g.row.M.Denot g.row.M-Row.Denot g.row.M-Ops.Denot → Type 0 = λ x. c.args.version.value.number ≡ version_in (book_of m.kit x) + 1 in
    let number : v.number ≡ version_in b + 1 = ap (λ (x : Version g.row.M.Denot). x.number) same_v ∙ subst N (sym c.self.view_is) c.requires.number in
    let ops = c.in_ok-ops.ops.value in
    let given : ops ≡ c.args.ops = c.in_ok-ops.ensures.ok in
    let L : Journal g.row.M.Denot g.row.M-Row.Denot g.row.M-Ops.Denot → Type 0 = λ x. LeadTo m.valid (book_of m.kit x) c.args.version.value.machine.value c.args.ops in
    let lead0 : L j = subst L (sym c.self.view_is) c.requires.valid in
    let lead1 : LeadTo m.valid b v.machine.value c.args.ops = subst (λ (x : Version g.row.M.Denot). LeadTo m.valid b x.machine.value c.args.ops) (sym same_v) lead0 in
    let lead : LeadTo m.valid b v.machine.value ops = subst (λ (x : g.row.M-Ops.Denot). LeadTo m.valid b v.machine.value x) (sym given) lead1 in
    let P : g.row.M-Ops.Denot → Version g.row.M.Denot → List g.row.M-Row.Denot → ℕ → List (Segment g.row.M-State.Denot) = λ y x l i. reloaded m.kit old x.machine.value y l i 0 (m.kit.start x.machine.value) segs in
    let R : Version g.row.M.Denot → List g.row.M-Row.Denot → ℕ → List (Segment g.row.M-State.Denot) = λ x l i. P ops x l i in
    let items : o'.segs.items ≡ R v (record_in b) (length (record_in b) - j.settings.lookback) =
    is.items ∙ ap (λ (y : g.row.M-Ops.Denot). P y c.args.version.value (record_of j.events) limit) c.deref.ensures ∙ ap (λ (x : Version g.row.M.Denot). R x (record_of j.events) limit) (sym same_v) ∙ ap (λ (l : List g.row.M-Row.Denot). R v l limit) rows ∙ ap (λ (i : ℕ). R v (record_in b) i) limit_is in
    let first : o'.first ≡ m.kit.start v.machine.value = is.first ∙ ap (λ (x : Version g.row.M.Denot). m.kit.start x.machine.value) (sym same_v) in
    let from_is : c.in_ok-next.from ≡ chosen (length (record_in b) - j.settings.lookback) 0 segs = c.in_ok-next.ensures.cycle ∙ ap (λ (x : ℕ). chosen x 0 segs) limit_is in
    let next = reload_next m.kit m.valid j.settings b o o' n.drawn n.out v ops c.in_ok-next.from kept.stands number lead from_is (sym c.in_ok-version.ensures) first items is.few is.left_is in
    let event = Reloads v.number v.machine.value ops c.in_ok-next.from in
    let after = kept_more m.kit j c.push_reload.new.self event (Some o) (Some o') n (one_more n) kept c.push_reload.ensures.settings c.in_ok-push_reload.ensures.ok next.1 refl (omega (arith, kept.fewer)) in
    subst (λ (x : Counters). IsKept m.kit c.push_reload.new.self (Some o') x) (sym c.one_of_session-self-inside.ensures) after
