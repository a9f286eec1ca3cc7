use Rattle.std.proofs.Common.{◌≡◌, ◌≤◌, ◌+◌, ◌-◌, ◌*◌, ℕ, List, ◌++◌, All, take, drop, length, sym, ◌∙◌, ap, subst, refl, arith}
use Rattle.machine.specs.Rows.{between, Covers}
use Rattle.book_history.specs.declared.segment.Segment.{Segment}
use Rattle.book_history.specs.declared.version.Version.{Version}
use Rattle.book_history.specs.Book.{chosen, last_cycle, last_state, cycles, simulated, reloaded}
use Rattle.book_history.specs.Law.{record_of}
use Rattle.checkpoint_book.specs.Grid.{AgreeFrom}
use Rattle.checkpoint_book.specs.Idle.{left_of}
use Rattle.checkpoint_book.specs.Renew.{kept_count, carried_over}
use Rattle.checkpoint_book.proofs.Draws.{slice_length, between_zero}
use Rattle.checkpoint_book.proofs.Renewals.{Parts, parts, parts_are, all_of, carried_last, length-reloaded, agree_part}
use Rattle.checkpoint_book.proofs.reload.renewed.Goals as goal

pub split_at-requires : goal.split_at-requires
split_at-requires g c =
    omega (arith, c.choose-count.ensures.within, ap (λ (l : List (Segment g.row.M-State.Denot)). length l) (c.deref-2.ensures.value ∙ sym c.deref-3.ensures.value))

pub rows-requires-clause-covers : goal.rows-requires-clause-covers
rows-requires-clause-covers g c κs within =
    let m = g.M.Machine in
    let o = c.args.o.now in
    let segs = o.segs.items in
    let F = m.fits o.version.value.machine.value in
    let rows = record_of c.args.history.now.events in
    let kept = c.split_at.result.0.now in
    let later = c.split_at.result.1.now in
    let from = c.choose-count.result.1 in
    let chose : from ≡ chosen c.args.limit 0 segs = c.choose-count.ensures.cycle ∙ ap (λ (l : List (Segment g.row.M-State.Denot)). chosen c.args.limit 0 l) c.deref-2.ensures.value in
    let p : Parts F c.args.limit (length rows) from segs kept later =
    parts F c.args.limit (length rows) from c.choose-count.result.0 segs kept later
    (c.choose-count.ensures.count ∙ ap (λ (l : List (Segment g.row.M-State.Denot)). kept_count c.args.limit l) c.deref-2.ensures.value) chose
    (c.split_at.ensures.front ∙ ap (λ (l : List (Segment g.row.M-State.Denot)). take c.choose-count.result.0 l) c.deref-3.ensures.value)
    (c.split_at.ensures.back ∙ ap (λ (l : List (Segment g.row.M-State.Denot)). drop c.choose-count.result.0 l) c.deref-3.ensures.value)
    c.requires.rises c.requires.end c.requires.fit in
    record { begins = omega arith; rises = omega (arith, p.from_le, c.cycle.ensures); ends = omega (arith, c.cycle.ensures) }

pub renew_segs-requires-clause-ops : goal.renew_segs-requires-clause-ops
renew_segs-requires-clause-ops g c κs within =
    let m = g.M.Machine in
    let o = c.args.o.now in
    let machine : c.deref-machine.result.now ≡ c.args.version.value.machine.value = c.deref-machine.ensures ∙ ap (λ (v : Version g.row.M.Denot). v.machine.value) c.deref.ensures in
    let old : c.deref-old.result.now ≡ o.version.value.machine.value = c.deref-old.ensures ∙ ap (λ (v : Version g.row.M.Denot). v.machine.value) c.deref-4.ensures in
    rw (old, machine) c.requires.ops

pub renew_segs-requires-clause-fit : goal.renew_segs-requires-clause-fit
renew_segs-requires-clause-fit g c κs within =
    let m = g.M.Machine in
    let o = c.args.o.now in
    let segs = o.segs.items in
    let F = m.fits o.version.value.machine.value in
    let rows = record_of c.args.history.now.events in
    let kept = c.split_at.result.0.now in
    let later = c.split_at.result.1.now in
    let from = c.choose-count.result.1 in
    let chose : from ≡ chosen c.args.limit 0 segs = c.choose-count.ensures.cycle ∙ ap (λ (l : List (Segment g.row.M-State.Denot)). chosen c.args.limit 0 l) c.deref-2.ensures.value in
    let p : Parts F c.args.limit (length rows) from segs kept later =
    parts F c.args.limit (length rows) from c.choose-count.result.0 segs kept later
    (c.choose-count.ensures.count ∙ ap (λ (l : List (Segment g.row.M-State.Denot)). kept_count c.args.limit l) c.deref-2.ensures.value) chose
    (c.split_at.ensures.front ∙ ap (λ (l : List (Segment g.row.M-State.Denot)). take c.choose-count.result.0 l) c.deref-3.ensures.value)
    (c.split_at.ensures.back ∙ ap (λ (l : List (Segment g.row.M-State.Denot)). drop c.choose-count.result.0 l) c.deref-3.ensures.value)
    c.requires.rises c.requires.end c.requires.fit in
    let old : c.deref-old.result.now ≡ o.version.value.machine.value = c.deref-old.ensures ∙ ap (λ (v : Version g.row.M.Denot). v.machine.value) c.deref-4.ensures in
    subst (λ (x : g.row.M.Denot). All (λ s. m.fits x s.state) kept) (sym old) (all_of F kept p.fit)

pub renew_segs-requires-clause-last : goal.renew_segs-requires-clause-last
renew_segs-requires-clause-last g c κs within =
    let m = g.M.Machine in
    let o = c.args.o.now in
    let segs = o.segs.items in
    let F = m.fits o.version.value.machine.value in
    let rows = record_of c.args.history.now.events in
    let kept = c.split_at.result.0.now in
    let later = c.split_at.result.1.now in
    let from = c.choose-count.result.1 in
    let chose : from ≡ chosen c.args.limit 0 segs = c.choose-count.ensures.cycle ∙ ap (λ (l : List (Segment g.row.M-State.Denot)). chosen c.args.limit 0 l) c.deref-2.ensures.value in
    let p : Parts F c.args.limit (length rows) from segs kept later =
    parts F c.args.limit (length rows) from c.choose-count.result.0 segs kept later
    (c.choose-count.ensures.count ∙ ap (λ (l : List (Segment g.row.M-State.Denot)). kept_count c.args.limit l) c.deref-2.ensures.value) chose
    (c.split_at.ensures.front ∙ ap (λ (l : List (Segment g.row.M-State.Denot)). take c.choose-count.result.0 l) c.deref-3.ensures.value)
    (c.split_at.ensures.back ∙ ap (λ (l : List (Segment g.row.M-State.Denot)). drop c.choose-count.result.0 l) c.deref-3.ensures.value)
    c.requires.rises c.requires.end c.requires.fit in
    let machine : c.deref-machine.result.now ≡ c.args.version.value.machine.value = c.deref-machine.ensures ∙ ap (λ (v : Version g.row.M.Denot). v.machine.value) c.deref.ensures in
    let old : c.deref-old.result.now ≡ o.version.value.machine.value = c.deref-old.ensures ∙ ap (λ (v : Version g.row.M.Denot). v.machine.value) c.deref-4.ensures in
    let laws = (g.met.M.Machine g.world.𝓛 g.world.𝓜 g.world.𝓡 ((λ s x. x), (λ x. x), (λ x. x), λ x. x)).laws in
    let new = c.deref-machine.result.now in
    let ops : m.valid o.version.value.machine.value new c.args.ops.now = subst (λ (x : g.row.M.Denot). m.valid o.version.value.machine.value x c.args.ops.now) (sym machine) c.requires.ops in
    let first : m.fits new c.in_ok-first.first = subst (λ (x : g.row.M-State.Denot). m.fits new x) (sym c.in_ok-first.ensures) (laws.start_fits new) in
    let here = carried_last m.kit m.fits m.valid laws o.version.value.machine.value new c.args.ops.now ops c.in_ok-first.first kept first p.fit in
    subst (λ (x : g.row.M.Denot). m.fits new (last_state c.in_ok-first.first (carried_over m.kit x new c.args.ops.now kept))) (sym old) here

pub renew_segs-requires-clause-rises : goal.renew_segs-requires-clause-rises
renew_segs-requires-clause-rises g c κs within =
    let m = g.M.Machine in
    let o = c.args.o.now in
    let segs = o.segs.items in
    let F = m.fits o.version.value.machine.value in
    let rows = record_of c.args.history.now.events in
    let kept = c.split_at.result.0.now in
    let later = c.split_at.result.1.now in
    let from = c.choose-count.result.1 in
    let chose : from ≡ chosen c.args.limit 0 segs = c.choose-count.ensures.cycle ∙ ap (λ (l : List (Segment g.row.M-State.Denot)). chosen c.args.limit 0 l) c.deref-2.ensures.value in
    let p : Parts F c.args.limit (length rows) from segs kept later =
    parts F c.args.limit (length rows) from c.choose-count.result.0 segs kept later
    (c.choose-count.ensures.count ∙ ap (λ (l : List (Segment g.row.M-State.Denot)). kept_count c.args.limit l) c.deref-2.ensures.value) chose
    (c.split_at.ensures.front ∙ ap (λ (l : List (Segment g.row.M-State.Denot)). take c.choose-count.result.0 l) c.deref-3.ensures.value)
    (c.split_at.ensures.back ∙ ap (λ (l : List (Segment g.row.M-State.Denot)). drop c.choose-count.result.0 l) c.deref-3.ensures.value)
    c.requires.rises c.requires.end c.requires.fit in
    p.rises

pub renew_segs-requires-clause-covers : goal.renew_segs-requires-clause-covers
renew_segs-requires-clause-covers g c κs within =
    let m = g.M.Machine in
    let o = c.args.o.now in
    let segs = o.segs.items in
    let F = m.fits o.version.value.machine.value in
    let rows = record_of c.args.history.now.events in
    let kept = c.split_at.result.0.now in
    let later = c.split_at.result.1.now in
    let from = c.choose-count.result.1 in
    let chose : from ≡ chosen c.args.limit 0 segs = c.choose-count.ensures.cycle ∙ ap (λ (l : List (Segment g.row.M-State.Denot)). chosen c.args.limit 0 l) c.deref-2.ensures.value in
    let p : Parts F c.args.limit (length rows) from segs kept later =
    parts F c.args.limit (length rows) from c.choose-count.result.0 segs kept later
    (c.choose-count.ensures.count ∙ ap (λ (l : List (Segment g.row.M-State.Denot)). kept_count c.args.limit l) c.deref-2.ensures.value) chose
    (c.split_at.ensures.front ∙ ap (λ (l : List (Segment g.row.M-State.Denot)). take c.choose-count.result.0 l) c.deref-3.ensures.value)
    (c.split_at.ensures.back ∙ ap (λ (l : List (Segment g.row.M-State.Denot)). drop c.choose-count.result.0 l) c.deref-3.ensures.value)
    c.requires.rises c.requires.end c.requires.fit in
    let part : c.in_ok-rows.rows ≡ (from, between (0, rows) from c.cycle.result) = c.in_ok-rows.ensures in
    let len : length (between (0, rows) from c.cycle.result) ≡ c.cycle.result - from =
    ap (λ (l : List g.row.M-Row.Denot). length l) (between_zero rows from c.cycle.result) ∙ slice_length rows from c.cycle.result (omega (arith, p.from_le, c.cycle.ensures)) (omega (arith, c.cycle.ensures)) in
    let here : Covers (from, between (0, rows) from c.cycle.result) from (last_cycle from later) =
    record { begins = omega arith; rises = omega (arith, p.from_le, p.end); ends = omega (arith, len, p.end, p.from_le, c.cycle.ensures) } in
    subst (λ (r : ℕ × List g.row.M-Row.Denot). Covers r from (last_cycle from later)) (sym part) here

pub renew_segs-requires-clause-few : goal.renew_segs-requires-clause-few
renew_segs-requires-clause-few g c κs within =
    let m = g.M.Machine in
    let o = c.args.o.now in
    let segs = o.segs.items in
    let F = m.fits o.version.value.machine.value in
    let rows = record_of c.args.history.now.events in
    let kept = c.split_at.result.0.now in
    let later = c.split_at.result.1.now in
    let from = c.choose-count.result.1 in
    let chose : from ≡ chosen c.args.limit 0 segs = c.choose-count.ensures.cycle ∙ ap (λ (l : List (Segment g.row.M-State.Denot)). chosen c.args.limit 0 l) c.deref-2.ensures.value in
    let p : Parts F c.args.limit (length rows) from segs kept later =
    parts F c.args.limit (length rows) from c.choose-count.result.0 segs kept later
    (c.choose-count.ensures.count ∙ ap (λ (l : List (Segment g.row.M-State.Denot)). kept_count c.args.limit l) c.deref-2.ensures.value) chose
    (c.split_at.ensures.front ∙ ap (λ (l : List (Segment g.row.M-State.Denot)). take c.choose-count.result.0 l) c.deref-3.ensures.value)
    (c.split_at.ensures.back ∙ ap (λ (l : List (Segment g.row.M-State.Denot)). drop c.choose-count.result.0 l) c.deref-3.ensures.value)
    c.requires.rises c.requires.end c.requires.fit in
    omega (arith, p.sum, c.requires.few)

pub returns-clause-cycle : goal.returns-clause-cycle
returns-clause-cycle g c =
    let m = g.M.Machine in
    let o = c.args.o.now in
    let segs = o.segs.items in
    let F = m.fits o.version.value.machine.value in
    let rows = record_of c.args.history.now.events in
    let kept = c.split_at.result.0.now in
    let later = c.split_at.result.1.now in
    let from = c.choose-count.result.1 in
    let chose : from ≡ chosen c.args.limit 0 segs = c.choose-count.ensures.cycle ∙ ap (λ (l : List (Segment g.row.M-State.Denot)). chosen c.args.limit 0 l) c.deref-2.ensures.value in
    let p : Parts F c.args.limit (length rows) from segs kept later =
    parts F c.args.limit (length rows) from c.choose-count.result.0 segs kept later
    (c.choose-count.ensures.count ∙ ap (λ (l : List (Segment g.row.M-State.Denot)). kept_count c.args.limit l) c.deref-2.ensures.value) chose
    (c.split_at.ensures.front ∙ ap (λ (l : List (Segment g.row.M-State.Denot)). take c.choose-count.result.0 l) c.deref-3.ensures.value)
    (c.split_at.ensures.back ∙ ap (λ (l : List (Segment g.row.M-State.Denot)). drop c.choose-count.result.0 l) c.deref-3.ensures.value)
    c.requires.rises c.requires.end c.requires.fit in
    chose

pub returns-clause-taken : goal.returns-clause-taken
returns-clause-taken g c =
    let m = g.M.Machine in
    let o = c.args.o.now in
    let segs = o.segs.items in
    let F = m.fits o.version.value.machine.value in
    let rows = record_of c.args.history.now.events in
    let kept = c.split_at.result.0.now in
    let later = c.split_at.result.1.now in
    let from = c.choose-count.result.1 in
    let chose : from ≡ chosen c.args.limit 0 segs = c.choose-count.ensures.cycle ∙ ap (λ (l : List (Segment g.row.M-State.Denot)). chosen c.args.limit 0 l) c.deref-2.ensures.value in
    let p : Parts F c.args.limit (length rows) from segs kept later =
    parts F c.args.limit (length rows) from c.choose-count.result.0 segs kept later
    (c.choose-count.ensures.count ∙ ap (λ (l : List (Segment g.row.M-State.Denot)). kept_count c.args.limit l) c.deref-2.ensures.value) chose
    (c.split_at.ensures.front ∙ ap (λ (l : List (Segment g.row.M-State.Denot)). take c.choose-count.result.0 l) c.deref-3.ensures.value)
    (c.split_at.ensures.back ∙ ap (λ (l : List (Segment g.row.M-State.Denot)). drop c.choose-count.result.0 l) c.deref-3.ensures.value)
    c.requires.rises c.requires.end c.requires.fit in
    let machine : c.deref-machine.result.now ≡ c.args.version.value.machine.value = c.deref-machine.ensures ∙ ap (λ (v : Version g.row.M.Denot). v.machine.value) c.deref.ensures in
    c.in_ok-segs.ensures.taken
    ∙ ap (λ (x : g.row.M.Denot). c.args.steps.now + (last_cycle from later - from) * m.work x) machine
    ∙ ap (λ (i : ℕ). c.args.steps.now + (i - from) * m.work c.args.version.value.machine.value) p.end
    ∙ ap (λ (i : ℕ). c.args.steps.now + (length rows - i) * m.work c.args.version.value.machine.value) chose

pub returns-clause-most : goal.returns-clause-most
returns-clause-most g c =
    let m = g.M.Machine in
    let o = c.args.o.now in
    let segs = o.segs.items in
    let F = m.fits o.version.value.machine.value in
    let rows = record_of c.args.history.now.events in
    let kept = c.split_at.result.0.now in
    let later = c.split_at.result.1.now in
    let from = c.choose-count.result.1 in
    let chose : from ≡ chosen c.args.limit 0 segs = c.choose-count.ensures.cycle ∙ ap (λ (l : List (Segment g.row.M-State.Denot)). chosen c.args.limit 0 l) c.deref-2.ensures.value in
    let p : Parts F c.args.limit (length rows) from segs kept later =
    parts F c.args.limit (length rows) from c.choose-count.result.0 segs kept later
    (c.choose-count.ensures.count ∙ ap (λ (l : List (Segment g.row.M-State.Denot)). kept_count c.args.limit l) c.deref-2.ensures.value) chose
    (c.split_at.ensures.front ∙ ap (λ (l : List (Segment g.row.M-State.Denot)). take c.choose-count.result.0 l) c.deref-3.ensures.value)
    (c.split_at.ensures.back ∙ ap (λ (l : List (Segment g.row.M-State.Denot)). drop c.choose-count.result.0 l) c.deref-3.ensures.value)
    c.requires.rises c.requires.end c.requires.fit in
    let machine : c.deref-machine.result.now ≡ c.args.version.value.machine.value = c.deref-machine.ensures ∙ ap (λ (v : Version g.row.M.Denot). v.machine.value) c.deref.ensures in
    let same = ap (λ (x : g.row.M.Denot). c.args.steps.now + (last_cycle from later - from) * m.work x) machine
    ∙ ap (λ (i : ℕ). c.args.steps.now + (i - from) * m.work c.args.version.value.machine.value) p.end
    ∙ ap (λ (i : ℕ). c.args.steps.now + (length rows - i) * m.work c.args.version.value.machine.value) chose in
    subst (λ (i : ℕ). c.renew_segs.new.steps ≤ i) same c.renew_segs.ensures.most

pub returns-in_err-segs-clause-most : goal.returns-in_err-segs-clause-most
returns-in_err-segs-clause-most g c =
    let m = g.M.Machine in
    let o = c.args.o.now in
    let segs = o.segs.items in
    let F = m.fits o.version.value.machine.value in
    let rows = record_of c.args.history.now.events in
    let kept = c.split_at.result.0.now in
    let later = c.split_at.result.1.now in
    let from = c.choose-count.result.1 in
    let chose : from ≡ chosen c.args.limit 0 segs = c.choose-count.ensures.cycle ∙ ap (λ (l : List (Segment g.row.M-State.Denot)). chosen c.args.limit 0 l) c.deref-2.ensures.value in
    let p : Parts F c.args.limit (length rows) from segs kept later =
    parts F c.args.limit (length rows) from c.choose-count.result.0 segs kept later
    (c.choose-count.ensures.count ∙ ap (λ (l : List (Segment g.row.M-State.Denot)). kept_count c.args.limit l) c.deref-2.ensures.value) chose
    (c.split_at.ensures.front ∙ ap (λ (l : List (Segment g.row.M-State.Denot)). take c.choose-count.result.0 l) c.deref-3.ensures.value)
    (c.split_at.ensures.back ∙ ap (λ (l : List (Segment g.row.M-State.Denot)). drop c.choose-count.result.0 l) c.deref-3.ensures.value)
    c.requires.rises c.requires.end c.requires.fit in
    let machine : c.deref-machine.result.now ≡ c.args.version.value.machine.value = c.deref-machine.ensures ∙ ap (λ (v : Version g.row.M.Denot). v.machine.value) c.deref.ensures in
    let same = ap (λ (x : g.row.M.Denot). c.args.steps.now + (last_cycle from later - from) * m.work x) machine
    ∙ ap (λ (i : ℕ). c.args.steps.now + (i - from) * m.work c.args.version.value.machine.value) p.end
    ∙ ap (λ (i : ℕ). c.args.steps.now + (length rows - i) * m.work c.args.version.value.machine.value) chose in
    subst (λ (i : ℕ). c.renew_segs.new.steps ≤ i) same c.renew_segs.ensures.most

pub returns-clause-book : goal.returns-clause-book
returns-clause-book g c =
    let m = g.M.Machine in
    let o = c.args.o.now in
    let segs = o.segs.items in
    let F = m.fits o.version.value.machine.value in
    let rows = record_of c.args.history.now.events in
    let kept = c.split_at.result.0.now in
    let later = c.split_at.result.1.now in
    let from = c.choose-count.result.1 in
    let chose : from ≡ chosen c.args.limit 0 segs = c.choose-count.ensures.cycle ∙ ap (λ (l : List (Segment g.row.M-State.Denot)). chosen c.args.limit 0 l) c.deref-2.ensures.value in
    let p : Parts F c.args.limit (length rows) from segs kept later =
    parts F c.args.limit (length rows) from c.choose-count.result.0 segs kept later
    (c.choose-count.ensures.count ∙ ap (λ (l : List (Segment g.row.M-State.Denot)). kept_count c.args.limit l) c.deref-2.ensures.value) chose
    (c.split_at.ensures.front ∙ ap (λ (l : List (Segment g.row.M-State.Denot)). take c.choose-count.result.0 l) c.deref-3.ensures.value)
    (c.split_at.ensures.back ∙ ap (λ (l : List (Segment g.row.M-State.Denot)). drop c.choose-count.result.0 l) c.deref-3.ensures.value)
    c.requires.rises c.requires.end c.requires.fit in
    let machine : c.deref-machine.result.now ≡ c.args.version.value.machine.value = c.deref-machine.ensures ∙ ap (λ (v : Version g.row.M.Denot). v.machine.value) c.deref.ensures in
    let old : c.deref-old.result.now ≡ o.version.value.machine.value = c.deref-old.ensures ∙ ap (λ (v : Version g.row.M.Denot). v.machine.value) c.deref-4.ensures in
    let k = m.kit in
    let old_m = o.version.value.machine.value in
    let new_m = c.args.version.value.machine.value in
    let ops = c.args.ops.now in
    let part : c.in_ok-rows.rows ≡ (from, between (0, rows) from c.cycle.result) = c.in_ok-rows.ensures in
    let agree0 : AgreeFrom from c.cycle.result (from, between (0, rows) from c.cycle.result) rows = agree_part rows from c.cycle.result (omega (arith, p.from_le, c.cycle.ensures)) (omega (arith, c.cycle.ensures)) in
    let agree1 : AgreeFrom from c.cycle.result c.in_ok-rows.rows rows = subst (λ (r : ℕ × List g.row.M-Row.Denot). AgreeFrom from c.cycle.result r rows) (sym part) agree0 in
    let agree2 : AgreeFrom from (last_cycle from later) c.in_ok-rows.rows rows = subst (λ (i : ℕ). AgreeFrom from i c.in_ok-rows.rows rows) (c.cycle.ensures ∙ sym p.end) agree1 in
    let G : g.row.M.Denot → g.row.M.Denot → g.row.M-State.Denot → List (Segment g.row.M-State.Denot) = λ a b s. carried_over k a b ops kept ++ simulated k b rows from (last_state s (carried_over k a b ops kept)) (cycles later) in
    let first : c.in_ok-first.first ≡ k.start new_m = c.in_ok-first.ensures ∙ ap (λ (x : g.row.M.Denot). k.start x) machine in
    let items : c.in_ok-segs.segs.items ≡ reloaded k old_m new_m ops rows c.args.limit 0 (k.start new_m) segs =
    c.in_ok-segs.ensures.items rows agree2
    ∙ ap (λ (x : g.row.M.Denot). G x c.deref-machine.result.now c.in_ok-first.first) old
    ∙ ap (λ (x : g.row.M.Denot). G old_m x c.in_ok-first.first) machine
    ∙ ap (λ (x : g.row.M-State.Denot). G old_m new_m x) first
    ∙ parts_are k F old_m new_m ops rows c.args.limit (length rows) from (k.start new_m) segs kept later p in
    record {
      version = refl;
      first = first;
      items = items;
      left_is = c.left_of-left.ensures ∙ ap (λ (l : List (Segment g.row.M-State.Denot)). left_of l) c.deref-5.ensures.value;
      few = omega (arith, ap (λ (l : List (Segment g.row.M-State.Denot)). length l) items, length-reloaded k old_m new_m ops rows c.args.limit 0 (k.start new_m) segs, c.requires.few);
    }
