use Rattle.std.proofs.Common.{◌≡◌, ◌+◌, ◌∙◌, ap, sym, subst, arith, List, refl}
use Rattle.book_history.specs.declared.segment.Segment.{Segment}
use Rattle.book_history.specs.declared.link.Link.TheVariants.{Joined}
use Rattle.book_history.specs.Book.{last_state, last_cycle}
use Rattle.machine.specs.Rows.{between}
use Rattle.checkpoint_book.proofs.Thins.{most_within}
use Rattle.checkpoint_book.proofs.Renewals.{Simulated, ahead, simulated_more, simulated_none, simulated_all, taken_all}
use Rattle.checkpoint_book.proofs.renew.simulate.Goals as goal

pub loop-seg-init : goal.loop-seg-init
loop-seg-init g c =
    let m = g.M.Machine in
    (simulated_none m.kit (m.fits c.args.machine.now) c.args.machine.now c.args.rows.now c.args.first.now c.args.segs.now c.args.renewed.now.items c.args.from (m.work c.args.machine.now) c.args.steps.now c.requires.fit c.requires.rises, refl)

pub advance-requires-clause-covers : goal.advance-requires-clause-covers
advance-requires-clause-covers g c =
    let h = c.loop-seg.invariant.0 in
    let a = ahead c.args.segs.now c.loop-seg.seg-index c.args.from c.loop-seg.at c.seg-item.result c.loop-seg-test.true c.seg-item.is h.rises h.ends in
    record {
      begins = omega (arith, c.requires.covers.begins, h.after);
      rises = omega (arith, a.rises, ap (λ (x : Segment g.row.M-State.Denot). x.to) c.seg-item.is);
      ends = omega (arith, c.requires.covers.ends, a.within, ap (λ (x : Segment g.row.M-State.Denot). x.to) c.seg-item.is);
    }

pub returns-in_err-state-clause-most : goal.returns-in_err-state-clause-most
returns-in_err-state-clause-most g c =
    let h = c.loop-seg.invariant.0 in
    let a = ahead c.args.segs.now c.loop-seg.seg-index c.args.from c.loop-seg.at c.seg-item.result c.loop-seg-test.true c.seg-item.is h.rises h.ends in
    most_within (g.M.Machine.work c.args.machine.now) c.args.from c.loop-seg.at c.seg-item.result.to (last_cycle c.args.from c.args.segs.now) c.args.steps.now c.loop-seg.steps c.advance.new.steps
    h.after (omega (arith, a.rises)) a.within h.taken c.in_err-state.ensures.most

pub loop-seg-preserved : goal.loop-seg-preserved
loop-seg-preserved g c =
    let m = c.args.machine.now in
    let k = g.M.Machine.kit in
    let h = c.loop-seg.invariant.0 in
    let last : c.last.result.now ≡ last_state c.args.first.now c.loop-seg.renewed.items =
    c.last.ensures ∙ ap (λ (x : List (Segment g.row.M-State.Denot)). last_state c.args.first.now x) c.deref.ensures.value in
    let part = between c.args.rows.now c.loop-seg.at c.seg-item.result.to in
    let run : c.in_ok-state.state ≡ k.seg m part (last_state c.args.first.now c.loop-seg.renewed.items) =
    c.in_ok-state.ensures.value ∙ ap (λ (x : g.row.M-State.Denot). k.seg m part x) last in
    let fits : g.M.Machine.fits m c.in_ok-state.state =
    rw run ((g.met.M.Machine g.world.𝓛 g.world.𝓜 g.world.𝓡 ((λ s x. x), (λ x. x), (λ x. x), λ x. x)).laws.seg_fits m part (last_state c.args.first.now c.loop-seg.renewed.items) h.fit) in
    let seg : Segment g.row.M-State.Denot = record { link = Joined; to = c.seg-item.result.to; state = c.in_ok-state.state } in
    let more = simulated_more k (g.M.Machine.fits m) m c.args.rows.now c.args.first.now c.args.segs.now c.args.renewed.now.items c.loop-seg.renewed.items c.loop-seg.seg-index c.args.from c.loop-seg.at
    (g.M.Machine.work m) c.args.steps.now c.loop-seg.steps c.advance.new.steps c.seg-item.result c.in_ok-state.state c.loop-seg-test.true c.seg-item.is h fits run c.in_ok-state.ensures.taken in (
      subst (λ (l : List (Segment g.row.M-State.Denot)). Simulated k (g.M.Machine.fits m) m c.args.rows.now c.args.first.now c.args.segs.now c.args.renewed.now.items l (c.loop-seg.seg-index + 1) c.args.from c.seg-item.result.to
          (g.M.Machine.work m) c.args.steps.now c.advance.new.steps) (sym c.push_reserved.ensures.items) more,
      c.push_reserved.ensures.capacity ∙ c.loop-seg.invariant.1,
    )

pub returns-clause-items : goal.returns-clause-items
returns-clause-items g c = λ all agree.
    let m = g.M.Machine in
    simulated_all m.kit (m.fits c.args.machine.now) c.args.machine.now c.args.rows.now c.args.first.now c.args.segs.now c.args.renewed.now.items c.loop-seg.renewed.items c.loop-seg.seg-index c.args.from c.loop-seg.at
    (m.work c.args.machine.now) c.args.steps.now c.loop-seg.steps (omega (arith, c.loop-seg-test.false)) c.loop-seg.invariant.0 all agree

pub push_reserved-requires : goal.push_reserved-requires
push_reserved-requires g c = omega (arith, c.loop-seg.invariant.0.count, c.loop-seg.invariant.1, c.loop-seg-test.true, c.requires.room)

pub returns-clause-taken : goal.returns-clause-taken
returns-clause-taken g c =
    let m = g.M.Machine in
    taken_all m.kit (m.fits c.args.machine.now) c.args.machine.now c.args.rows.now c.args.first.now c.args.segs.now c.args.renewed.now.items c.loop-seg.renewed.items c.loop-seg.seg-index c.args.from c.loop-seg.at
    (m.work c.args.machine.now) c.args.steps.now c.loop-seg.steps (omega (arith, c.loop-seg-test.false)) c.loop-seg.invariant.0

pub returns-clause-most : goal.returns-clause-most
returns-clause-most g c =
    let m = g.M.Machine in
    omega (
      arith,
      taken_all m.kit (m.fits c.args.machine.now) c.args.machine.now c.args.rows.now c.args.first.now c.args.segs.now c.args.renewed.now.items c.loop-seg.renewed.items c.loop-seg.seg-index c.args.from c.loop-seg.at
          (m.work c.args.machine.now) c.args.steps.now c.loop-seg.steps (omega (arith, c.loop-seg-test.false)) c.loop-seg.invariant.0,
    )

pub returns-clause-rises : goal.returns-clause-rises
returns-clause-rises g c = omega (arith, c.loop-seg.invariant.0.taken)
