use Rattle.std.proofs.Common.{◌≡◌, ℕ, ◌-◌, arith, ap, sym, ◌∙◌, List}
use Rattle.book_history.specs.declared.segment.Segment.{Segment}
use Rattle.book_history.specs.declared.link.Link.TheVariants.{Joined}
use Rattle.book_history.specs.Book.{last_state, extend, grid}
use Rattle.machine.specs.Rows.{between}
use Rattle.checkpoint_book.proofs.Thins.{taken_more, most_within, extend_step, length-add, last_state-add}
use Rattle.checkpoint_book.proofs.grow.extend.Goals as goal

pub loop-at-preserved : goal.loop-at-preserved
loop-at-preserved g c =
    let m = c.args.machine.now in
    let k = g.M.Machine.kit in
    let h = c.loop-at.invariant in
    let last : c.last.result.now ≡ last_state c.args.first.now c.loop-at.segs.items =
    c.last.ensures ∙ ap (λ (x : List (Segment g.row.M-State.Denot)). last_state c.args.first.now x) c.deref.ensures.value in
    let part = between c.args.rows.now c.loop-at.at c.next_cycle-next.result in
    let run : c.in_ok-state.state ≡ k.seg m part (last_state c.args.first.now c.loop-at.segs.items) =
    c.in_ok-state.ensures.value ∙ ap (λ (x : g.row.M-State.Denot). k.seg m part x) last in
    let fits : g.M.Machine.fits m c.in_ok-state.state =
    rw run ((g.met.M.Machine g.world.𝓛 g.world.𝓜 g.world.𝓡 ((λ s x. x), (λ x. x), (λ x. x), λ x. x)).laws.seg_fits m part (last_state c.args.first.now c.loop-at.segs.items) h.fit) in
    let seg : Segment g.row.M-State.Denot = record { link = Joined; to = c.next_cycle-next.result; state = c.in_ok-state.state } in
    record {
      same = λ all agree.
          extend_step k m all c.args.first.now c.loop-at.segs.items c.add.new.segs.items c.args.interval c.loop-at.at c.args.end c.next_cycle-next.result
          (last_state c.args.first.now c.loop-at.segs.items) c.in_ok-state.state c.requires.interval c.loop-at-test.true c.next_cycle-next.ensures.value
          (run ∙ ap (λ (x : List g.row.M-Row.Denot). k.seg m x (last_state c.args.first.now c.loop-at.segs.items)) (agree c.loop-at.at c.next_cycle-next.result h.from c.next_cycle-next.ensures.within))
          c.add.ensures.items ∙ h.same all agree;
      fit = rw (c.add.ensures.items, last_state-add c.args.first.now c.loop-at.segs.items seg) fits;
      from = omega (arith, h.from, c.next_cycle-next.ensures.after);
      within = omega arith;
      few = rw c.add.ensures.items (length-add c.loop-at.segs.items seg h.few);
      room = omega (arith, h.room, c.add.ensures.capacity);
      taken = taken_more (g.M.Machine.work m) c.args.c c.loop-at.at c.next_cycle-next.result c.args.steps.now c.loop-at.steps c.advance.new.steps
          h.from (omega (arith, c.next_cycle-next.ensures.after)) h.taken c.in_ok-state.ensures.taken;
    }

pub returns-in_err-state-clause-most : goal.returns-in_err-state-clause-most
returns-in_err-state-clause-most g c =
    let h = c.loop-at.invariant in
    most_within (g.M.Machine.work c.args.machine.now) c.args.c c.loop-at.at c.next_cycle-next.result c.args.end c.args.steps.now c.loop-at.steps c.advance.new.steps
    h.from (omega (arith, c.next_cycle-next.ensures.after)) c.next_cycle-next.ensures.within h.taken c.in_err-state.ensures.most

pub returns-clause-items : goal.returns-clause-items
returns-clause-items g c = λ all agree.
    let h = c.loop-at.invariant in
    let none : c.args.end - c.loop-at.at ≡ 0 = omega (arith, h.within) in
    ap (λ (n : ℕ). extend g.M.Machine.kit c.args.machine.now all c.loop-at.segs.items c.loop-at.at (last_state c.args.first.now c.loop-at.segs.items) (grid c.args.interval c.loop-at.at n)) (sym none)
    ∙ h.same all agree
