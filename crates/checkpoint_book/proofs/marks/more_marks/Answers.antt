use Rattle.std.proofs.Common.{◌≡◌, ◌∙◌, ap, arith, List}
use Rattle.book_history.specs.declared.segment.Segment.{Segment}
use Rattle.book_history.specs.Book.{last_state}
use Rattle.machine.specs.Rows.{between}
use Rattle.checkpoint_book.proofs.Marking.{marked_none, marked_more, marked_all}
use Rattle.checkpoint_book.proofs.Thins.{most_within}
use Rattle.checkpoint_book.proofs.marks.more_marks.Goals as goal

pub loop-at-init : goal.loop-at-init
loop-at-init g c =
    let m = g.M.Machine in
    marked_none m.kit (m.fits c.args.machine.now) c.args.machine.now c.args.rows.now c.args.from.now _ c.args.interval c.args.c c.args.end (m.work c.args.machine.now) c.args.steps.now
    c.new-marks.ensures.items c.requires.fit c.requires.covers.rises

pub loop-at-preserved : goal.loop-at-preserved
loop-at-preserved g c =
    let m = g.M.Machine in
    let h = c.loop-at.invariant in
    let last : c.last.result.now ≡ last_state c.args.from.now c.loop-at.marks.items =
    c.last.ensures ∙ ap (λ (x : List (Segment g.row.M-State.Denot)). last_state c.args.from.now x) c.deref.ensures.value in
    let part = between c.args.rows.now c.loop-at.at c.next_cycle-next.result in
    let run : c.in_ok-state.state ≡ m.kit.seg c.args.machine.now part (last_state c.args.from.now c.loop-at.marks.items) =
    c.in_ok-state.ensures.value ∙ ap (λ (x : g.row.M-State.Denot). m.kit.seg c.args.machine.now part x) last in
    let fits : m.fits c.args.machine.now c.in_ok-state.state =
    rw run ((g.met.M.Machine g.world.𝓛 g.world.𝓜 g.world.𝓡 ((λ s x. x), (λ x. x), (λ x. x), λ x. x)).laws.seg_fits c.args.machine.now part (last_state c.args.from.now c.loop-at.marks.items) h.fit) in
    marked_more m.kit (m.fits c.args.machine.now) c.args.machine.now c.args.rows.now c.args.from.now c.loop-at.marks.items _ c.args.interval c.args.c c.loop-at.at c.args.end c.next_cycle-next.result
    (m.work c.args.machine.now) c.args.steps.now c.loop-at.steps c.advance.new.steps c.in_ok-state.state c.requires.interval c.loop-at-test.true c.next_cycle-next.ensures.value c.next_cycle-next.ensures.after c.next_cycle-next.ensures.within
    h fits run c.in_ok-state.ensures.taken c.in_ok-push.ensures.items

pub returns-in_err-state-clause-most : goal.returns-in_err-state-clause-most
returns-in_err-state-clause-most g c =
    let h = c.loop-at.invariant in
    most_within (g.M.Machine.work c.args.machine.now) c.args.c c.loop-at.at c.next_cycle-next.result c.args.end c.args.steps.now c.loop-at.steps c.advance.new.steps
    h.begun (omega (arith, c.next_cycle-next.ensures.after)) c.next_cycle-next.ensures.within h.taken c.in_err-state.ensures.most

pub returns-clause-items : goal.returns-clause-items
returns-clause-items g c = λ all agree.
    let m = g.M.Machine in
    marked_all m.kit (m.fits c.args.machine.now) c.args.machine.now c.args.rows.now c.args.from.now c.loop-at.marks.items c.args.interval c.args.c c.loop-at.at c.args.end (m.work c.args.machine.now) c.args.steps.now c.loop-at.steps
    (omega (arith, c.loop-at-test.false)) c.loop-at.invariant all agree

pub returns-in_err-push-clause-most : goal.returns-in_err-push-clause-most
returns-in_err-push-clause-most g c =
    let h = c.loop-at.invariant in
    most_within (g.M.Machine.work c.args.machine.now) c.args.c c.loop-at.at c.next_cycle-next.result c.args.end c.args.steps.now c.loop-at.steps c.advance.new.steps
    h.begun (omega (arith, c.next_cycle-next.ensures.after)) c.next_cycle-next.ensures.within h.taken c.in_ok-state.ensures.most
