use Rattle.std.proofs.Common.{◌≡◌, ◌-◌, ◌<◌, ◌+◌, List, length, sym, ◌∙◌, ap, arith, ◌≤◌}
use Rattle.std.proofs.lemmas.Bool.{leb-true}
use Rattle.book_history.specs.declared.segment.Segment.{Segment}
use Rattle.book_history.specs.declared.version.Version.{Version}
use Rattle.book_history.specs.Book.{simulated, last_state, grid}
use Rattle.checkpoint_book.proofs.Marking.{more_plain}
use Rattle.checkpoint_book.proofs.grow.grown.Goals as goal

pub returns-clause-items : goal.returns-clause-items
returns-clause-items g c = λ all agree.
    let k = g.M.Machine.kit in
    let o = c.args.o.now in
    let m = o.version.value.machine.value in
    let s = last_state o.first o.segs.items in
    let cs = grid c.args.interval c.args.c (c.args.end - c.args.c) in
    let machine : c.deref-machine.result.now ≡ m = c.deref-machine.ensures ∙ ap (λ (v : Version g.row.M.Denot). v.machine.value) c.deref.ensures in
    let from : c.last-from.result.now ≡ s = c.last-from.ensures ∙ ap (λ (l : List (Segment g.row.M-State.Denot)). last_state o.first l) c.deref-2.ensures.value in
    let marks : c.in_ok-more.more.items ≡ simulated k m all c.args.c s cs =
    c.in_ok-more.ensures.items all agree ∙ ap (λ (x : g.row.M.Denot). simulated k x all c.args.c c.last-from.result.now cs) machine ∙ ap (λ (x : g.row.M-State.Denot). simulated k m all c.args.c x cs) from in
    let counted : c.len.result + 1 + length cs ≤ 1024 = leb-true (c.len.result + 1 + length cs) 1024 (sym c.stay_few.ensures ∙ c.if-not-stay_few.false) in
    let few : length o.segs.items + 1 + length cs < 1025 = omega (arith, counted, c.len.ensures) in
    more_plain k m all o.segs.items c.in_ok-more.more.items c.args.c s cs few marks
