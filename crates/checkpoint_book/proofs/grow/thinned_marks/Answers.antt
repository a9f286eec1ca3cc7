use Rattle.std.proofs.Common.{◌≡◌, ◌-◌, List, ◌∙◌, ap}
use Rattle.book_history.specs.declared.segment.Segment.{Segment}
use Rattle.book_history.specs.declared.version.Version.{Version}
use Rattle.book_history.specs.Book.{extend, last_state, grid}
use Rattle.checkpoint_book.proofs.grow.thinned_marks.Goals as goal

pub returns-clause-items : goal.returns-clause-items
returns-clause-items g c = λ all agree.
    let o = c.args.o.now in
    let m = o.version.value.machine.value in
    let cs = grid c.args.interval c.args.c (c.args.end - c.args.c) in
    let F : g.row.M.Denot → List (Segment g.row.M-State.Denot) → List (Segment g.row.M-State.Denot) = λ x xs. extend g.M.Machine.kit x all xs c.args.c (last_state o.first xs) cs in
    let machine : c.deref-machine.result.now ≡ m = c.deref-machine.ensures ∙ ap (λ (v : Version g.row.M.Denot). v.machine.value) c.deref.ensures in
    c.in_ok-extend.ensures.items all agree
    ∙ ap (λ (x : g.row.M.Denot). F x c.in_ok-segs.segs.items) machine
    ∙ ap (λ (xs : List (Segment g.row.M-State.Denot)). F m xs) (c.in_ok-segs.ensures.items ∙ c.deref-2.ensures.value)
