use Rattle.std.proofs.Common.{◌≡◌, ◌∙◌, List, sym, ap, true, false}
use Rattle.std.specs.Prelude.{Some, None}
use Rattle.std.proofs.lemmas.Bool.{cond-true, cond-false}
use Rattle.book_history.specs.declared.segment.Segment.{Segment}
use Rattle.book_history.specs.Book.{all_joined, settled_to}
use Rattle.checkpoint_book.proofs.FirstLinks.{finds_none}
use Rattle.checkpoint_book.proofs.settled.shown.Goals as goal

pub returns-then-is_idle : goal.returns-then-is_idle
returns-then-is_idle g c =
    let o = c.args.o.now in
    let all : all_joined o.segs.items ≡ true = sym (finds_none 0 o.first o.segs.items) ∙ sym c.is_idle.ensures ∙ c.if-is_idle.true in
    sym (cond-true (all_joined o.segs.items) None (Some (settled_to 0 o.segs.items)) all)

pub returns : goal.returns
returns g c =
    let o = c.args.o.now in
    let some : all_joined o.segs.items ≡ false = sym (finds_none 0 o.first o.segs.items) ∙ sym c.is_idle.ensures ∙ c.if-is_idle.false in
    let cycle = c.settled_to.ensures ∙ ap (λ (l : List (Segment g.row.S.Denot)). settled_to 0 l) c.deref.ensures.value in
    ap Some cycle ∙ sym (cond-false (all_joined o.segs.items) None (Some (settled_to 0 o.segs.items)) some)
