use Rattle.std.proofs.Common.{◌≡◌, List, ◌∙◌, sym, ap}
use Rattle.book_history.specs.declared.segment.Segment.{Segment}
use Rattle.checkpoint_book.specs.declared.left.Left.{Left}
use Rattle.checkpoint_book.specs.Idle.{left_of, left_of_both}
use Rattle.checkpoint_book.proofs.Idles.{left-append}
use Rattle.checkpoint_book.proofs.growth.grow.Goals as goal

pub returns-in-More-clause-left : goal.returns-in-More-clause-left
returns-in-More-clause-left g c = λ before.
    let old = c.args.o.now.segs.items in
    let more = c.in-More.more.items in
    let behind : c.left_of-behind.result ≡ left_of more = c.left_of-behind.ensures ∙ ap (λ (l : List (Segment g.row.S.Denot)). left_of l) c.deref.ensures.value in
    c.left_of_both-o.ensures ∙ ap (λ (x : Left). left_of_both x c.left_of-behind.result) before ∙ ap (λ (x : Left). left_of_both (left_of old) x) behind
    ∙ sym (left-append old more) ∙ ap (λ (l : List (Segment g.row.S.Denot)). left_of l) (sym c.append.ensures.items)
