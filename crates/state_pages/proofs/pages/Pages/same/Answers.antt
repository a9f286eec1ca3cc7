use Rattle.std.proofs.Common.{length, sym, ap, ◌∙◌}
use Rattle.state_pages.specs.Words.{words_in}
use Rattle.state_pages.proofs.Paging.{count_is, views_same}
use Rattle.state_pages.proofs.pages.Pages.same.Goals as goal

pub returns-then-self-other-clause-all : goal.returns-then-self-other-clause-all
returns-then-self-other-clause-all c = λ same.
    let words = views_same _ _ _ _ _ _ c.if-self-other.true c.self.view_is c.other.view_is c.self.invariant c.other.invariant same in
    let one = ap words_in (c.deref-then-self-other.ensures.value ∙ ap (λ pages. pages.items) c.deref.ensures) in
    let other = ap words_in (c.deref-then-self-other-3.ensures.value ∙ ap (λ pages. pages.items) c.deref-then-self-other-2.ensures) in
    c.same_pages.ensures.all (one ∙ words ∙ sym other)

pub returns-else-self-other-clause-all : goal.returns-else-self-other-clause-all
returns-else-self-other-clause-all c = λ same.
    absurd (c.if-self-other.false (count_is _ _ _ c.self.view_is c.self.invariant ∙ ap length same ∙ sym (count_is _ _ _ c.other.view_is c.other.invariant)))
