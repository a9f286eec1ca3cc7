use Rattle.std.proofs.Common.{arith, ap, ◌∙◌}
use Rattle.std.proofs.lemmas.Grind.{common_steps}
use Rattle.state_pages.specs.Words.{words_in}
use Rattle.state_pages.proofs.Paging.{more_zeros}
use Rattle.state_pages.proofs.pages.zero_pages.Goals as goal

pub loop-index-preserved : goal.loop-index-preserved
loop-index-preserved c = record {
  many = grind (arith, common_steps);
  zeros = ap words_in c.in_ok-push.ensures.items
      ∙ more_zeros c.loop-index.pages.items c.in_ok-try_clone.field-0 _ c.loop-index.invariant.zeros (ap (λ page. page.words) c.in_ok-try_clone.ensures ∙ c.loop-index.invariant.blank);
  blank = c.loop-index.invariant.blank;
}
