use Rattle.std.proofs.Common.{◌∙◌, ap, length-set}
use Rattle.state_pages.specs.Words.{page_words}
use Rattle.state_pages.proofs.Paging.{kept_page}
use Rattle.state_pages.proofs.sharing.share_within.Goals as goal

pub loop-index-preserved : goal.loop-index-preserved
loop-index-preserved c = record {
  words = kept_page c.loop-index.pages.items c.loop-index.index c.index_mut.result.now c.share_page.new.page (c.share_page.ensures ∙ ap page_words c.index_mut.ensures.value)
      ∙ c.loop-index.invariant.words;
  many = length-set c.loop-index.pages.items c.loop-index.index c.share_page.new.page ∙ c.loop-index.invariant.many;
}
