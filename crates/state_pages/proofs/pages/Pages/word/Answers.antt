use Rattle.std.proofs.Common.{◌/◌, ◌%◌, get_or, ap, ◌∙◌}
use Rattle.state_pages.specs.Words.{page_words}
use Rattle.state_pages.proofs.Paging.{word_is}
use Rattle.state_pages.proofs.pages.Pages.word.Goals as goal

pub returns : goal.returns
returns c =
    ap (λ page. get_or page.words (c.args.i % 64) 0) c.deref-2.ensures ∙ ap (λ page. get_or (page_words page) (c.args.i % 64) 0) c.index.ensures
    ∙ ap (λ pages. get_or (page_words (get_or pages.items (c.args.i / 64) c.index.result.now)) (c.args.i % 64) 0) c.deref.ensures
    ∙ word_is _ c.args.i _ _ c.index.result.now c.self.view_is c.self.invariant c.requires
