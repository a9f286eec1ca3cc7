use Rattle.std.proofs.Common.{sym, ap, ◌∙◌, ◌<◌, length, arith}
use Rattle.state_pages.specs.Words.{page_words}
use Rattle.state_pages.proofs.Paging.{same_page_at}
use Rattle.state_pages.proofs.pages.same_pages.Goals as goal

pub returns-then-not-same_page-clause-all : goal.returns-then-not-same_page-clause-all
returns-then-not-same_page-clause-all c = λ same.
    let there : c.loop-index.index < length c.args.others.now = omega (arith, c.loop-index-test.true, c.requires) in
    let alike = same_page_at c.args.ones.now c.args.others.now c.loop-index.index c.index-ones-index.result c.index-others-index.result c.loop-index-test.true there same in
    sym c.if-not-same_page.true ∙ c.same_page.ensures.all (ap page_words c.index-ones-index.is ∙ alike ∙ ap page_words (sym c.index-others-index.is))
