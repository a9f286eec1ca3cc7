use Rattle.std.proofs.Common.{◌/◌, ◌%◌, ap, set, ◌∙◌, arith}
use Rattle.std.proofs.lemmas.Result.{on_ok_weaker, on_err_weaker}
use Rattle.state_pages.proofs.Paging.{words_length, put_page, kept_page}
use Rattle.state_pages.specs.Words.{page_words}
use Rattle.state_pages.proofs.own_pages.put_within.Goals as goal

pub index_mut-requires : goal.index_mut-requires
index_mut-requires c = let long = words_length c.args.pages.now.items in grind (arith, long, c.requires, c.args.pages.now.ok)

pub returns-clause-ok : goal.returns-clause-ok
returns-clause-ok c =
    let long = words_length c.args.pages.now.items in
    on_ok_weaker c.put_word.result (λ put. put_page c.args.pages.now.items c.args.at (c.args.at / 64) (c.args.at % 64) c.args.value c.index_mut.result.now c.put_word.new.page
    (omega arith) (omega (arith, long, c.requires)) (omega arith) (put ∙ ap (λ page. set (page_words page) (c.args.at % 64) c.args.value) c.index_mut.ensures.value)) c.put_word.ensures.ok

pub returns-clause-err : goal.returns-clause-err
returns-clause-err c =
    on_err_weaker c.put_word.result (λ kept. kept_page c.args.pages.now.items (c.args.at / 64) c.index_mut.result.now c.put_word.new.page (kept ∙ ap page_words c.index_mut.ensures.value)) c.put_word.ensures.err
