use Rattle.std.proofs.Common.{◌≡◌, ◌<◌, ◌+◌, ◌*◌, ◌/◌, ◌%◌, ap, set, length, ◌∙◌, arith}
use Rattle.std.proofs.lemmas.Result.{on_ok_weaker, on_err_weaker}
use Rattle.state_pages.proofs.Paging.{words_length, pair_page, put_pages, kept_page, always}
use Rattle.state_pages.specs.Words.{page_words}
use Rattle.state_pages.proofs.own_pages.put_two_within.Goals as goal

pub index_mut-requires : goal.index_mut-requires
index_mut-requires c = let long = words_length c.args.pages.now.items in grind (arith, long, c.requires, c.args.pages.now.ok)

pub index-requires : goal.index-requires
index-requires c = let long = words_length c.args.pages.now.items in grind (arith, long, c.requires, c.args.pages.now.ok)

pub index_mut-requires-2 : goal.index_mut-requires-2
index_mut-requires-2 c = let long = words_length c.args.pages.now.items in grind (arith, long, c.requires, c.args.pages.now.ok, c.if-at-lt63.false)

pub index_mut-requires-3 : goal.index_mut-requires-3
index_mut-requires-3 c = let long = words_length c.args.pages.now.items in grind (arith, long, c.requires, c.args.pages.now.ok)

pub returns-then-at-lt63-clause-ok : goal.returns-then-at-lt63-clause-ok
returns-then-at-lt63-clause-ok c =
    let long = words_length c.args.pages.now.items in
    let there : c.args.at / 64 < length c.args.pages.now.items = omega (arith, long, c.requires) in
    let within : c.args.at % 64 + 1 < 64 = omega (arith, c.if-at-lt63.true) in
    on_ok_weaker c.put_pair.result (λ put. pair_page c.args.pages.now.items c.args.at (c.args.at / 64) (c.args.at % 64) c.args.low c.args.high c.index_mut.result.now c.put_pair.new.page
    (omega arith) there within (put ∙ ap (λ page. set (set (page_words page) (c.args.at % 64) c.args.low) (c.args.at % 64 + 1) c.args.high) c.index_mut.ensures.value)) c.put_pair.ensures.ok

pub returns-then-at-lt63-clause-err : goal.returns-then-at-lt63-clause-err
returns-then-at-lt63-clause-err c =
    on_err_weaker c.put_pair.result (λ kept. kept_page c.args.pages.now.items (c.args.at / 64) c.index_mut.result.now c.put_pair.new.page (kept ∙ ap page_words c.index_mut.ensures.value)) c.put_pair.ensures.err

pub returns-in_err-put_word-2-clause-err : goal.returns-in_err-put_word-2-clause-err
returns-in_err-put_word-2-clause-err c = always c.from_residual-in_err-put_word-2.result
    (kept_page c.args.pages.now.items (c.args.at / 64 + 1) c.index_mut-2.result.now c.put_word-2.new.page (c.in_err-put_word-2.ensures.err ∙ ap page_words c.index_mut-2.ensures.value))

pub returns-clause-ok : goal.returns-clause-ok
returns-clause-ok c =
    let long = words_length c.args.pages.now.items in
    let there : c.args.at / 64 + 1 < length c.args.pages.now.items = omega (arith, long, c.requires, c.if-at-lt63.false) in
    let last : c.args.at ≡ 64 * (c.args.at / 64) + 63 = omega (arith, c.if-at-lt63.false) in
    put_pages c.args.pages.now.items c.args.at (c.args.at / 64) c.args.low c.args.high c.index.result.now c.index_mut-2.result.now c.put_word.new.page c.put_word-2.new.page last there
    (c.in_ok-put_word.ensures.ok ∙ ap (λ page. set page.words 63 c.args.low) c.in_ok-last.ensures ∙ ap (λ page. set (page_words page) 63 c.args.low) c.index.ensures)
    (c.in_ok-put_word-2.ensures.ok ∙ ap (λ page. set (page_words page) 0 c.args.high) c.index_mut-2.ensures.value)
