use Rattle.std.proofs.Common.{◌+◌, ap, set, length, ◌∙◌, arith}
use Rattle.std.proofs.lemmas.Result.{on_ok_weaker, on_err_weaker}
use Rattle.state_pages.proofs.Paging.{owned_words, always, told_at_err, made}
use Rattle.state_pages.specs.Words.{words_in}
use Rattle.state_pages.proofs.own_pages.put_two.Goals as goal

pub returns-in_err-pages-clause-err : goal.returns-in_err-pages-clause-err
returns-in_err-pages-clause-err c = always c.from_residual.result (owned_words _ _ (told_at_err c.in_err-pages.was c.make_mut.follows.holds-at-none))

pub put_two_within-requires : goal.put_two_within-requires
put_two_within-requires c =
    let same = owned_words c.args.pages.now.value c.in_ok-pages.pages.now c.in_ok-pages.ensures.value in
    let long = ap length same in
    omega (arith, long, c.requires)

pub returns-clause-ok : goal.returns-clause-ok
returns-clause-ok c =
    let back = c.make_mut.follows.holds c.put_two_within.new.pages (made c.in_ok-pages.was) in
    let same = owned_words c.args.pages.now.value c.in_ok-pages.pages.now c.in_ok-pages.ensures.value in
    on_ok_weaker c.put_two_within.result (λ put. ap (λ v. words_in v.items) back ∙ put ∙ ap (λ ws. set (set ws c.args.at c.args.low) (c.args.at + 1) c.args.high) same) c.put_two_within.ensures.ok

pub returns-clause-err : goal.returns-clause-err
returns-clause-err c =
    let back = c.make_mut.follows.holds c.put_two_within.new.pages (made c.in_ok-pages.was) in
    let same = owned_words c.args.pages.now.value c.in_ok-pages.pages.now c.in_ok-pages.ensures.value in
    on_err_weaker c.put_two_within.result (λ kept. ap (λ v. words_in v.items) back ∙ kept ∙ same) c.put_two_within.ensures.err
