use Rattle.std.proofs.Common.{◌≡◌, ◌+◌, ◌<◌, ◌≤◌, length, sym, ap, ◌∙◌, subst, arith}
use Rattle.design_steps.specs.Layings.{own}
use Rattle.design_steps.proofs.Counting.{run_in, run_out}
use Rattle.design_steps.proofs.signal_words.own_place.Goals as goal

pub returns-in-Some : goal.returns-in-Some
returns-in-Some c =
    let n = length c.args.layout.now.widths.items in
    let s = c.index-number.result in
    let there : s < n = subst (λ xs. s < length xs) c.deref.ensures.value c.in-Some.ensures.lookup.3.0 in
    (let next : s + 1 ≡ 1 + s = omega arith in next) ∙ sym (run_in 1 n s there) ∙ ap (own n) c.index-number.ensures

pub returns-in-None : goal.returns-in-None
returns-in-None c =
    let n = length c.args.layout.now.widths.items in
    let s = c.index-number.result in
    let beyond : n ≤ s = subst (λ xs. length xs ≤ s) c.deref.ensures.value c.in-None.ensures.lookup.3 in
    sym (run_out 1 n s beyond) ∙ ap (own n) c.index-number.ensures
