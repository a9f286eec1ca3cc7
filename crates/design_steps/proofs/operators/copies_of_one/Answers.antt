use Rattle.std.proofs.Common.{◌-◌, ◌/◌, ◌^◌, ◌<◌, ap, ap₂, ◌∙◌, arith}
use Rattle.std.proofs.lemmas.Nat.{mul-le, pow_below}
use Rattle.design_steps.proofs.CopiesOfOne.{by_quotient}
use Rattle.design_steps.proofs.operators.copies_of_one.Goals as goal

pub ones-requires-clause-at_least_one : goal.ones-requires-clause-at_least_one
ones-requires-clause-at_least_one c =
    omega (arith, c.requires.total, mul-le 1 1 c.args.count c.args.width (omega (arith, c.if-count-eq0.false)) c.requires.some)

pub ones-requires-2-clause-at_most_128 : goal.ones-requires-2-clause-at_most_128
ones-requires-2-clause-at_most_128 c =
    omega (arith, c.requires.total, c.requires.few, mul-le 1 c.args.width c.args.count c.args.width (omega (arith, c.if-count-eq0.false)) (omega arith))

pub nonzero_div-result : goal.nonzero_div-result
nonzero_div-result c =
    let more : 2 ^ 0 < 2 ^ c.args.width = pow_below 0 c.args.width (omega (arith, c.requires.some)) in
    omega (arith, c.ones-2.ensures, more)

pub returns : goal.returns
returns c =
    ap₂ (λ a b. a / b) c.ones.ensures c.ones-2.ensures
    ∙ ap (λ k. (2 ^ k - 1) / (2 ^ c.args.width - 1)) c.requires.total ∙ by_quotient c.args.count c.args.width c.requires.some
