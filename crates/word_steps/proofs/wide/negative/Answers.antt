use Rattle.std.proofs.Common.{◌∙◌, ◌≡◌, ◌+◌, ◌-◌, ◌%◌, ◌^◌, ap, arith}
use Rattle.word_steps.proofs.Halves.{wraps}
use Rattle.word_steps.proofs.wide.negative.Goals as goal

pub returns : goal.returns
returns c =
    let x = c.args.x in
    let w = c.args.width in
    let plain : 0 + (2 ^ w - x % 2 ^ w) ≡ 2 ^ w - x % 2 ^ w = omega arith in
    c.cut.ensures ∙ wraps 0 x 128 w c.ranges.x.fits c.requires.at_most_128 ∙ ap (λ n. n % 2 ^ w) plain
