use Rattle.std.proofs.Common.{◌<◌, ◌+◌, ◌*◌, ◌^◌, ◌≤◌, subst, sym, arith}
use Rattle.typed_ir.proofs.Copies.{above, above_fits}
use Rattle.typed_ir.proofs.apply.joined.Goals as goal

pub invariant_of-result : goal.invariant_of-result
invariant_of-result c =
    let a = c.args.upper in
    let b = c.args.lower in
    let few : a.width + b.width ≤ 128 = omega (arith, c.requires.sum, c.requires.at_most_128) in
    record {
      at_least_one = omega (arith, c.requires.sum, a.at_least_one);
      at_most_128 = c.requires.at_most_128;
      fits = subst (λ n. n < 2 ^ c.args.width) (sym (above a.value b.value a.width b.width a.fits b.fits few))
          (subst (λ w. a.value * 2 ^ b.width + b.value < 2 ^ w) (sym c.requires.sum) (above_fits a.value b.value a.width b.width a.fits b.fits));
    }

pub returns-clause-value : goal.returns-clause-value
returns-clause-value c =
    let a = c.args.upper in
    let b = c.args.lower in
    above a.value b.value a.width b.width a.fits b.fits (omega (arith, c.requires.sum, c.requires.at_most_128))
