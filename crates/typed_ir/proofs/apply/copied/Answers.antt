use Rattle.std.proofs.Common.{◌≡◌, ◌<◌, ◌≤◌, ◌+◌, ◌*◌, ◌^◌, ◌∙◌, subst, sym, ap, ap₂, arith}
use Rattle.std.proofs.lemmas.Nat.{mul-le}
use Rattle.bits.proofs.Modulo.{zero_fits}
use Rattle.typed_ir.specs.Sized.{copies}
use Rattle.typed_ir.proofs.Copies.{above, copies_of_none, copies_of_one, copies_fit, one_more, room_for_one}
use Rattle.typed_ir.proofs.apply.copied.Goals as goal

pub returns-then-x-eq0-clause-value : goal.returns-then-x-eq0-clause-value
returns-then-x-eq0-clause-value c =
    let x = c.args.x in
    c.new.ensures.value ∙ zero_fits c.args.width
    ∙ sym (ap (copies c.args.count x.width) c.if-x-eq0.true ∙ copies_of_none c.args.count x.width)

pub returns-then-x-eq1-clause-value : goal.returns-then-x-eq1-clause-value
returns-then-x-eq1-clause-value c =
    let x = c.args.x in
    let none : c.new-then-x-eq1.result.value ≡ 0 = c.new-then-x-eq1.ensures.value ∙ zero_fits c.args.width in
    let single : c.args.count * x.width ≡ c.args.count * 1 = ap (λ k. c.args.count * k) c.if-x-eq1.true in
    let width : c.new-then-x-eq1.result.width ≡ c.args.count = omega (arith, c.new-then-x-eq1.ensures.width, c.requires.product, single) in
    let power : 2 ^ c.new-then-x-eq1.result.width ≡ 2 ^ c.args.count = ap (λ k. 2 ^ k) width in
    let two : 2 ^ x.width ≡ 2 = ap (λ k. 2 ^ k) c.if-x-eq1.true in
    let one : x.value ≡ 1 = omega (arith, two, x.fits, c.if-x-eq0.false) in
    let plain : copies c.args.count x.width x.value ≡ copies c.args.count 1 1 = ap₂ (copies c.args.count) c.if-x-eq1.true one in
    omega (arith, none, power, plain, copies_of_one c.args.count, c.not.ensures.value)

pub loop-done-preserved : goal.loop-done-preserved
loop-done-preserved c =
    let x = c.args.x in
    let so_far = c.loop-done in
    let below : so_far.all < 2 ^ (so_far._done * x.width) =
    subst (λ n. n < 2 ^ (so_far._done * x.width)) (sym so_far.invariant.value) (copies_fit so_far._done x.width x.value x.fits) in
    let few : c.args.count * x.width ≤ 128 = omega (arith, c.requires.product, c.requires.at_most_128) in
    record {
      value = above so_far.all x.value (so_far._done * x.width) x.width below x.fits (room_for_one so_far._done c.args.count x.width c.loop-done-test.true few)
          ∙ ap (λ n. n * 2 ^ x.width + x.value) so_far.invariant.value ∙ sym (one_more so_far._done x.width x.value);
    }

pub invariant_of-result : goal.invariant_of-result
invariant_of-result c =
    let x = c.args.x in
    let all_done : c.loop-done._done ≡ c.args.count = omega (arith, c.loop-done-test.false, c.loop-done.auto._done-end) in
    let width : c.loop-done._done * x.width ≡ c.args.width = ap (λ k. k * x.width) all_done ∙ sym c.requires.product in
    let below : copies c.loop-done._done x.width x.value < 2 ^ c.args.width =
    subst (λ w. copies c.loop-done._done x.width x.value < 2 ^ w) width (copies_fit c.loop-done._done x.width x.value x.fits) in
    record {
      at_least_one = omega (arith, mul-le 1 1 c.args.count x.width c.requires.some x.at_least_one, c.requires.product);
      at_most_128 = c.requires.at_most_128;
      fits = subst (λ n. n < 2 ^ c.args.width) (sym c.loop-done.invariant.value) below;
    }
