use Rattle.std.proofs.Common.{◌≡◌, ◌+◌, ◌∙◌, get_or, length, refl, ap, arith}
use Rattle.std.specs.List.{swap}
use Rattle.std.proofs.lemmas.List.{get_or_default}
use Rattle.typed_ir.proofs.Lists.{below_read}
use Rattle.design_steps.proofs.Gathered.{both_swapped, both_long, gather_more}
use Rattle.design_steps.proofs.gathering.gather.Goals as goal

pub place_above-place-requires : goal.place_above-place-requires
place_above-place-requires c =
    let rs = c.args.registers.now in
    let i = c.loop-register.register-index in
    let inv = c.loop-register.invariant in
    let is : c.register-item.result ≡ get_or rs i 0 = c.register-item.is ∙ get_or_default rs i c.register-item.result 0 c.loop-register-test.true in
    let less = below_read rs c.args.count i c.requires.below c.loop-register-test.true in
    omega (arith, is, less, c.index.ensures, inv.long, c.requires.room)

pub swap_both-requires-clause-there : goal.swap_both-requires-clause-there
swap_both-requires-clause-there c =
    let rs = c.args.registers.now in
    let i = c.loop-register.register-index in
    let inv = c.loop-register.invariant in
    let is : c.register-item.result ≡ get_or rs i 0 = c.register-item.is ∙ get_or_default rs i c.register-item.result 0 c.loop-register-test.true in
    let less = below_read rs c.args.count i c.requires.below c.loop-register-test.true in
    omega (arith, is, less, c.index.ensures, c.place_above-place.ensures, inv.long, c.requires.room)

pub swap_both-requires-clause-own : goal.swap_both-requires-clause-own
swap_both-requires-clause-own c =
    let inv = c.loop-register.invariant in
    let less = c.loop-register-test.true in
    omega (arith, less, inv.first, inv.long, c.requires.own)

pub swap_both-requires-clause-next : goal.swap_both-requires-clause-next
swap_both-requires-clause-next c =
    let inv = c.loop-register.invariant in
    let less = c.loop-register-test.true in
    omega (arith, less, inv.second, inv.long, c.requires.next)

pub loop-register-preserved : goal.loop-register-preserved
loop-register-preserved c =
    let rs = c.args.registers.now in
    let i = c.loop-register.register-index in
    let t = c.loop-register.table in
    let n = c.args.count in
    let inv = c.loop-register.invariant in
    let is : c.register-item.result ≡ get_or rs i 0 = c.register-item.is ∙ get_or_default rs i c.register-item.result 0 c.loop-register-test.true in
    let place : c.place_above-place.result ≡ c.register-item.result + 1 = c.place_above-place.ensures ∙ ap (λ k. k + 1) c.index.ensures in
    let more : c.swap_both.new.table ≡ both_swapped t n c.loop-register.first c.loop-register.second c.register-item.result =
    c.swap_both.ensures ∙ ap (λ k. swap (swap t k c.loop-register.first) (k + n) c.loop-register.second) place in
    record {
      long = ap length more ∙ both_long t n c.loop-register.first c.loop-register.second c.register-item.result ∙ inv.long;
      first = omega (arith, inv.first);
      second = omega (arith, inv.second);
      left = gather_more rs i n c.loop-register.first c.loop-register.second (c.loop-register.first + 1) (c.loop-register.second + 1) t c.swap_both.new.table c.register-item.result
          c.loop-register-test.true is refl refl more ∙ inv.left;
    }
