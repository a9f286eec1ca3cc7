use Rattle.std.proofs.Common.{◌≡◌, ◌+◌, ◌*◌, ◌∙◌, length, ap, arith}
use Rattle.std.proofs.lemmas.List.FromFn.{length-range_with_len}
use Rattle.design_steps.proofs.gathering.places_of.Goals as goal

pub gather-requires-clause-room : goal.gather-requires-clause-room
gather-requires-clause-room c =
    let n = 3 * c.args.count + 1 + 2 * length c.args.registers.now in
    let long : length c.deref_mut.result.now ≡ n = ap length (c.deref_mut.ensures.value ∙ c.in_ok-places.ensures) ∙ length-range_with_len 0 n in
    omega (arith, long)

pub gather-requires-clause-own : goal.gather-requires-clause-own
gather-requires-clause-own c =
    let n = 3 * c.args.count + 1 + 2 * length c.args.registers.now in
    let long : length c.deref_mut.result.now ≡ n = ap length (c.deref_mut.ensures.value ∙ c.in_ok-places.ensures) ∙ length-range_with_len 0 n in
    omega (arith, long)

pub gather-requires-clause-next : goal.gather-requires-clause-next
gather-requires-clause-next c =
    let n = 3 * c.args.count + 1 + 2 * length c.args.registers.now in
    let long : length c.deref_mut.result.now ≡ n = ap length (c.deref_mut.ensures.value ∙ c.in_ok-places.ensures) ∙ length-range_with_len 0 n in
    omega (arith, long)
