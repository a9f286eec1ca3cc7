use Rattle.std.proofs.Common.{◌≤◌, ◌<◌, ◌^◌, arith}
use Rattle.std.specs.Prelude.{bit_and}
use Rattle.std.proofs.lemmas.Nat.{and_le_l}
use Rattle.driver_rules.proofs.Bits.{masks_meet}
use Rattle.driver_rules.proofs.taking.meet.Goals as goal

pub returns : goal.returns
returns c =
    let fits : c.args.a < 2 ^ 128 = c.ranges.a.fits in
    let below : bit_and c.args.a c.args.b ≤ c.args.a = and_le_l c.args.a c.args.b in
    masks_meet c.args.a c.args.b (omega (arith, fits, below))
