use Rattle.std.proofs.Common.{◌*◌, ◌==◌, nat_le, arith}
use Rattle.typed_ir.specs.Sized.{width_of, agrees}
use Rattle.typed_ir.specs.Forms.{sized}
use Rattle.design_steps.proofs.Fits.{agree_three, widths_right}
use Rattle.design_steps.proofs.expressions.+lay.Goals as goal

pub lay_repeat-copies_of_one-requires-clause-some : goal.lay_repeat-copies_of_one-requires-clause-some
lay_repeat-copies_of_one-requires-clause-some t c =
    let a = sized c.args.a.now in
    let p = agree_three (c.args.width == c.args.count * width_of a) (nat_le 1 c.args.count) (nat_le c.args.width 128) (agrees a) c.requires in
    omega (arith, (widths_right a p.3).0, c.in_ok-x.ensures.width)
