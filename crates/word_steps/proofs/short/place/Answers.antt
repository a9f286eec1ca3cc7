use Rattle.std.proofs.Common.{◌∙◌}
use Rattle.std.specs.Int.{w64}
use Rattle.bits.proofs.Runs.{masked, as_written}
use Rattle.word_steps.proofs.short.place.Goals as goal

pub returns : goal.returns
returns c =
    as_written w64 c.args.y c.args.low c.args.width c.args.x c.ones.result c.ones-2.result c.ones.ensures c.ones-2.ensures c.requires.within
    ∙ masked w64 c.args.y c.args.low c.args.width c.args.x c.ranges.y.fits c.requires.within
