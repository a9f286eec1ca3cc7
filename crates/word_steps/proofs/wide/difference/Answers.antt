use Rattle.std.proofs.Common.{◌∙◌}
use Rattle.word_steps.proofs.Halves.{wraps}
use Rattle.word_steps.proofs.wide.difference.Goals as goal

pub returns : goal.returns
returns c = c.cut.ensures ∙ wraps c.args.x c.args.y 128 c.args.width c.ranges.y.fits c.requires.at_most_128
