use Rattle.std.proofs.Common.{◌∙◌}
use Rattle.word_steps.proofs.Halves.{flips}
use Rattle.word_steps.proofs.wide.inverse.Goals as goal

pub returns : goal.returns
returns c = c.cut.ensures ∙ flips c.args.x 128 c.args.width c.ranges.x.fits c.requires.at_most_128
