use Rattle.std.proofs.Common.{◌∙◌, ◌+◌}
use Rattle.bits.proofs.Modulo.{cut}
use Rattle.word_steps.proofs.wide.sum.Goals as goal

pub returns : goal.returns
returns c = c.cut.ensures ∙ cut (c.args.x + c.args.y) 128 c.args.width c.requires.at_most_128
