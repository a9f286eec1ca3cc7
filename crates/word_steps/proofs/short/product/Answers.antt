use Rattle.std.proofs.Common.{◌∙◌, ◌*◌}
use Rattle.bits.proofs.Modulo.{cut}
use Rattle.word_steps.proofs.short.product.Goals as goal

pub returns : goal.returns
returns c = c.cut.ensures ∙ cut (c.args.x * c.args.y) 64 c.args.width c.requires.at_most_64
