use Rattle.std.proofs.Common.{◌∙◌, ◌*◌, ◌^◌, ap}
use Rattle.std.specs.Prelude.{bit_or}
use Rattle.bits.proofs.Modulo.{cut}
use Rattle.word_steps.proofs.short.join.Goals as goal

pub returns : goal.returns
returns c = ap (λ z. bit_or z c.args.y) (c.cut.ensures ∙ cut (c.args.x * 2 ^ c.args.low) 64 c.args.width c.requires.at_most_64)
