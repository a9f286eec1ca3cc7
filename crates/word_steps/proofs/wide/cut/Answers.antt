use Rattle.std.proofs.Common.{ap, ◌∙◌}
use Rattle.std.proofs.lemmas.Nat.{and_mask}
use Rattle.std.specs.Prelude.{bit_and}
use Rattle.word_steps.proofs.wide.cut.Goals as goal

pub returns : goal.returns
returns c = ap (bit_and c.args.x) c.ones.ensures ∙ and_mask c.args.x c.args.width
