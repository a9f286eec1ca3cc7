use Rattle.std.proofs.Common.{◌∙◌, ap, length, refl}
use Rattle.gen_unroll.proofs.NamesInReach.{same_parts}
use Rattle.gen_unroll.proofs.reach.Reach.know.Goals as goal

pub returns-clause-reach : goal.returns-clause-reach
returns-clause-reach c = same_parts _ _ _ _ _ _ c.in_ok-declare.ensures.names c.in_ok-declare.ensures.around refl

pub returns-clause-even : goal.returns-clause-even
returns-clause-even c = ap length c.in_ok-declare.ensures.around ∙ c.requires
