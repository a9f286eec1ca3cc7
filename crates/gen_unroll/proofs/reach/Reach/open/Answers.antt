use Rattle.std.proofs.Common.{map, ap}
use Rattle.gen_unroll.specs.Views.{number_of}
use Rattle.gen_unroll.proofs.NamesInReach.{same_parts, even_more}
use Rattle.gen_unroll.proofs.reach.Reach.open.Goals as goal

pub returns-clause-reach : goal.returns-clause-reach
returns-clause-reach c = same_parts _ _ _ _ _ _ c.in_ok-open_block.ensures.names c.in_ok-open_block.ensures.around (ap (map number_of) c.in_ok-push_front.ensures.items)

pub returns-clause-even : goal.returns-clause-even
returns-clause-even c = even_more _ _ _ _ _ _ c.requires c.in_ok-open_block.ensures.around (ap (map number_of) c.in_ok-push_front.ensures.items)
