use Rattle.std.proofs.Common.{map, ap}
use Rattle.gen_unroll.specs.Views.{number_of}
use Rattle.gen_unroll.proofs.NamesInReach.{closed_some, even_less, even_some}
use Rattle.gen_unroll.proofs.reach.Reach.close.Goals as goal

pub close_block-requires : goal.close_block-requires
close_block-requires c = even_some _ _ _ _ c.requires (ap (map number_of) c.in-Some.ensures.items)

pub returns-in-Some-clause-reach : goal.returns-in-Some-clause-reach
returns-in-Some-clause-reach c = closed_some _ _ _ _ _ _ _ c.close_block.ensures (ap (map number_of) c.in-Some.ensures.items)

pub returns-in-Some-clause-even : goal.returns-in-Some-clause-even
returns-in-Some-clause-even c = even_less _ _ _ _ _ _ c.requires c.close_block.ensures (ap (map number_of) c.in-Some.ensures.items)
