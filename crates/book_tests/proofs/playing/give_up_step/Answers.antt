use Rattle.std.proofs.Common.{sym, ◌∙◌}
use Rattle.book_tests.proofs.Tries.{held_beside}
use Rattle.book_tests.proofs.playing.give_up_step.Goals as goal

pub give_up-requires : goal.give_up-requires
give_up-requires c = record { out = rw c.in-Some.is at c.parted-chosen.ensures.chosen }

pub put-requires-clause-other : goal.put-requires-clause-other
put-requires-clause-other c = held_beside _ _ _ _ _ _ _ c.give_up.ensures (c.has_number.ensures c.if-has_number.false) c.number.ensures c.parted-chosen.ensures.other

pub returns : goal.returns
returns c = record { first = c.put.ensures.first; second = c.put.ensures.second; closed = c.give_up.ensures.closed ∙ c.requires.held.closed ∙ sym c.put.ensures.closed }
