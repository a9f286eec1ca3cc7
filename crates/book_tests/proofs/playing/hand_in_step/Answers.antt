use Rattle.std.proofs.Common.{sym, ◌∙◌}
use Rattle.book_tests.proofs.Tries.{held_beside}
use Rattle.book_tests.proofs.playing.hand_in_step.Goals as goal

pub hand_in-requires : goal.hand_in-requires
hand_in-requires g c = record { out = rw c.in-Some.is at c.parted-chosen.ensures.chosen }

pub put-requires-clause-other : goal.put-requires-clause-other
put-requires-clause-other g c = held_beside _ _ _ _ _ _ _ c.hand_in.ensures (c.has_number.ensures c.if-has_number.false) c.number.ensures c.parted-chosen.ensures.other

pub returns : goal.returns
returns g c = record { first = c.put.ensures.first; second = c.put.ensures.second; closed = c.hand_in.ensures.closed ∙ c.requires.held.closed ∙ sym c.put.ensures.closed }
