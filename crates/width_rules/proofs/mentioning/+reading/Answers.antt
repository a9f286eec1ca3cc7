use Rattle.width_rules.specs.Entries.{scope_of}
use Rattle.width_rules.proofs.Listing.{part_read}
use Rattle.width_rules.proofs.Noted.{notes_two}
use Rattle.width_rules.proofs.mentioning.+reading.Goals as goal

pub read_both-returns : goal.read_both-returns
read_both-returns t c = notes_two _ _ _ _ _ _ _ _ c.in_ok-next.ensures c.in_ok-end.ensures

pub read_three-returns : goal.read_three-returns
read_three-returns t c =
    notes_two _ _ _ _ _ _ _ _ c.in_ok-next.ensures (notes_two _ _ _ _ _ _ _ _ c.in_ok-after.ensures c.in_ok-end.ensures)

pub read_select-returns : goal.read_select-returns
read_select-returns t c = notes_two _ _ _ _ _ _ _ _ c.in_ok-next.ensures c.in_ok-end.ensures

pub read_parts-loop-part-preserved : goal.read_parts-loop-part-preserved
read_parts-loop-part-preserved t c =
    part_read (scope_of c.args.scope.now) c.args.parts.now c.loop-part.part-index c.part-item.result _ _ _ _ _ _ _ c.loop-part-test.true c.part-item.is c.loop-part.invariant c.in_ok-next.ensures
