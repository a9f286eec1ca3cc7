use Rattle.width_rules.proofs.Listing.{part_written}
use Rattle.width_rules.proofs.targeting.+connect.Goals as goal

pub connect_all-loop-part-preserved : goal.connect_all-loop-part-preserved
connect_all-loop-part-preserved t c =
    part_written c.args.parts.now c.loop-part.part-index c.part-item.result _ _ _ _ _ _ _ c.loop-part-test.true c.part-item.is c.loop-part.invariant c.in_ok-next.ensures
