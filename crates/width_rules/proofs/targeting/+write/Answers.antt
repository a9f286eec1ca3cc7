use Rattle.width_rules.proofs.Listing.{target_written}
use Rattle.width_rules.proofs.targeting.+write.Goals as goal

pub write_all-loop-target-preserved : goal.write_all-loop-target-preserved
write_all-loop-target-preserved t c =
    target_written c.args.targets.now c.loop-target.target-index c.target-item.result _ _ _ _ _ _ _ c.loop-target-test.true c.target-item.is c.loop-target.invariant c.in_ok-next.ensures
