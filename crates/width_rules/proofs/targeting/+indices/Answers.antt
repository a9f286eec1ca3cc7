use Rattle.width_rules.specs.Entries.{scope_of}
use Rattle.width_rules.proofs.Listing.{target_read}
use Rattle.width_rules.proofs.targeting.+indices.Goals as goal

pub read_all-loop-target-preserved : goal.read_all-loop-target-preserved
read_all-loop-target-preserved t c =
    target_read (scope_of c.args.scope.now) c.args.targets.now c.loop-target.target-index c.target-item.result _ _ _ _ _ _ _ c.loop-target-test.true c.target-item.is c.loop-target.invariant c.in_ok-next.ensures
