use Rattle.width_rules.specs.Entries.{scope_of}
use Rattle.width_rules.specs.Mentions.{listing_of}
use Rattle.width_rules.proofs.Listing.{label_listed}
use Rattle.width_rules.proofs.asking.list_labels.Goals as goal

pub loop-label-preserved : goal.loop-label-preserved
loop-label-preserved c =
    label_listed (listing_of (scope_of c.args.scope.now) c.args.asked) c.args.labels.now c.loop-label.label-index c.label-item.result _ _ _ _ _ _ _ c.loop-label-test.true c.label-item.is c.loop-label.invariant c.in_ok-next.ensures
