use Rattle.std.proofs.Common.{length}
use Rattle.typed_ir.specs.Items.{PlacedItem}
use Rattle.driver_rules.specs.Writes.{AreWithin, spans_of}
use Rattle.driver_rules.proofs.Walks.{each_item}
use Rattle.driver_rules.proofs.pathing.check_items.Goals as goal

pub check_item-requires-clause-within : goal.check_item-requires-clause-within
check_item-requires-clause-within c =
    each_item (λ (y : PlacedItem). AreWithin (length c.args.declarations.now) (spans_of y.body)) c.args.items.now c.loop-item.item-index c.item-item.result
    c.requires.within c.loop-item-test.true c.item-item.is
