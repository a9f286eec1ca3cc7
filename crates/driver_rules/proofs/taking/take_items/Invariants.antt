use Rattle.std.proofs.Common.{◌≡◌, map, drop, take}
use Rattle.typed_ir.specs.Valuations.{nowhere}
use Rattle.typed_ir.specs.Items.{item_of}
use Rattle.driver_rules.specs.Doubles.{double_faults}
use Rattle.driver_rules.specs.Told.{marked}
use Rattle.driver_rules.proofs.Taken.{State}
use Rattle.driver_rules.proofs.taking.take_items.Given as goal

abbrev pub invariant-loop-item : goal.invariant-loop-item
invariant-loop-item l = record {
  ahead : double_faults (marked l.taken) (map item_of (drop l.item-index l.items)) ≡ double_faults nowhere (map item_of l.items);
  state : State (map item_of (take l.item-index l.items)) l.numbers l.taken l.drivers.items;
}
