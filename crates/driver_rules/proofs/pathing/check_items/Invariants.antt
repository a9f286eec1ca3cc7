use Rattle.std.proofs.Common.{◌≡◌, map, drop, length}
use Rattle.block_rules.specs.Tables.{signals_of, AreBlank}
use Rattle.typed_ir.specs.Items.{item_of}
use Rattle.typed_ir.specs.Units.{signal_within}
use Rattle.driver_rules.specs.Blocks.{block_faults}
use Rattle.driver_rules.proofs.pathing.check_items.Given as goal

abbrev pub invariant-loop-item : goal.invariant-loop-item
invariant-loop-item l = record {
  ahead : block_faults (map signal_within l.signals) l.declarations (map item_of (drop l.item-index l.items))
      ≡ block_faults (map signal_within l.signals) l.declarations (map item_of l.items);
  blank : AreBlank l.tables;
  size : signals_of l.tables ≡ length l.declarations;
}
