use Rattle.std.proofs.Common.{◌≡◌, map, drop}
use Rattle.std.specs.Option.{option_map}
use Rattle.typed_ir.specs.Items.{item_of}
use Rattle.width_rules.specs.Entries.{scope_of}
use Rattle.unit_build.specs.Connections.{all_connection_faults}
use Rattle.unit_build.specs.ConnectionNodes.{connection_item}
use Rattle.unit_build.specs.Slots.{put_all}
use Rattle.unit_build.specs.Views.{connected_of}
use Rattle.unit_build.proofs.port_order.put_all.Given as goal

abbrev pub invariant-loop-c : goal.invariant-loop-c
invariant-loop-c l = record {
  ahead : all_connection_faults (scope_of l.scope) (map connected_of (drop l.c-index l.list)) ≡ all_connection_faults (scope_of l.scope) (map connected_of l.list);
  placed : put_all (connection_item (scope_of l.scope) l.child) (map connected_of (drop l.c-index l.list)) (map (option_map item_of) l.places.items)
      ≡ put_all (connection_item (scope_of l.scope) l.child) (map connected_of l.list) (map (option_map item_of) l.initial.places.items);
}
