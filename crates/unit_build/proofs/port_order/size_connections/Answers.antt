use Rattle.std.proofs.Common.{◌++◌, ◌∙◌, List, map, ap}
use Rattle.std.specs.Prelude.{Option}
use Rattle.typed_ir.specs.Items.{PlacedItem, item_of}
use Rattle.width_rules.specs.Entries.{scope_of}
use Rattle.unit_build.specs.ConnectionNodes.{connection_item}
use Rattle.unit_build.specs.Slots.{put_all, listed}
use Rattle.unit_build.specs.Views.{connected_of}
use Rattle.unit_build.proofs.Placed.{all_placed}
use Rattle.unit_build.proofs.port_order.size_connections.Goals as goal

pub returns-clause-items : goal.returns-clause-items
returns-clause-items c =
    let scope = scope_of c.args.scope.now in
    let cs = map connected_of c.args.list.now in
    let old = map item_of c.args.items.now.items in
    c.in_ok-add_items.ensures
    ∙ ap (λ (ss : List (Option PlacedItem)). old ++ listed ss)
    (c.in_ok-put_all.ensures.places ∙ ap (λ (ss : List (Option PlacedItem)). put_all (connection_item scope c.args.child) cs ss) c.in_ok-places.ensures)
    ∙ ap (λ (xs : List PlacedItem). old ++ xs) (all_placed scope c.args.child cs c.args.ports.now)
