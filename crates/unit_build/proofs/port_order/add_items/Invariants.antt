use Rattle.std.proofs.Common.{◌≡◌, ◌++◌, map}
use Rattle.std.specs.Option.{option_map}
use Rattle.std.specs.Vec.Iter.{into_iter_items}
use Rattle.typed_ir.specs.Items.{item_of}
use Rattle.unit_build.specs.Slots.{listed}
use Rattle.unit_build.proofs.port_order.add_items.Given as goal

abbrev pub invariant-loop-place : goal.invariant-loop-place
invariant-loop-place l =
    map item_of l.items.items ++ listed (map (option_map item_of) (into_iter_items l.place-iterator))
    ≡ map item_of l.initial.items.items ++ listed (map (option_map item_of) l.fn.places.items)
