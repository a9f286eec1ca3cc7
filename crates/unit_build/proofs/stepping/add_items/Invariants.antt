use Rattle.std.proofs.Common.{◌≡◌, ◌++◌, map}
use Rattle.std.specs.Vec.Iter.{into_iter_items}
use Rattle.typed_ir.specs.Items.{item_of}
use Rattle.unit_build.proofs.stepping.add_items.Given as goal

abbrev pub invariant-loop-item : goal.invariant-loop-item
invariant-loop-item l =
    map item_of l.items.items ++ map item_of (into_iter_items l.item-iterator) ≡ map item_of l.initial.items.items ++ map item_of l.fn.more.items
