use Rattle.std.proofs.Common.{◌≡◌, ◌++◌, map, drop}
use Rattle.typed_ir.specs.Shifts.{shifted_item}
use Rattle.typed_ir.specs.Statements.{item_of}
use Rattle.typed_ir.proofs.shifting.shifted_items.Given as goal

abbrev pub invariant-loop-x : goal.invariant-loop-x
invariant-loop-x l = map item_of l.copies.items ++ map (shifted_item l.first) (map item_of (drop l.x-index l.items)) ≡ map (shifted_item l.first) (map item_of l.items)
