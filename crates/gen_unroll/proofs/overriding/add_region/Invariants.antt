use Rattle.std.proofs.Common.{◌≡◌, ◌++◌, map, drop}
use Rattle.verilog_ast.specs.Views.{generate_item_of, items_of}
use Rattle.gen_unroll.specs.Overriding.{item_sorts}
use Rattle.gen_unroll.proofs.overriding.add_region.Given as goal

abbrev pub invariant-loop-item : goal.invariant-loop-item
invariant-loop-item l =
    l.sorts.items ++ item_sorts (items_of (map generate_item_of (drop l.item-index l.items))) ≡ l.fn.sorts.items ++ item_sorts (items_of (map generate_item_of l.items))
