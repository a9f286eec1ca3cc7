use Rattle.std.proofs.Common.{◌≡◌, ◌++◌, map, drop}
use Rattle.verilog_ast.specs.Views.{generate_item_of, items_of}
use Rattle.module_registry.specs.Constants.{item_constants}
use Rattle.module_registry.proofs.constant_names.add_region.Given as goal

abbrev pub invariant-loop-item : goal.invariant-loop-item
invariant-loop-item l =
    l.names.items ++ item_constants (items_of (map generate_item_of (drop l.item-index l.items))) ≡ l.fn.names.items ++ item_constants (items_of (map generate_item_of l.items))
