use Rattle.std.proofs.Common.{◌≡◌, ◌++◌, map, drop}
use Rattle.verilog_ast.specs.Views.{item_of, items_of}
use Rattle.module_names.specs.Modules.{item_parameters}
use Rattle.module_names.proofs.parameters.add_items.Given as goal

abbrev pub invariant-loop-item : goal.invariant-loop-item
invariant-loop-item l =
    l.names ++ item_parameters (items_of (map item_of (drop l.item-index l.items))) ≡ l.initial.names ++ item_parameters (items_of (map item_of l.items))
