use Rattle.std.proofs.Common.{◌≡◌, map, drop}
use Rattle.verilog_ast.specs.Views.{item_of, items_of}
use Rattle.width_rules.specs.Entries.{scope_of, around}
use Rattle.gen_unroll.specs.UnitReaches.{hidden}
use Rattle.gen_unroll.proofs.hiding.hide_module_items.Given as goal

abbrev pub invariant-loop-item : goal.invariant-loop-item
invariant-loop-item l = record {
  names : hidden (items_of (map item_of (drop l.item-index l.items))) (scope_of l.scope) ≡ hidden (items_of (map item_of l.items)) (scope_of l.initial.scope);
  kept : around l.scope ≡ around l.initial.scope;
}
