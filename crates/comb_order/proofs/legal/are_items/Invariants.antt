use Rattle.std.proofs.Common.{◌≡◌, map, drop}
use Rattle.typed_ir.specs.Stmts.{are_items}
use Rattle.typed_ir.specs.Statements.{item_of}
use Rattle.typed_ir.specs.Views.{widths}
use Rattle.comb_order.proofs.legal.are_items.Given as goal

abbrev pub invariant-loop-item : goal.invariant-loop-item
invariant-loop-item l = are_items (map item_of (drop l.item-index l.items)) (widths l.env) ≡ are_items (map item_of l.items) (widths l.env)
