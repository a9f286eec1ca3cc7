use Rattle.std.proofs.Common.{◌≡◌, [], map, drop}
use Rattle.verilog_ast.specs.Views.{by_order_of}
use Rattle.width_rules.specs.Entries.{scope_of}
use Rattle.gen_unroll.specs.Views.{override_view}
use Rattle.elaborate.specs.Overrides.{by_order}
use Rattle.elaborate.proofs.overriding.by_order.Given as goal

abbrev pub invariant-loop-one : goal.invariant-loop-one
invariant-loop-one l =
    by_order (scope_of l.scope) l.left (map by_order_of (drop l.one-index l.all)) (map override_view l.values.items) ≡ by_order (scope_of l.scope) l.names (map by_order_of l.all) []
