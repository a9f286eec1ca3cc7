use Rattle.std.proofs.Common.{◌≡◌, map, drop}
use Rattle.std.specs.Prelude.{None}
use Rattle.verilog_ast.specs.Views.{by_order_of, declaration_of}
use Rattle.width_rules.specs.Entries.{scope_of}
use Rattle.clock_rules.specs.Clocks.{clock_by_order}
use Rattle.clock_rules.specs.Views.{clock_view}
use Rattle.clock_rules.proofs.clocking.clock_by_order.Given as goal

abbrev pub invariant-loop-one : goal.invariant-loop-one
invariant-loop-one l =
    clock_by_order (declaration_of l.of.body.now) (scope_of l.scope) l.left (map by_order_of (drop l.one-index l.all)) (clock_view l.clock) ≡ clock_by_order (declaration_of l.of.body.now) (scope_of l.scope) l.ports (map by_order_of l.all) None
