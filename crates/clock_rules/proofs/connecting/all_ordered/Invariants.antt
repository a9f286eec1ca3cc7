use Rattle.std.proofs.Common.{◌≡◌, map, drop}
use Rattle.verilog_ast.specs.Views.{by_order_of}
use Rattle.clock_rules.specs.Connections.{all_ordered}
use Rattle.clock_rules.proofs.connecting.all_ordered.Given as goal

abbrev pub invariant-loop-one : goal.invariant-loop-one
invariant-loop-one l =
    all_ordered l.left (map by_order_of (drop l.one-index l.all)) ≡ all_ordered l.ports (map by_order_of l.all)
