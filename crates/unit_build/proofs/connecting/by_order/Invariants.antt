use Rattle.std.proofs.Common.{◌≡◌, ◌++◌, map, drop}
use Rattle.verilog_ast.specs.Views.{by_order_of}
use Rattle.unit_build.specs.Connections.{connected_by_order}
use Rattle.unit_build.specs.Views.{connected_of}
use Rattle.unit_build.proofs.connecting.by_order.Given as goal

abbrev pub invariant-loop-port : goal.invariant-loop-port
invariant-loop-port l =
    map connected_of l.found.items ++ connected_by_order l.child l.port (map by_order_of (drop l.port l.all)) ≡ connected_by_order l.child 0 (map by_order_of l.all)
