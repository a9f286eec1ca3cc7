use Rattle.std.proofs.Common.{◌≡◌, ◌++◌, map, drop}
use Rattle.verilog_ast.specs.Views.{by_name_of}
use Rattle.unit_build.specs.Connections.{connected_by_name}
use Rattle.unit_build.specs.Views.{connected_of}
use Rattle.unit_build.proofs.connecting.by_name.Given as goal

abbrev pub invariant-loop-one : goal.invariant-loop-one
invariant-loop-one l =
    map connected_of l.found.items ++ connected_by_name l.child (map by_name_of (drop l.one-index l.all)) ≡ connected_by_name l.child (map by_name_of l.all)
