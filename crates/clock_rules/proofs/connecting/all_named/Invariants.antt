use Rattle.std.proofs.Common.{◌≡◌, [], map, drop}
use Rattle.verilog_ast.specs.Views.{by_name_of}
use Rattle.clock_rules.specs.Connections.{all_named}
use Rattle.clock_rules.proofs.connecting.all_named.Given as goal

abbrev pub invariant-loop-one : goal.invariant-loop-one
invariant-loop-one l =
    all_named l.ports l.before (map by_name_of (drop l.one-index l.all)) ≡ all_named l.ports [] (map by_name_of l.all)
