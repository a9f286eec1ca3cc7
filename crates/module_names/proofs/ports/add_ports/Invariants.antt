use Rattle.std.proofs.Common.{◌≡◌, ◌++◌, map, drop}
use Rattle.verilog_ast.specs.Views.{port_of}
use Rattle.module_names.specs.Modules.{port_name}
use Rattle.module_names.proofs.ports.add_ports.Given as goal

abbrev pub invariant-loop-port : goal.invariant-loop-port
invariant-loop-port l =
    l.names ++ map port_name (map port_of (drop l.port-index l.ports)) ≡ l.initial.names ++ map port_name (map port_of l.ports)
