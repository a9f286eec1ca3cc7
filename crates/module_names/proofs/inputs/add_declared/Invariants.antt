use Rattle.std.proofs.Common.{◌≡◌, ◌++◌, true, map, drop}
use Rattle.verilog_ast.specs.Views.{port_of}
use Rattle.module_names.specs.Modules.{declared_inputs}
use Rattle.module_names.proofs.inputs.add_declared.Given as goal

abbrev pub invariant-loop-port : goal.invariant-loop-port
invariant-loop-port l =
    l.names ++ declared_inputs l.input (map port_of (drop l.port-index l.ports)) ≡ l.initial.names ++ declared_inputs true (map port_of l.ports)
