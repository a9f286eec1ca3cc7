use Rattle.std.proofs.Common.{◌≡◌, ◌++◌, map, drop}
use Rattle.verilog_ast.specs.Declarations.{header_parameter_name}
use Rattle.verilog_ast.specs.Views.{header_parameter_of}
use Rattle.module_names.proofs.parameters.add_header.Given as goal

abbrev pub invariant-loop-one : goal.invariant-loop-one
invariant-loop-one l =
    l.names ++ map header_parameter_name (map header_parameter_of (drop l.one-index l.all)) ≡ l.initial.names ++ map header_parameter_name (map header_parameter_of l.all)
