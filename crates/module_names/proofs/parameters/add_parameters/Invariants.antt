use Rattle.std.proofs.Common.{◌≡◌, ◌++◌, map, drop}
use Rattle.verilog_ast.specs.Views.{parameter_of}
use Rattle.verilog_ast.specs.Declarations.{assigned_name}
use Rattle.module_names.proofs.parameters.add_parameters.Given as goal

abbrev pub invariant-loop-one : goal.invariant-loop-one
invariant-loop-one l =
    l.names ++ map assigned_name (map parameter_of (drop l.one-index l.all)) ≡ l.initial.names ++ map assigned_name (map parameter_of l.all)
