use Rattle.std.proofs.Common.{◌≡◌, ◌++◌, map, drop}
use Rattle.verilog_ast.specs.Views.{parameter_of}
use Rattle.verilog_ast.specs.Declarations.{assigned_name}
use Rattle.module_registry.proofs.constant_names.add_parameters.Given as goal

abbrev pub invariant-loop-one : goal.invariant-loop-one
invariant-loop-one l =
    l.names.items ++ map assigned_name (map parameter_of (drop l.one-index l.all)) ≡ l.fn.names.items ++ map assigned_name (map parameter_of l.all)
