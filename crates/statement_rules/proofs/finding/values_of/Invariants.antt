use Rattle.std.proofs.Common.{◌≡◌, ◌++◌, map, drop}
use Rattle.verilog_ast.specs.Views.{declared_of}
use Rattle.statement_rules.specs.DeclaredValues.{values_of}
use Rattle.statement_rules.specs.Views.{declared_value_of}
use Rattle.statement_rules.proofs.finding.values_of.Given as goal

abbrev pub invariant-loop-variable : goal.invariant-loop-variable
invariant-loop-variable l =
    map declared_value_of l.found.items ++ values_of l.kind (map declared_of (drop l.variable-index l.variables)) ≡ values_of l.kind (map declared_of l.variables)
