use Rattle.std.proofs.Common.{◌≡◌, map, drop}
use Rattle.verilog_ast.specs.Views.{declared_of}
use Rattle.width_rules.specs.Scopes.{Unknown}
use Rattle.width_rules.specs.Entries.{scope_of, around}
use Rattle.gen_unroll.specs.Declarations.{all_declared, declared_name}
use Rattle.gen_unroll.proofs.hiding.hide_variables.Given as goal

abbrev pub invariant-loop-variable : goal.invariant-loop-variable
invariant-loop-variable l = record {
  names : all_declared Unknown (map declared_name (map declared_of (drop l.variable-index l.variables))) (scope_of l.scope) ≡ all_declared Unknown (map declared_name (map declared_of l.variables)) (scope_of l.initial.scope);
  kept : around l.scope ≡ around l.initial.scope;
}
