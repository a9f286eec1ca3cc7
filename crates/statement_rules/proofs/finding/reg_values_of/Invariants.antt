use Rattle.std.proofs.Common.{◌≡◌, ◌++◌, map, drop}
use Rattle.verilog_ast.specs.Views.{declared_reg_of}
use Rattle.statement_rules.specs.DeclaredValues.{reg_values_of}
use Rattle.statement_rules.specs.Views.{declared_value_of}
use Rattle.statement_rules.proofs.finding.reg_values_of.Given as goal

abbrev pub invariant-loop-reg : goal.invariant-loop-reg
invariant-loop-reg l =
    map declared_value_of l.found.items ++ reg_values_of (map declared_reg_of (drop l.reg-index l.regs)) ≡ reg_values_of (map declared_reg_of l.regs)
