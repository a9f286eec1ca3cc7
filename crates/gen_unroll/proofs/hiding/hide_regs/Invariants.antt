use Rattle.std.proofs.Common.{◌≡◌, map, drop}
use Rattle.verilog_ast.specs.Views.{declared_reg_of}
use Rattle.width_rules.specs.Scopes.{Unknown}
use Rattle.width_rules.specs.Entries.{scope_of, around}
use Rattle.gen_unroll.specs.Declarations.{all_declared, declared_reg_name}
use Rattle.gen_unroll.proofs.hiding.hide_regs.Given as goal

abbrev pub invariant-loop-reg : goal.invariant-loop-reg
invariant-loop-reg l = record {
  names : all_declared Unknown (map declared_reg_name (map declared_reg_of (drop l.reg-index l.regs))) (scope_of l.scope) ≡ all_declared Unknown (map declared_reg_name (map declared_reg_of l.regs)) (scope_of l.initial.scope);
  kept : around l.scope ≡ around l.initial.scope;
}
