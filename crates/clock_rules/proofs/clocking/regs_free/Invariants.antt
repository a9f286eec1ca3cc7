use Rattle.std.proofs.Common.{◌≡◌, map, drop}
use Rattle.verilog_ast.specs.Views.{declared_reg_of}
use Rattle.width_rules.specs.Entries.{scope_of}
use Rattle.clock_rules.specs.Clocks.{all_free, reg_free}
use Rattle.clock_rules.proofs.clocking.regs_free.Given as goal

abbrev pub invariant-loop-one : goal.invariant-loop-one
invariant-loop-one l =
    all_free (reg_free (scope_of l.scope)) (map declared_reg_of (drop l.one-index l.all)) ≡ all_free (reg_free (scope_of l.scope)) (map declared_reg_of l.all)
