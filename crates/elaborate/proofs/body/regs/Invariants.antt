use Rattle.std.proofs.Common.{◌≡◌, map, drop}
use Rattle.std.specs.Option.{option_map}
use Rattle.verilog_ast.specs.Views.{declared_reg_of}
use Rattle.gen_unroll.specs.ReachViews.{reach_of}
use Rattle.gen_unroll.specs.Views.{bit_range_of}
use Rattle.elaborate.specs.Checks.{each, reg}
use Rattle.elaborate.specs.Views.{checked_of}
use Rattle.elaborate.proofs.body.regs.Given as goal

abbrev pub invariant-loop-reg : goal.invariant-loop-reg
invariant-loop-reg l =
    each (reg (reach_of l.here) (option_map bit_range_of l.range) l.shape.signed) (map declared_reg_of (drop l.reg-index l.regs)) (checked_of l.check)
    ≡ each (reg (reach_of l.here) (option_map bit_range_of l.range) l.shape.signed) (map declared_reg_of l.regs) (checked_of l.initial.check)
