use Rattle.std.proofs.Common.{◌≡◌, map, drop}
use Rattle.std.specs.Option.{option_map}
use Rattle.verilog_ast.specs.declared.port_net.PortNet.TheVariants as net
use Rattle.verilog_ast.specs.Views.{declared_reg_of}
use Rattle.gen_unroll.specs.Declarations.{declared_reg_name}
use Rattle.gen_unroll.specs.Views.{bit_range_of, here_of}
use Rattle.gen_unroll.specs.Signals.{with_nets}
use Rattle.gen_unroll.specs.TableViews.{signals_of, IsPlaced}
use Rattle.gen_unroll.proofs.name_ranges.declare_regs.Given as goal

abbrev pub invariant-loop-one : goal.invariant-loop-one
invariant-loop-one l = record {
  left : with_nets (here_of l.here) net.Reg (option_map bit_range_of l.range) l.signed (map declared_reg_name (map declared_reg_of (drop l.one-index l.regs))) (signals_of l.table)
      ≡ with_nets (here_of l.here) net.Reg (option_map bit_range_of l.range) l.signed (map declared_reg_name (map declared_reg_of l.regs)) (signals_of l.initial.table);
  placed : IsPlaced l.table;
}
