use Rattle.std.proofs.Common.{◌≡◌, map, drop}
use Rattle.std.specs.Option.{option_map}
use Rattle.verilog_ast.specs.declared.port_net.PortNet.TheVariants as net
use Rattle.verilog_ast.specs.Views.{declared_of}
use Rattle.gen_unroll.specs.Declarations.{declared_name}
use Rattle.gen_unroll.specs.Views.{bit_range_of, here_of}
use Rattle.gen_unroll.specs.Signals.{with_nets}
use Rattle.gen_unroll.specs.TableViews.{signals_of, IsPlaced}
use Rattle.gen_unroll.proofs.name_ranges.declare_wires.Given as goal

abbrev pub invariant-loop-one : goal.invariant-loop-one
invariant-loop-one l = record {
  left : with_nets (here_of l.here) net.Wire (option_map bit_range_of l.range) l.signed (map declared_name (map declared_of (drop l.one-index l.nets))) (signals_of l.table)
      ≡ with_nets (here_of l.here) net.Wire (option_map bit_range_of l.range) l.signed (map declared_name (map declared_of l.nets)) (signals_of l.initial.table);
  placed : IsPlaced l.table;
}
