use Rattle.std.proofs.Common.{◌≡◌, map, drop}
use Rattle.std.specs.Option.{option_map}
use Rattle.verilog_ast.specs.Views.{declared_of}
use Rattle.gen_unroll.specs.Declarations.{declared_name}
use Rattle.gen_unroll.specs.Views.{bit_range_of, here_of}
use Rattle.gen_unroll.specs.Signals.{kind_of_net, with_ports}
use Rattle.gen_unroll.specs.TableViews.{signals_of, IsPlaced}
use Rattle.gen_unroll.proofs.name_ranges.declare_outputs.Given as goal

abbrev pub invariant-loop-port : goal.invariant-loop-port
invariant-loop-port l = record {
  left : with_ports (here_of l.here) (kind_of_net l.net) l.net (option_map bit_range_of l.range) l.signed (map declared_name (map declared_of (drop l.port-index l.ports))) (signals_of l.table)
      ≡ with_ports (here_of l.here) (kind_of_net l.net) l.net (option_map bit_range_of l.range) l.signed (map declared_name (map declared_of l.ports)) (signals_of l.initial.table);
  placed : IsPlaced l.table;
}
