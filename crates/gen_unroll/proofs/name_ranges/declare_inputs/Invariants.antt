use Rattle.std.proofs.Common.{◌≡◌, drop}
use Rattle.std.specs.Option.{option_map}
use Rattle.typed_ir.specs.declared.signal_kind.SignalKind.TheVariants as kind
use Rattle.gen_unroll.specs.Views.{bit_range_of, here_of}
use Rattle.gen_unroll.specs.Signals.{with_ports}
use Rattle.gen_unroll.specs.TableViews.{signals_of, IsPlaced}
use Rattle.gen_unroll.proofs.name_ranges.declare_inputs.Given as goal

abbrev pub invariant-loop-name : goal.invariant-loop-name
invariant-loop-name l = record {
  left : with_ports (here_of l.here) kind.Input l.net (option_map bit_range_of l.range) l.signed (drop l.name-index l.names) (signals_of l.table)
      ≡ with_ports (here_of l.here) kind.Input l.net (option_map bit_range_of l.range) l.signed l.names (signals_of l.initial.table);
  placed : IsPlaced l.table;
}
