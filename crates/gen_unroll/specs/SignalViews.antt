-- What the signals of the code mean.
use Rattle.std.specs.Option.{option_map}
use Rattle.gen_unroll.specs.Views.{bit_range_of, here_of}
use Rattle.gen_unroll.specs.declared.named_signal.NamedSignal.{NamedSignal as Named}
use Rattle.gen_unroll.specs.declared.block_signal.BlockSignal.{BlockSignal}
use Rattle.gen_unroll.specs.Signals.{NamedSignal}
use Rattle.gen_unroll.specs.Numbers.{NumberedSignal}

abbrev pub signal_of : Named → NamedSignal
signal_of x = record {
  block = here_of x.block;
  name = x.name;
  kind = x.kind;
  range = option_map bit_range_of x.range;
  signed = x.signed;
  port = x.port;
  net = x.net;
  order = x.order;
}

abbrev pub numbered_of : BlockSignal → NumberedSignal
numbered_of x = record { number = x.number; signal = signal_of x.signal }
