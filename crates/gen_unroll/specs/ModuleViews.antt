-- What the signals of a module of the code mean.
use Rattle.std.specs.Prelude.{List, map}
use Rattle.gen_unroll.specs.declared.signal_table.ModuleSignals.{ModuleSignals}
use Rattle.gen_unroll.specs.Signals.{NamedSignal}
use Rattle.gen_unroll.specs.Numbers.{SignalTable}
use Rattle.gen_unroll.specs.SignalViews.{signal_of}

abbrev pub signals_in : ModuleSignals → List NamedSignal
signals_in m = map signal_of m.signals.items

abbrev pub table_in : ModuleSignals → SignalTable
table_in m = record { signals = signals_in m; declared = m.declared.items }
