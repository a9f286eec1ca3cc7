use Rattle.std.proofs.Common.{◌≡◌, ◌++◌, map, drop}
use Rattle.typed_ir.specs.Units.{signal_within}
use Rattle.gen_unroll.specs.SignalViews.{signal_of}
use Rattle.gen_unroll.specs.UnitLists.{unit_signals}
use Rattle.gen_unroll.proofs.unit_lists.called.Given as goal

abbrev pub invariant-loop-signal : goal.invariant-loop-signal
invariant-loop-signal l =
    map signal_within l.all.items ++ unit_signals l.in_module.0 l.rest (map signal_of (drop l.signal-index l.signals)) ≡ unit_signals l.in_module.0 l.names (map signal_of l.signals)
