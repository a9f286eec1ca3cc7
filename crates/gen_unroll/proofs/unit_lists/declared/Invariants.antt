use Rattle.std.proofs.Common.{◌≡◌, ◌++◌, map, drop}
use Rattle.gen_unroll.specs.SignalViews.{signal_of}
use Rattle.gen_unroll.specs.UnitLists.{declarations_of}
use Rattle.gen_unroll.proofs.unit_lists.declared.Given as goal

abbrev pub invariant-loop-signal : goal.invariant-loop-signal
invariant-loop-signal l = l.all.items ++ declarations_of (map signal_of (drop l.signal-index l.signals)) ≡ declarations_of (map signal_of l.signals)
