use Rattle.std.proofs.Common.{◌≡◌, ◌++◌, map, drop}
use Rattle.gen_unroll.specs.SignalViews.{signal_of}
use Rattle.unit_build.specs.Settled.{none_of}
use Rattle.unit_build.proofs.settling.none_of.Given as goal

abbrev pub invariant-loop : goal.invariant-loop
invariant-loop l = l.flags.items ++ none_of (map signal_of (drop l.index l.signals)) ≡ none_of (map signal_of l.signals)
