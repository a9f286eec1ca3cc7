use Rattle.std.proofs.Common.{◌≡◌, ◌++◌, filter, map, drop}
use Rattle.gen_unroll.specs.Numbers.{is_no_port}
use Rattle.gen_unroll.specs.NumberingViews.{numbered_in, IsNumbered}
use Rattle.gen_unroll.specs.SignalViews.{signal_of}
use Rattle.gen_unroll.proofs.heading.add_others.Given as goal

abbrev pub invariant-loop-signal : goal.invariant-loop-signal
invariant-loop-signal l = record {
  left : numbered_in l.numbering ++ filter is_no_port (map signal_of (drop l.signal-index l.signals)) ≡ numbered_in l.initial.numbering ++ filter is_no_port (map signal_of l.signals);
  numbered : IsNumbered l.numbering;
}
