use Rattle.std.proofs.Common.{◌≡◌, ◌++◌, map, drop}
use Rattle.gen_unroll.specs.SignalViews.{signal_of}
use Rattle.gen_unroll.specs.UnitLists.{data_inputs_from}
use Rattle.gen_unroll.proofs.unit_lists.inputs_of.Given as goal

abbrev pub invariant-loop-k : goal.invariant-loop-k
invariant-loop-k l = l.inputs.items ++ data_inputs_from l.k l.clock (map signal_of (drop l.k l.signals)) ≡ data_inputs_from 0 l.clock (map signal_of l.signals)
