use Rattle.std.proofs.Common.{◌≡◌, drop}
use Rattle.comb_order.specs.Parts.{are_undriven}
use Rattle.comb_order.proofs.undriven.are_undriven.Given as goal

abbrev pub invariant-loop-signal : goal.invariant-loop-signal
invariant-loop-signal l = are_undriven l.table (drop l.signal-index l.signals) ≡ are_undriven l.table l.signals
