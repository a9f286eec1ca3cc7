use Rattle.std.proofs.Common.{◌≡◌, drop}
use Rattle.comb_order.specs.Parts.{are_idle}
use Rattle.comb_order.proofs.undriven.are_idle.Given as goal

abbrev pub invariant-loop-driver : goal.invariant-loop-driver
invariant-loop-driver l = are_idle (drop l.driver-index l.row) ≡ are_idle l.row
