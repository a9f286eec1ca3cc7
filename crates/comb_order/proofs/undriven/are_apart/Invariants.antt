use Rattle.std.proofs.Common.{◌≡◌, drop}
use Rattle.comb_order.specs.Parts.{are_apart}
use Rattle.comb_order.proofs.undriven.are_apart.Given as goal

abbrev pub invariant-loop-driver : goal.invariant-loop-driver
invariant-loop-driver l = are_apart l.taken (drop l.driver-index l.row) ≡ are_apart 0 l.row
