use Rattle.std.proofs.Common.{◌≡◌, drop}
use Rattle.typed_ir.specs.Flats.{are_below}
use Rattle.comb_order.proofs.legal.are_below.Given as goal

abbrev pub invariant-loop-number : goal.invariant-loop-number
invariant-loop-number l = are_below (drop l.number-index l.numbers) l.count ≡ are_below l.numbers l.count
