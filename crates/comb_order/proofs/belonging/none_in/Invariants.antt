use Rattle.std.proofs.Common.{◌≡◌, drop}
use Rattle.comb_order.specs.Parts.{none_in}
use Rattle.comb_order.proofs.belonging.none_in.Given as goal

abbrev pub invariant-loop-x : goal.invariant-loop-x
invariant-loop-x l = none_in l.all.listed.now (drop l.x-index l.xs) ≡ none_in l.all.listed.now l.xs
