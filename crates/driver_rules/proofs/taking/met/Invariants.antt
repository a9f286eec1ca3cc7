use Rattle.std.proofs.Common.{◌≡◌, ◌++◌, map, drop}
use Rattle.block_rules.specs.Paths.{true_from, places_of_true}
use Rattle.driver_rules.specs.Doubles.{meets}
use Rattle.driver_rules.specs.Told.{marked}
use Rattle.driver_rules.proofs.taking.met.Given as goal

abbrev pub invariant-loop-k : goal.invariant-loop-k
invariant-loop-k l = l.bad.items ++ true_from l.k (map (meets (marked l.taken)) (drop l.k l.spans)) ≡ places_of_true (map (meets (marked l.taken)) l.spans)
