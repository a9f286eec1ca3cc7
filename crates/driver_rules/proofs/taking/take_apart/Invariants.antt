use Rattle.std.proofs.Common.{◌≡◌, ◌++◌, drop, take}
use Rattle.typed_ir.specs.Valuations.{any_within}
use Rattle.block_rules.specs.Paths.{true_from, places_of_true}
use Rattle.driver_rules.specs.Doubles.{overlaps}
use Rattle.driver_rules.specs.Told.{marked, Grows}
use Rattle.driver_rules.proofs.taking.take_apart.Given as goal

abbrev pub invariant-loop-k : goal.invariant-loop-k
invariant-loop-k l = record {
  bad : l.bad.items ++ true_from l.k (overlaps (marked l.taken) (drop l.k l.spans)) ≡ places_of_true (overlaps (marked l.initial.taken) l.spans);
  grows : Grows l.by l.initial.taken l.taken l.initial.drivers.items l.drivers.items (any_within (take l.k l.spans));
}
