use Rattle.std.proofs.Common.{◌≡◌, ◌++◌, drop}
use Rattle.block_rules.specs.Paths.{true_from, places_of_true}
use Rattle.block_rules.proofs.paths.true_places.Given as goal

abbrev pub invariant-loop-place : goal.invariant-loop-place
invariant-loop-place l = l.places.items ++ true_from l.place (drop l.place l.flags) ≡ places_of_true l.flags
