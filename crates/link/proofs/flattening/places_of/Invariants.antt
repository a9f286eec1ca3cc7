use Rattle.std.proofs.Common.{◌≡◌, ◌++◌, drop}
use Rattle.link.specs.Copies.{places_of}
use Rattle.link.proofs.flattening.places_of.Given as goal

abbrev pub invariant-loop-x : goal.invariant-loop-x
invariant-loop-x l = l.rows.items ++ places_of (drop l.x-index l.instances) ≡ places_of l.instances
