use Rattle.std.proofs.Common.{◌≡◌, nat_le, drop}
use Rattle.link.specs.Copies.{all_sized, nodes_in}
use Rattle.link.specs.Listings.{all_parts}
use Rattle.link.proofs.flattening.are_few.Given as goal

abbrev pub invariant-loop-unit : goal.invariant-loop-unit
invariant-loop-unit l = nat_le (nodes_in (all_sized (all_parts (drop l.unit-index l.units)))) l.left ≡ nat_le (nodes_in (all_sized (all_parts l.units))) l.most
