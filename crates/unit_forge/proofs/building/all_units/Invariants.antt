use Rattle.std.proofs.Common.{◌≡◌}
use Rattle.std.specs.Vec.Iter.{into_iter_items}
use Rattle.unit_forge.specs.Results.{all_of}
use Rattle.unit_forge.proofs.Together.{behind}
use Rattle.unit_forge.proofs.building.all_units.Given as goal

-- the units so far, and what is left
abbrev pub invariant-loop-result : goal.invariant-loop-result
invariant-loop-result l = behind l.units.items (all_of (into_iter_items l.result-iterator)) ≡ all_of l.fn.results.items
