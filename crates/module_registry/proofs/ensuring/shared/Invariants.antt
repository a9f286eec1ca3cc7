use Rattle.std.proofs.Common.{◌≡◌, ◌++◌, map}
use Rattle.std.specs.Vec.Iter.{into_iter_items}
use Rattle.module_registry.specs.UnitViews.{built_of, shared_unit}
use Rattle.module_registry.proofs.ensuring.shared.Given as goal

abbrev pub invariant-loop-unit : goal.invariant-loop-unit
invariant-loop-unit l = map shared_unit l.shared.items ++ map built_of (into_iter_items l.unit-iterator) ≡ map built_of l.fn.units.items
