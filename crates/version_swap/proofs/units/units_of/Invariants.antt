use Rattle.std.proofs.Common.{Global, ◌≡◌, ◌++◌, drop, map}
use Rattle.std.specs.Prelude.{Some}
use Rattle.std.specs.declared.sync.Arc.{Arc}
use Rattle.typed_ir.specs.declared.unit.Unit.{Unit as ModuleUnit}
use Rattle.module_registry.specs.Entries.{unit_under}
use Rattle.module_registry.specs.Keys.{KeyData}
use Rattle.module_registry.specs.UnitViews.{shared_unit}
use Rattle.module_registry.specs.Views.{entries_of}
use Rattle.version_swap.proofs.units.units_of.Given as goal

-- the units so far, and those of the keys that are left
abbrev pub invariant-loop-key : goal.invariant-loop-key
invariant-loop-key l =
    map (λ (a : Arc ModuleUnit Global). Some (shared_unit a)) l.units.items ++ map (λ (k : KeyData). unit_under k (entries_of l.registry))
    (drop l.key-index l.keys)
    ≡ map (λ (k : KeyData). unit_under k (entries_of l.registry)) l.keys
