-- What the types of the code mean.
use Rattle.std.proofs.Common.{Global}
use Rattle.std.specs.Prelude.{List, map}
use Rattle.std.specs.declared.sync.Arc.{Arc}
use Rattle.typed_ir.specs.declared.unit.Unit.{Unit as ModuleUnit}
use Rattle.module_registry.specs.declared.registry.Registry.{Registry}
use Rattle.module_registry.specs.Keys.{KeyData}
use Rattle.module_registry.specs.Entries.{Entry}
use Rattle.module_registry.specs.UnitViews.{shared_unit}

abbrev pub entry_of : KeyData × Arc ModuleUnit Global → Entry
entry_of e = record { key = e.0; unit = shared_unit e.1 }

-- what a registry holds
abbrev pub entries_of : Registry → List Entry
entries_of r = map entry_of r.units.entries
