-- What units of the code are, as they are compared.
use Rattle.std.proofs.Common.{Global}
use Rattle.std.specs.declared.sync.Arc.{Arc}
use Rattle.typed_ir.specs.declared.unit.Unit.{Unit as ModuleUnit}
use Rattle.typed_ir.specs.Units.{sized_unit}
use Rattle.module_registry.specs.Building.{Built}

abbrev pub built_of : ModuleUnit → Built
built_of u = record { unit = sized_unit u.parts; shapes = u.parts.shapes }

abbrev pub shared_unit : Arc ModuleUnit Global → Built
shared_unit a = built_of a.value
