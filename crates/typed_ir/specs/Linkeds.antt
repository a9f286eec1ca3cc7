-- The flat design that the code's type holds.
use Rattle.typed_ir.specs.Cycles.{Flat}
use Rattle.typed_ir.specs.Flats.{flat_from}
use Rattle.typed_ir.specs.declared.flat.Flat.{Flat as Flat'}

abbrev pub flat : Flat' → Flat
flat d = flat_from d.instances.rows.items d.signals.items d.registers.items d.inputs.items d.nodes.items d.clocked.items
