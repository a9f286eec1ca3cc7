use Rattle.std.proofs.Common.{take}
use Rattle.typed_ir.specs.Valuations.{any_within}
use Rattle.driver_rules.specs.Told.{Grows}
use Rattle.driver_rules.proofs.taking.take_parts.Given as goal

abbrev pub invariant-loop-span : goal.invariant-loop-span
invariant-loop-span l = Grows l.by l.initial.taken l.taken l.initial.drivers.items l.drivers.items (any_within (take l.span-index l.spans))
