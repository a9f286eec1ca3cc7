use Rattle.std.proofs.Common.{take}
use Rattle.typed_ir.specs.Orders.{is_member}
use Rattle.driver_rules.proofs.Declared.{IsBest}
use Rattle.driver_rules.proofs.pathing.first_declared.Given as goal

abbrev pub invariant-loop-signal : goal.invariant-loop-signal
invariant-loop-signal l = IsBest l.declarations (λ t. is_member t (take l.signal-index l.signals)) l.found
