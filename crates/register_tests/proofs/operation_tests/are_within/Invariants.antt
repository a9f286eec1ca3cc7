use Rattle.std.proofs.Common.{◌≡◌, drop}
use Rattle.typed_ir.specs.Flats.{are_within}
use Rattle.register_tests.proofs.operation_tests.are_within.Given as goal

abbrev pub invariant-loop-signal : goal.invariant-loop-signal
invariant-loop-signal l = are_within (drop l.signal-index l.signals) l.count ≡ are_within l.signals l.count
