use Rattle.std.proofs.Common.{◌≡◌, drop}
use Rattle.typed_ir.specs.Flats.{are_below}
use Rattle.register_tests.proofs.operation_tests.are_below.Given as goal

abbrev pub invariant-loop-signal : goal.invariant-loop-signal
invariant-loop-signal l = are_below (drop l.signal-index l.signals) l.count ≡ are_below l.signals l.count
