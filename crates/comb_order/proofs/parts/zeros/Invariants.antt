use Rattle.std.proofs.Common.{◌≡◌, drop}
use Rattle.std.proofs.Common.{◌++◌}
use Rattle.typed_ir.specs.Flats.{signal_widths}
use Rattle.typed_ir.specs.Views.{widths}
use Rattle.comb_order.proofs.parts.zeros.Given as goal

abbrev pub invariant-loop-signal : goal.invariant-loop-signal
invariant-loop-signal l = widths l.env.items ++ signal_widths (drop l.signal-index l.signals) ≡ signal_widths l.signals
