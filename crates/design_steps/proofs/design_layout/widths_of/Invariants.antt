use Rattle.std.proofs.Common.{◌≡◌, ◌++◌, drop}
use Rattle.typed_ir.specs.Flats.{signal_widths}
use Rattle.design_steps.proofs.design_layout.widths_of.Given as goal

abbrev pub invariant-loop-signal : goal.invariant-loop-signal
invariant-loop-signal l = l.widths.items ++ signal_widths (drop l.signal-index l.signals) ≡ signal_widths l.signals
