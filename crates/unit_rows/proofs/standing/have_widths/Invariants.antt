use Rattle.std.proofs.Common.{drop}
use Rattle.unit_rows.specs.Standing.{HaveWidths}
use Rattle.unit_rows.proofs.standing.have_widths.Given as goal

abbrev pub invariant-loop-port : goal.invariant-loop-port
invariant-loop-port l = HaveWidths l.rest (drop l.port-index l.ports) → HaveWidths l.signals l.ports
