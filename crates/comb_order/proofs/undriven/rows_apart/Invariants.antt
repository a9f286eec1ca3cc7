use Rattle.std.proofs.Common.{◌≡◌, drop}
use Rattle.comb_order.specs.Parts.{rows_apart}
use Rattle.comb_order.proofs.undriven.rows_apart.Given as goal

abbrev pub invariant-loop-row : goal.invariant-loop-row
invariant-loop-row l = rows_apart (drop l.row-index l.table) ≡ rows_apart l.table
