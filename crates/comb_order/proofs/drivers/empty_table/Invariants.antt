use Rattle.std.proofs.Common.{◌≡◌, ℕ, [], length}
use Rattle.typed_ir.specs.Rows.{row_in}
use Rattle.comb_order.proofs.drivers.empty_table.Given as goal

abbrev pub invariant-loop-signal : goal.invariant-loop-signal
invariant-loop-signal l = record {
  length : length l.table.items ≡ l._signal;
  empty : (s : ℕ) → row_in l.table.items s ≡ [];
}
