use Rattle.std.proofs.Common.{◌≡◌, ℕ, [], length}
use Rattle.typed_ir.specs.Rows.{row_in}
use Rattle.unit_jobs.proofs.shapes.empty_rows.Given as goal

abbrev pub invariant-loop-instance : goal.invariant-loop-instance
invariant-loop-instance l = record {
  long : length l.rows.items ≡ l._instance;
  empty : (i : ℕ) → row_in l.rows.items i ≡ [];
}
