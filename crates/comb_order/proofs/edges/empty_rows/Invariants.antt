use Rattle.std.proofs.Common.{◌≡◌, ℕ, [], length}
use Rattle.comb_order.specs.Graphs.{rows_of, row_at}
use Rattle.comb_order.proofs.edges.empty_rows.Given as goal

abbrev pub invariant-loop-node : goal.invariant-loop-node
invariant-loop-node l = record {
  length : length l.rows.items ≡ l._node;
  empty : (a : ℕ) → row_at (rows_of l.rows.items) a ≡ [];
}
