use Rattle.std.proofs.Common.{◌≡◌, ◌<◌, ◌==◌, ◌&&◌, ◌||◌, not, ℕ, drop, length}
use Rattle.comb_order.specs.Graphs.{rows_of}
use Rattle.comb_order.specs.Driving.{drives_any, edge, AreRows}
use Rattle.comb_order.proofs.edges.connect.Given as goal

abbrev pub invariant-loop-touch : goal.invariant-loop-touch
invariant-loop-touch l = record {
  rows : AreRows l.b (rows_of l.rows);
  edges : (a t : ℕ) → a < length l.rows
      → (edge (rows_of l.rows) a t || ((t == l.b) && (drives_any l.table (drop l.touch-index l.touches) a && not (l.block && (a == l.b)))))
      ≡ (edge (rows_of l.initial.rows) a t || ((t == l.b) && (drives_any l.table l.touches a && not (l.block && (a == l.b)))));
}
