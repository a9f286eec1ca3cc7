use Rattle.std.proofs.Common.{◌≡◌, ◌<◌, ◌==◌, ◌&&◌, ◌||◌, not, ℕ, drop, length}
use Rattle.comb_order.specs.Graphs.{rows_of}
use Rattle.comb_order.specs.Driving.{drives_some, edge, AreRows}
use Rattle.comb_order.proofs.edges.connect_signal.Given as goal

abbrev pub invariant-loop-driver : goal.invariant-loop-driver
invariant-loop-driver l = record {
  rows : AreRows l.b (rows_of l.rows);
  edges : (a t : ℕ) → a < length l.rows
      → (edge (rows_of l.rows) a t || ((t == l.b) && (drives_some (drop l.driver-index l.drivers) l.mask a && not (l.block && (a == l.b)))))
      ≡ (edge (rows_of l.initial.rows) a t || ((t == l.b) && (drives_some l.drivers l.mask a && not (l.block && (a == l.b)))));
}
