use Rattle.std.proofs.Common.{◌≡◌, ◌<◌, ℕ, take, length, map}
use Rattle.typed_ir.specs.Nodes.{drives_at}
use Rattle.typed_ir.specs.FlatNodes.{node_of}
use Rattle.typed_ir.specs.Rows.{row_in}
use Rattle.comb_order.specs.Driving.{drives_in, AllRise}
use Rattle.comb_order.proofs.drivers.drivers_of.Given as goal

abbrev pub invariant-loop-k : goal.invariant-loop-k
invariant-loop-k l = record {
  length : length l.table.items ≡ l.signals;
  drives : (a s i : ℕ) → s < l.signals → i < 128
      → drives_in (row_in l.table.items s) a i ≡ drives_at (map node_of (take l.k l.nodes)) a s i;
  rises : AllRise l.table.items l.k;
}
