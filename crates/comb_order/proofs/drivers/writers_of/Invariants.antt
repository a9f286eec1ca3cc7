use Rattle.std.proofs.Common.{◌≡◌, ◌<◌, ℕ, take, length, map}
use Rattle.typed_ir.specs.Cycles.{writes_at}
use Rattle.typed_ir.specs.Statements.{stmt_of}
use Rattle.typed_ir.specs.Rows.{row_in}
use Rattle.comb_order.specs.Driving.{drives_in, AllRise}
use Rattle.comb_order.proofs.drivers.writers_of.Given as goal

abbrev pub invariant-loop-k : goal.invariant-loop-k
invariant-loop-k l = record {
  length : length l.table.items ≡ l.signals;
  drives : (a s i : ℕ) → s < l.signals → i < 128
      → drives_in (row_in l.table.items s) a i ≡ writes_at (map stmt_of (take l.k l.blocks)) a s i;
  rises : AllRise l.table.items l.k;
}
