use Rattle.std.proofs.Common.{◌≡◌, ◌+◌, ◌<◌, ◌==◌, ◌&&◌, ◌||◌, ℕ, drop, length}
use Rattle.typed_ir.specs.Touches.{touched}
use Rattle.typed_ir.specs.Rows.{row_in}
use Rattle.comb_order.specs.Driving.{drives_in, AllRise}
use Rattle.comb_order.proofs.drivers.add_touches.Given as goal

abbrev pub invariant-loop-touch : goal.invariant-loop-touch
invariant-loop-touch l = record {
  drives : (a s i : ℕ) → s < length l.table
      → (drives_in (row_in l.table s) a i || ((a == l.item) && touched (drop l.touch-index l.touches) s i))
      ≡ (drives_in (row_in l.initial.table s) a i || ((a == l.item) && touched l.touches s i));
  rises : AllRise l.table (l.item + 1);
}
