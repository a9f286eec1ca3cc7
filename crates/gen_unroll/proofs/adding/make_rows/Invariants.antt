use Rattle.std.proofs.Common.{◌≡◌, ◌≤◌, ℕ, length}
use Rattle.gen_unroll.specs.Rows.{row_in}
use Rattle.gen_unroll.proofs.adding.make_rows.Given as goal

abbrev pub invariant-loop-row : goal.invariant-loop-row
invariant-loop-row l = record {
  rows : (b : ℕ) → row_in l.blocks.items b ≡ row_in l.initial.blocks.items b;
  long : l._row ≤ length l.blocks.items;
}
