use Rattle.std.proofs.Common.{◌≡◌, ◌++◌, ◌<◌, ℕ, drop, length}
use Rattle.typed_ir.specs.Rows.{row_in}
use Rattle.unit_jobs.specs.Rows.{shapes_in}
use Rattle.unit_jobs.proofs.shapes.note_children.Given as goal

-- the rows so far, and what is left
abbrev pub invariant-loop-one : goal.invariant-loop-one
invariant-loop-one l = record {
  long : length l.rows ≡ length l.initial.rows;
  left : (k : ℕ) → k < length l.initial.rows
      → row_in l.rows k ++ shapes_in k (drop l.one-index l.instances) ≡ row_in l.initial.rows k ++ shapes_in k l.instances;
}
