use Rattle.std.proofs.Common.{◌≡◌, ◌++◌, ◌<◌, ℕ, drop, length}
use Rattle.typed_ir.specs.Rows.{row_in}
use Rattle.link.specs.Copies.{kids_in}
use Rattle.link.specs.Listings.{entries_of, all_parts}
use Rattle.link.proofs.kids.note_kids.Given as goal

-- the rows so far, and what is left
abbrev pub invariant-loop-x : goal.invariant-loop-x
invariant-loop-x l = record {
  long : length l.rows ≡ length l.initial.rows;
  left : (k : ℕ) → k < length l.initial.rows
      → row_in l.rows k ++ kids_in k l.first (entries_of (drop l.x-index l.instances) (all_parts l.rest)) ≡ row_in l.initial.rows k ++ kids_in k 0 (entries_of l.instances (all_parts l.units));
}
