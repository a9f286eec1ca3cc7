use Rattle.std.proofs.Common.{◌≡◌, ◌<◌, ℕ, length, map, get_or, drop, IsTrue}
use Rattle.typed_ir.specs.Paths.{parents_of, parents_before, paths_from, paths_of}
use Rattle.reg_transform.specs.PathNumbers.{path_at, IsPathTable, Grows}
use Rattle.reg_transform.proofs.numbering.numbers_of.Given as goal

abbrev pub invariant-loop-row : goal.invariant-loop-row
invariant-loop-row l = record {
  table : IsPathTable l.known.keys;
  grows : Grows l.initial.known.keys l.known.keys;
  count : length l.numbers.items ≡ l.row-index;
  small : (i : ℕ) → i < length l.numbers.items → get_or l.numbers.items i 0 < length l.known.keys;
  rooted : IsTrue (parents_before l.row-index (parents_of (drop l.row-index l.rows)));
  walked : paths_from (map (path_at l.known.keys) l.numbers.items) (drop l.row-index l.rows) ≡ paths_of l.rows;
}
