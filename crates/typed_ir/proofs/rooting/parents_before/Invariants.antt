use Rattle.std.proofs.Common.{◌≡◌, drop}
use Rattle.typed_ir.specs.Paths.{parents_of, parents_before}
use Rattle.typed_ir.proofs.rooting.parents_before.Given as goal

abbrev pub invariant-loop-k : goal.invariant-loop-k
invariant-loop-k l = parents_before l.k (parents_of (drop l.k l.rows)) ≡ parents_before 0 (parents_of l.rows)
