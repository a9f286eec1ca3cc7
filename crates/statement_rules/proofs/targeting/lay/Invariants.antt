use Rattle.std.proofs.Common.{◌≡◌, ◌++◌, map}
use Rattle.std.specs.Vec.Iter.{into_iter_items}
use Rattle.typed_ir.specs.Targets.{targets_of}
use Rattle.statement_rules.specs.Leaves.{leaf_of, bits_of, laid}
use Rattle.statement_rules.proofs.targeting.lay.Given as goal

abbrev pub invariant-loop-part : goal.invariant-loop-part
invariant-loop-part l = record {
  bits : l.below ≡ bits_of (map leaf_of (into_iter_items l.part-iterator));
  kept : targets_of l.targets.items ++ laid 0 (map leaf_of (into_iter_items l.part-iterator)) ≡ laid 0 (map leaf_of l.fn.parts.items);
}
