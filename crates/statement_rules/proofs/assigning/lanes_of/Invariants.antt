use Rattle.std.proofs.Common.{◌≡◌, ◌++◌, map, IsTrue}
use Rattle.std.specs.Vec.Iter.{into_iter_items}
use Rattle.typed_ir.specs.Stmts.{Fixed}
use Rattle.typed_ir.specs.Targets.{targets_of}
use Rattle.statement_rules.specs.Drives.{are_fixed}
use Rattle.statement_rules.proofs.assigning.lanes_of.Given as goal

abbrev pub invariant-loop-part : goal.invariant-loop-part
invariant-loop-part l = record {
  fixed : IsTrue (are_fixed (targets_of (into_iter_items l.part-iterator)));
  kept : map Fixed l.lanes.items ++ targets_of (into_iter_items l.part-iterator) ≡ targets_of l.fn.parts.items;
}
