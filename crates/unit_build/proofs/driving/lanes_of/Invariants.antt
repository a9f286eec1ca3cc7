use Rattle.std.proofs.Common.{◌≡◌, ◌++◌, IsTrue}
use Rattle.std.specs.Vec.Iter.{into_iter_items}
use Rattle.typed_ir.specs.Targets.{targets_of}
use Rattle.statement_rules.specs.Drives.{are_fixed}
use Rattle.typed_ir.specs.Nodes.{known_lanes}
use Rattle.unit_build.proofs.driving.lanes_of.Given as goal

abbrev pub invariant-loop-part : goal.invariant-loop-part
invariant-loop-part l = record {
  fixed : IsTrue (are_fixed (targets_of (into_iter_items l.part-iterator)));
  kept : l.lanes.items ++ known_lanes (targets_of (into_iter_items l.part-iterator)) ≡ known_lanes (targets_of l.fn.parts.items);
}
