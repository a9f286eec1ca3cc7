use Rattle.std.proofs.Common.{◌≡◌, ◌++◌, drop}
use Rattle.typed_ir.specs.Nodes.{lane_spans}
use Rattle.driver_rules.proofs.spanning.lane_spans.Given as goal

abbrev pub invariant-loop-lane : goal.invariant-loop-lane
invariant-loop-lane l = l.spans.items ++ lane_spans (drop l.lane-index l.lanes) ≡ lane_spans l.lanes
