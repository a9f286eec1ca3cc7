use Rattle.std.proofs.Common.{◌≡◌, ◌++◌, map, drop}
use Rattle.typed_ir.specs.Shifts.{shifted_lane}
use Rattle.link.proofs.copying.copied_lanes.Given as goal

abbrev pub invariant-loop-lane : goal.invariant-loop-lane
invariant-loop-lane l = l.copies.items ++ map (shifted_lane l.first) (drop l.lane-index l.lanes) ≡ map (shifted_lane l.first) l.lanes
