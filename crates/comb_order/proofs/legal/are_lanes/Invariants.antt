use Rattle.std.proofs.Common.{◌≡◌, drop}
use Rattle.typed_ir.specs.Nodes.{are_lanes}
use Rattle.typed_ir.specs.Views.{widths}
use Rattle.comb_order.proofs.legal.are_lanes.Given as goal

abbrev pub invariant-loop-lane : goal.invariant-loop-lane
invariant-loop-lane l = are_lanes (drop l.lane-index l.lanes) (widths l.env) ≡ are_lanes l.lanes (widths l.env)
