use Rattle.std.proofs.Common.{◌≡◌, ◌++◌, drop}
use Rattle.design_steps.specs.Statements.{parts_code}
use Rattle.design_steps.specs.Nodes.{parts_of}
use Rattle.design_steps.specs.Views.{plan_of}
use Rattle.design_steps.proofs.drives.lay_lanes.Given as goal

abbrev pub invariant-loop-lane : goal.invariant-loop-lane
invariant-loop-lane l =
    l.steps.items ++ parts_code (plan_of l.layout) (plan_of l.layout).slot (parts_of (drop l.lane-index l.lanes)) l.x.width l.x.place l.mark
    ≡ l.initial.steps.items ++ parts_code (plan_of l.layout) (plan_of l.layout).slot (parts_of l.lanes) l.x.width l.x.place l.mark
