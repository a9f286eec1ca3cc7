use Rattle.std.proofs.Common.{◌≡◌, ◌++◌, drop}
use Rattle.typed_ir.specs.Targets.{targets_of}
use Rattle.design_steps.specs.Homes.{home_of}
use Rattle.design_steps.specs.Statements.{parts_code}
use Rattle.design_steps.specs.Views.{plan_of}
use Rattle.design_steps.proofs.parts.lay_targets.Given as goal

abbrev pub invariant-loop-target : goal.invariant-loop-target
invariant-loop-target l =
    l.steps.items ++ parts_code (plan_of l.layout) (home_of l.home (plan_of l.layout)) (targets_of (drop l.target-index l.targets)) l.x.width l.x.place l.mark
    ≡ l.initial.steps.items ++ parts_code (plan_of l.layout) (home_of l.home (plan_of l.layout)) (targets_of l.targets) l.x.width l.x.place l.mark
