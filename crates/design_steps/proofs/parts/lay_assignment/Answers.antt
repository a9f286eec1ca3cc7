use Rattle.std.proofs.Common.{arith}
use Rattle.std.proofs.lemmas.Result.{on_ok_weaker}
use Rattle.typed_ir.specs.Forms.{sized}
use Rattle.design_steps.specs.Homes.{home_of}
use Rattle.design_steps.specs.Views.{plan_of}
use Rattle.design_steps.proofs.Assigning.{all_targets}
use Rattle.design_steps.proofs.parts.lay_assignment.Goals as goal

pub returns : goal.returns
returns c =
    let l = plan_of c.args.layout.now in
    on_ok_weaker c.lay_targets.result
    (all_targets l (home_of c.args.home l) c.args.targets.now (sized c.args.value.now.form) c.args.mark c.args.steps.now.items c.lay.new.steps.items
    c.lay_targets.new.steps.items c.in_ok-width.width c.in_ok-second.second (λ z. grind (arith, c.if-is_empty.false, c.if-is_empty.ensures, z))
    (λ z. grind (arith, c.if-targets-eq1.false, z)) c.in_ok-width.ensures.width c.in_ok-second.ensures c.in_ok-width.ensures.steps)
    c.lay_targets.ensures
