use Rattle.std.proofs.Common.{◌∙◌}
use Rattle.typed_ir.specs.Items.{items_of}
use Rattle.unit_build.proofs.Making.{is_sound, is_sized}
use Rattle.unit_build.proofs.building.unit_with.Goals as goal

pub invariant_of-result : goal.invariant_of-result
invariant_of-result c =
    let p = items_of c.in_ok-items.items in
    record {
      sound = ∣ is_sound c.args.job.now c.args.signals.now c.args.settled.now c.args.steps.now c.in_ok-parts.parts p
          c.requires c.in_ok-items.ensures.faultless c.in_ok-items.ensures.items c.in_ok-items.ensures.unit c.in_ok-parts.ensures.unit ∣₁;
      sized = ∣ is_sized c.args.job.now c.args.signals.now c.args.settled.now c.args.steps.now c.in_ok-parts.parts p
          c.in_ok-items.ensures.faultless c.in_ok-items.ensures.items c.in_ok-parts.ensures.unit (c.in_ok-parts.ensures.shapes ∙ c.in_ok-items.ensures.shapes) ∣₁;
    }
