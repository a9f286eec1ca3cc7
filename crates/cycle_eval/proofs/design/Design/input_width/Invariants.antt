use Rattle.std.proofs.Common.{◌≡◌, drop}
use Rattle.cycle_eval.specs.Designs.{design_flat}
use Rattle.cycle_eval.specs.Inputs.{width_among}
use Rattle.cycle_eval.proofs.design.Design.input_width.Given as goal

abbrev pub invariant-loop-input : goal.invariant-loop-input
invariant-loop-input l =
    width_among (design_flat l.self) (drop l.input-index l.self.linked.design.inputs.items) l.name.0
    ≡ width_among (design_flat l.self) l.self.linked.design.inputs.items l.name.0
