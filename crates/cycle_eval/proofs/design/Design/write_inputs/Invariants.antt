use Rattle.std.proofs.Common.{◌≡◌, ◌≤◌, drop, length}
use Rattle.typed_ir.specs.Cycles.{fill, input}
use Rattle.design_steps.specs.Programs.{AreHeld, values_in}
use Rattle.cycle_eval.specs.Designs.{design_flat}
use Rattle.cycle_eval.specs.Inputs.{row_values}
use Rattle.cycle_eval.proofs.design.Design.write_inputs.Given as goal

abbrev pub invariant-loop-left : goal.invariant-loop-left
invariant-loop-left l = record {
  within : l.left ≤ length l.self.linked.design.inputs.items;
  value : values_in l.self.program l.words ≡ fill (drop l.left l.self.linked.design.inputs.items)
      (drop l.left (input (design_flat l.self) (row_values (design_flat l.self) l.row))) (values_in l.self.program l.initial.words);
  held : AreHeld l.self.program l.self.linked l.initial.words → AreHeld l.self.program l.self.linked l.words;
}

abbrev pub decreases-loop-left : goal.decreases-loop-left
decreases-loop-left l = l.left
