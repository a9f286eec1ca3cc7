use Rattle.std.proofs.Common.{◌≡◌, ◌≤◌, drop, length}
use Rattle.typed_ir.specs.Cycles.{fill}
use Rattle.design_steps.specs.Programs.{AreHeld, values_in}
use Rattle.reg_transform.specs.States.{state_values}
use Rattle.cycle_eval.proofs.design.Design.load.Given as goal

abbrev pub invariant-loop-left : goal.invariant-loop-left
invariant-loop-left l = record {
  within : l.left ≤ length l.self.linked.design.registers.items;
  value : values_in l.self.program l.words
      ≡ fill (drop l.left l.self.linked.design.registers.items) (drop l.left (state_values l.from)) (values_in l.self.program l.initial.words);
  held : AreHeld l.self.program l.self.linked l.initial.words → AreHeld l.self.program l.self.linked l.words;
}

abbrev pub decreases-loop-left : goal.decreases-loop-left
decreases-loop-left l = l.left
