use Rattle.std.proofs.Common.{◌≡◌, ℕ, map, take}
use Rattle.typed_ir.specs.Cycles.{width_at}
use Rattle.design_steps.specs.Programs.{values_in}
use Rattle.state_layout.specs.Slots.{state_widths}
use Rattle.cycle_eval.specs.Designs.{design_flat}
use Rattle.cycle_eval.proofs.design.Design.state_of.Given as goal

abbrev pub invariant-loop-place : goal.invariant-loop-place
invariant-loop-place l = record {
  kept : state_widths l.state ≡ state_widths l.from;
  written : take l.place l.state
      ≡ map (λ (r : ℕ). (width_at (design_flat l.self) r, values_in l.self.program l.words r)) (take l.place l.self.linked.design.registers.items);
}
