use Rattle.std.proofs.Common.{◌≡◌, ◌+◌, ◌*◌, ℕ, List, map}
use Rattle.typed_ir.specs.Cycles.{input, seg}
use Rattle.design_steps.specs.Programs.{IsAt, values_in}
use Rattle.cycle_eval.specs.Designs.{design_flat, work_of}
use Rattle.cycle_eval.specs.Inputs.{row_values}
use Rattle.cycle_eval.proofs.design.Design.run_under.Given as goal

abbrev pub invariant-loop-cycle : goal.invariant-loop-cycle
invariant-loop-cycle g l = record {
  ready : (state : List ℕ) → IsAt l.self.program l.self.linked state (input (design_flat l.self) (row_values (design_flat l.self) l.row)) l.initial.words
      → IsAt l.self.program l.self.linked (seg (design_flat l.self) (λ t. row_values (design_flat l.self) l.row) 0 l._cycle state)
      (input (design_flat l.self) (row_values (design_flat l.self) l.row)) l.words;
  value : (state : List ℕ) → IsAt l.self.program l.self.linked state (input (design_flat l.self) (row_values (design_flat l.self) l.row)) l.initial.words
      → map (values_in l.self.program l.initial.words) l.self.linked.design.registers.items ≡ state
      → map (values_in l.self.program l.words) l.self.linked.design.registers.items
      ≡ seg (design_flat l.self) (λ t. row_values (design_flat l.self) l.row) 0 l._cycle state;
  taken : l.steps ≡ l.initial.steps + l._cycle * work_of l.self;
}
