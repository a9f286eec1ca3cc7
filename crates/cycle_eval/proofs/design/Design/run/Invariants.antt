use Rattle.std.proofs.Common.{◌≡◌, ◌≤◌, ◌+◌, ◌-◌, ◌*◌, ℕ, List, map}
use Rattle.machine.specs.Rows.{between}
use Rattle.design_steps.specs.Programs.{IsAt, values_in}
use Rattle.cycle_eval.specs.Designs.{design_flat, work_of}
use Rattle.cycle_eval.specs.Kits.{driven}
use Rattle.cycle_eval.proofs.design.Design.run.Given as goal

abbrev pub invariant-loop-at : goal.invariant-loop-at
invariant-loop-at g l = record {
  from : l.a ≤ l.at;
  within : l.at ≤ l.b;
  ready : (state inputs : List ℕ) → IsAt l.self.program l.self.linked state inputs l.initial.words
      → map (values_in l.self.program l.initial.words) l.self.linked.design.registers.items ≡ state
      → (given : List ℕ) × IsAt l.self.program l.self.linked (map (values_in l.self.program l.words) l.self.linked.design.registers.items) given l.words;
  value : (state inputs : List ℕ) → IsAt l.self.program l.self.linked state inputs l.initial.words
      → map (values_in l.self.program l.initial.words) l.self.linked.design.registers.items ≡ state
      → driven (design_flat l.self) (between l.rows l.at l.b) (map (values_in l.self.program l.words) l.self.linked.design.registers.items)
      ≡ driven (design_flat l.self) (between l.rows l.a l.b) state;
  taken : l.steps ≡ l.initial.steps + (l.at - l.a) * work_of l.self;
}

abbrev pub decreases-loop-at : goal.decreases-loop-at
decreases-loop-at g l = l.b - l.at
