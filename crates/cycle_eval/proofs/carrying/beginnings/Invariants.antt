use Rattle.std.proofs.Common.{◌≡◌, ◌++◌, ℕ, map, drop}
use Rattle.typed_ir.specs.States.{sized_value}
use Rattle.state_layout.specs.Words.{width_in}
use Rattle.reg_transform.specs.Beginnings.{initial_in}
use Rattle.cycle_eval.proofs.carrying.beginnings.Given as goal

abbrev pub invariant-loop-register : goal.invariant-loop-register
invariant-loop-register l =
    map sized_value l.values.items ++ map (λ (r : ℕ). (width_in l.signals r, initial_in l.signals r)) (drop l.register-index l.registers)
    ≡ map (λ (r : ℕ). (width_in l.signals r, initial_in l.signals r)) l.registers
