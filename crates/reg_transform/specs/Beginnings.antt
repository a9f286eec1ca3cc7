-- What the registers that the code's view of a design means have at the beginning.
use Rattle.std.specs.Prelude.{ℕ, List, map, slice_index}
use Rattle.typed_ir.specs.declared.signal.Signal.{Signal}
use Rattle.state_layout.specs.Words.{width_in}
use Rattle.reg_transform.specs.States.{paired}
use Rattle.reg_transform.specs.declared.regs.Regs.{Regs}

-- the initial value of a signal, by its number
abbrev pub initial_in : List Signal → ℕ → ℕ
initial_in signals s = slice_index (map (λ (x : Signal). x.initial) signals) s

abbrev pub initials_in : Regs → List ℕ
initials_in regs = map (initial_in regs.signals.now) regs.registers.now

-- the state in which each register has its initial value
abbrev pub reset_in : Regs → List (ℕ × ℕ)
reset_in regs = paired (map (width_in regs.signals.now) regs.registers.now) (initials_in regs)
