-- The registers that the code's view of a design means.
use Rattle.std.specs.Prelude.{ℕ, List, [], map, slice_index_or}
use Rattle.typed_ir.specs.declared.signal.Signal.{Signal}
use Rattle.typed_ir.specs.Orders.{at_or}
use Rattle.typed_ir.specs.Paths.{paths_of}
use Rattle.reg_transform.specs.Registers.{Register}
use Rattle.reg_transform.specs.declared.regs.Regs.{Regs}

-- a signal, where these are the paths of the instances
abbrev pub register_of : List (List ℕ) → Signal → Register
register_of paths x = record { path = slice_index_or paths x.instance []; in_module = x.in_module.0; name = x.name.0; width = x.width }

abbrev pub register_at : List (List ℕ) → List Signal → ℕ → Register
register_at paths signals s = at_or (register_of paths) (record { path = []; in_module = 0; name = 0; width = 0 }) signals s

abbrev pub registers_in : Regs → List Register
registers_in regs = map (register_at (paths_of regs.instances.now.rows.items) regs.signals.now) regs.registers.now
