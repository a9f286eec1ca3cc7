-- What a design does as a machine, under a row a cycle.
use Rattle.std.specs.Prelude.{◌≡◌, ℕ, List, [], ◌∷◌, map, length}
use Rattle.reg_ops.specs.declared.reg_op.RegOp.{RegOp}
use Rattle.reg_transform.specs.Carrying.{carried}
use Rattle.reg_transform.specs.OperationFaults.{AreValid}
use Rattle.reg_transform.specs.Registers.{Register}
use Rattle.typed_ir.specs.Cycles.{Signal, Flat, reset, seg}
use Rattle.typed_ir.specs.Orders.{at_or}
use Rattle.cycle_eval.specs.Inputs.{own_name, values_at}
use Rattle.reg_transform.specs.States.{paired, state_values}
-- the widths of a design's registers
pub use Rattle.state_layout.specs.Words.{register_widths}

abbrev pub reset_of : Flat → List (ℕ × ℕ)
reset_of design = paired (register_widths design) (reset design)

-- the values of the registers after a cycle for each row of a list
abbrev pub driven : Flat → List (List (ℕ × ℕ)) → List ℕ → List ℕ
driven design rows values = seg design (values_at design rows) 0 (length rows) values

-- the same of states
abbrev pub run_of : Flat → List (List (ℕ × ℕ)) → List (ℕ × ℕ) → List (ℕ × ℕ)
run_of design [] s = s
run_of design (row ∷ rows) s = paired (register_widths design) (driven design (row ∷ rows) (state_values s))

-- a state has one value for each register, of its width
abbrev pub Fits : Flat → List (ℕ × ℕ) → Type 0
Fits design s = map (λ (p : ℕ × ℕ). p.0) s ≡ register_widths design

-- ---- carrying

-- the path of the instance that a signal stands in: its own without the last name
abbrev pub instance_path : List ℕ → List ℕ
instance_path [] = []
instance_path (x ∷ []) = []
instance_path (x ∷ y ∷ ys) = x ∷ instance_path (y ∷ ys)

abbrev pub register_of : Signal → Register
register_of x = record { path = instance_path x.path; in_module = x.in_module; name = own_name x.path; width = x.width }

abbrev pub register_at : Flat → ℕ → Register
register_at design s = at_or register_of (record { path = []; in_module = 0; name = 0; width = 0 }) design.signals s

-- the registers of a design
abbrev pub regs_of : Flat → List Register
regs_of design = map (register_at design) design.registers

-- the state of an old design, carried into a new one under operations
abbrev pub carried_of : List RegOp → Flat → Flat → List (ℕ × ℕ) → List (ℕ × ℕ)
carried_of ops old new s = carried ops (regs_of old) (regs_of new) (reset_of new) s

-- no operation breaks a condition
abbrev pub IsValid : List RegOp → Flat → Flat → Type 0
IsValid ops old new = AreValid (regs_of old) (regs_of new) ops
