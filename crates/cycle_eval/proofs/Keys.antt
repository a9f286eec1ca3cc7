-- The registers and the beginning of the code's designs.
use Rattle.std.proofs.Common.{◌≡◌, ℕ, zero, suc, List, [], ◌∷◌, ◌++◌, map, refl, sym, ◌∙◌, ap, ap₂}
use Rattle.std.specs.Prelude.{slice_index, slice_index_or}
use Rattle.std.proofs.Math.Path.{fun_ext}
use Rattle.typed_ir.specs.declared.flat.Flat.{Flat}
use Rattle.typed_ir.specs.declared.instance_name.InstanceName.{InstanceName}
use Rattle.typed_ir.specs.declared.signal.Signal.{Signal}
use Rattle.typed_ir.specs.Cycles.{Signal as FlatSignal, Flat as FlatDesign, width_at}
use Rattle.typed_ir.specs.Flats.{signal_of}
use Rattle.typed_ir.specs.Linkeds.{flat}
use Rattle.typed_ir.specs.Orders.{at_or}
use Rattle.typed_ir.specs.Paths.{paths_of}
use Rattle.typed_ir.proofs.Widths.{widths_stay}
use Rattle.reg_transform.specs.Registers.{Register, widths_of}
use Rattle.reg_transform.specs.Regs.{register_of as row_register, register_at as row_register_at}
use Rattle.reg_transform.specs.States.{paired}
use Rattle.state_layout.specs.Slots.{state_widths}
use Rattle.cycle_eval.specs.Inputs.{own_name}
use Rattle.cycle_eval.specs.Kits.{Fits, instance_path, register_at, register_of, regs_of, reset_of}
use Rattle.state_layout.specs.Words.{register_widths, width_in}
use Rattle.reg_transform.specs.Beginnings.{initial_in}

-- ---- widths and values at the beginning

initials_are : (rows : List InstanceName) (xs : List Signal) → map (λ (x : FlatSignal). x.initial) (map (signal_of rows) xs) ≡ map (λ (x : Signal). x.initial) xs
initials_are rows [] = refl
initials_are rows (x ∷ xs) = ap (λ ns. x.initial ∷ ns) (initials_are rows xs)

pub register_widths_are : (f : Flat) → register_widths (flat f) ≡ map (width_in f.signals.items) f.registers.items
register_widths_are f = ap (λ (ws : List ℕ). map (λ s. slice_index ws s) f.registers.items) (widths_stay f.instances.rows.items f.signals.items)

pub begun : (f : Flat) → paired (map (width_in f.signals.items) f.registers.items) (map (initial_in f.signals.items) f.registers.items) ≡ reset_of (flat f)
begun f = sym (ap₂ (λ (ws ns : List ℕ). paired (map (λ s. slice_index ws s) f.registers.items) (map (λ s. slice_index ns s) f.registers.items))
    (widths_stay f.instances.rows.items f.signals.items) (initials_are f.instances.rows.items f.signals.items))

-- ---- registers

-- a path without its last name, and that name
without_last : (xs : List ℕ) (a : ℕ) → instance_path (xs ++ a ∷ []) ≡ xs
without_last [] a = refl
without_last (x ∷ []) a = refl
without_last (x ∷ y ∷ ys) a = ap (λ zs. x ∷ zs) (without_last (y ∷ ys) a)

last_name : (xs : List ℕ) (a : ℕ) → own_name (xs ++ a ∷ []) ≡ a
last_name [] a = refl
last_name (x ∷ []) a = refl
last_name (x ∷ y ∷ ys) a = last_name (y ∷ ys) a

abbrev register_with : List ℕ → ℕ → ℕ → ℕ → Register
register_with path in_module name width = record { path = path; in_module = in_module; name = name; width = width }

-- a signal of the code's type is the register that it is in the flat design
one_register : (rows : List InstanceName) (x : Signal) → row_register (paths_of rows) x ≡ register_of (signal_of rows x)
one_register rows x =
    let path = slice_index_or (paths_of rows) x.instance [] in
    sym (ap₂ (λ (p : List ℕ) (n : ℕ). register_with p x.in_module.0 n x.width) (without_last path x.name.0) (last_name path x.name.0))

all_registers : (rows : List InstanceName) (xs : List Signal) (s : ℕ)
    → row_register_at (paths_of rows) xs s ≡ at_or register_of (record { path = []; in_module = 0; name = 0; width = 0 }) (map (signal_of rows) xs) s
all_registers rows [] s = refl
all_registers rows (x ∷ xs) zero = one_register rows x
all_registers rows (x ∷ xs) (suc s) = all_registers rows xs s

-- the registers of the code's view are those of the flat design
pub regs_are : (f : Flat) → map (row_register_at (paths_of f.instances.rows.items) f.signals.items) f.registers.items ≡ regs_of (flat f)
regs_are f = ap (λ (g : ℕ → Register). map g f.registers.items) (fun_ext (λ (s : ℕ). all_registers f.instances.rows.items f.signals.items s))

-- a state that fits has the widths of these
pub widths_read : (design : FlatDesign) (s : List (ℕ × ℕ)) → Fits design s → state_widths s ≡ widths_of (regs_of design)
widths_read design s h = h ∙ sym (each design.registers)
  where
    one : (xs : List FlatSignal) (s : ℕ) → (at_or register_of (record { path = []; in_module = 0; name = 0; width = 0 }) xs s).width
        ≡ slice_index (map (λ (x : FlatSignal). x.width) xs) s
    one [] s = refl
    one (x ∷ xs) zero = refl
    one (x ∷ xs) (suc s) = one xs s

    each : (rs : List ℕ) → widths_of (map (register_at design) rs) ≡ map (width_at design) rs
    each [] = refl
    each (r ∷ rs) = ap₂ (λ (w : ℕ) (ws : List ℕ). w ∷ ws) (one design.signals r) (each rs)
