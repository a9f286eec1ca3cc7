-- The faults of the operations of a block, which say what becomes of registers.
use Rattle.std.specs.Prelude.{ℕ, ◌^◌, Bool, false, ◌&&◌, not, nat_le, if◌then◌else◌, List, [], ◌∷◌, ◌++◌, map, codes, slice_index_or, Option, Some, None}
use Rattle.std.specs.List.{list_any}
use Rattle.std.specs.Option.{option_or}
use Rattle.std.specs.Str.{bytes_eq}
use Rattle.typed_ir.specs.Cycles.{width_at}
use Rattle.reg_ops.specs.Operations.{Operation, Renames, Creates, Deletes}
use Rattle.command_read.specs.Asking.{LineOperation}
use Rattle.live_session.specs.Spelled.{Spelled}
use Rattle.live_session.specs.Worlds.{Refused, refused_at}

-- the name of a register: the module that declares it, and what it is called within that
pub record RegisterName : Type 0 where
  pub in_module : List ℕ
  pub name : List ℕ

-- a register of one instance, with its number of bits
pub record Register : Type 0 where
  pub called : RegisterName
  pub width : ℕ

abbrev pub registers_of : Option Spelled → List Register
registers_of None = []
registers_of (Some d) =
    map (λ (r : ℕ). record { called = record { in_module = slice_index_or d.modules r []; name = slice_index_or d.own r [] }; width = width_at d.flat r })
    d.flat.registers

abbrev pub is_same : RegisterName → RegisterName → Bool
is_same x y = bytes_eq x.in_module y.in_module && bytes_eq x.name y.name

abbrev pub has : List Register → RegisterName → Bool
has registers name = list_any (λ (r : Register). is_same r.called name) registers

-- the register of the old design that an operation names, and that of the new one
abbrev pub old_of : Operation → Option RegisterName
old_of (Renames in_module from to) = Some (record { in_module = in_module; name = from })
old_of (Creates in_module reg value) = None
old_of (Deletes in_module reg) = Some (record { in_module = in_module; name = reg })

abbrev pub new_of : Operation → Option RegisterName
new_of (Renames in_module from to) = Some (record { in_module = in_module; name = to })
new_of (Creates in_module reg value) = Some (record { in_module = in_module; name = reg })
new_of (Deletes in_module reg) = None

abbrev pub are_one : Option RegisterName → Option RegisterName → Bool
are_one None other = false
are_one (Some name) None = false
are_one (Some name) (Some other) = is_same name other

pub record OperationFault : Type 0 where
  pub code : ℕ
  pub shown : RegisterName

-- a fault where a test of the register that is named holds
abbrev pub fault_if : (code : ℕ) → (test : RegisterName → Bool) → Option RegisterName → Option OperationFault
fault_if code test None = None
fault_if code test (Some name) = if test name then Some (record { code = code; shown = name }) else None

-- 52: an earlier operation names the same old register, or the same new one
abbrev pub twice : List Operation → Operation → Option OperationFault
twice earlier op =
    option_or (fault_if 52 (λ name. list_any (λ (e : Operation). are_one (old_of e) (Some name)) earlier) (old_of op))
    (fault_if 52 (λ name. list_any (λ (e : Operation). are_one (new_of e) (Some name)) earlier) (new_of op))

-- whether a value is too large for a register of that name in some instance
abbrev pub is_too_wide : List Register → ℕ → RegisterName → Bool
is_too_wide registers value name = list_any (λ (r : Register). is_same r.called name && nat_le (2 ^ r.width) value) registers

-- 50, 51, 53, 54 and 55, by the registers of the old and of the new design
abbrev pub misses : (old new : List Register) → Operation → Option OperationFault
misses old new (Renames in_module from to) =
    option_or (fault_if 50 (λ name. not (has old name)) (old_of (Renames in_module from to)))
    (fault_if 51 (λ name. not (has new name)) (new_of (Renames in_module from to)))
misses old new (Creates in_module reg value) =
    option_or (fault_if 53 (λ name. not (has new name)) (new_of (Creates in_module reg value)))
    (fault_if 55 (is_too_wide new value) (new_of (Creates in_module reg value)))
misses old new (Deletes in_module reg) =
    option_or (fault_if 50 (λ name. not (has old name)) (old_of (Deletes in_module reg)))
    (fault_if 54 (has new) (old_of (Deletes in_module reg)))

-- 52 comes first
abbrev pub operation_fault : (old new : List Register) → (earlier : List Operation) → Operation → Option OperationFault
operation_fault old new earlier op = option_or (twice earlier op) (misses old new op)

-- at the operation's line, with the register as `module.register`
abbrev pub refused_operation : (line : ℕ) → OperationFault → Refused
refused_operation line fault = refused_at fault.code line ((fault.shown.in_module ++ (codes "." ++ fault.shown.name)) ∷ [])

abbrev pub first_refused : (line : ℕ) → Option OperationFault → Option Refused → Option Refused
first_refused line None rest = rest
first_refused line (Some fault) rest = Some (refused_operation line fault)

-- the first fault of the operations, one after the other
abbrev pub operations_fault : (old new : List Register) → (earlier : List Operation) → List LineOperation → Option Refused
operations_fault old new earlier [] = None
operations_fault old new earlier (o ∷ os) =
    first_refused o.line (operation_fault old new earlier o.op) (operations_fault old new (earlier ++ o.op ∷ []) os)
