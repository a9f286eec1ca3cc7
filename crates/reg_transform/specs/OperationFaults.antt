-- The faults of operations on registers.
use Rattle.std.specs.Prelude.{◌≡◌, ℕ, ◌^◌, Bool, false, ◌&&◌, not, nat_le, if◌then◌else◌, List, [], ◌∷◌, ◌++◌, length, Option, Some, None}
use Rattle.std.specs.List.{list_any}
use Rattle.std.specs.Option.{option_or}
use Rattle.reg_ops.specs.declared.reg_op.RegOp.{RegOp}
use Rattle.reg_ops.specs.declared.reg_op.RegOp.TheVariants.{Rename, Create, Delete}
use Rattle.reg_transform.specs.Registers.{RegisterName, Register, called, is_same}

abbrev pub has : List Register → RegisterName → Bool
has registers name = list_any (λ (r : Register). is_same (called r) name) registers

-- the register of the old design that an operation names, and that of the new one
abbrev pub old_of : RegOp → Option RegisterName
old_of (Rename in_module from to) = Some (record { in_module = in_module.0; name = from.0 })
old_of (Create in_module reg value) = None
old_of (Delete in_module reg) = Some (record { in_module = in_module.0; name = reg.0 })

abbrev pub new_of : RegOp → Option RegisterName
new_of (Rename in_module from to) = Some (record { in_module = in_module.0; name = to.0 })
new_of (Create in_module reg value) = Some (record { in_module = in_module.0; name = reg.0 })
new_of (Delete in_module reg) = None

abbrev pub are_one : Option RegisterName → Option RegisterName → Bool
are_one None other = false
are_one (Some name) None = false
are_one (Some name) (Some other) = is_same name other

pub record OperationFault : Type 0 where
  pub code : ℕ
  pub shown : RegisterName

-- a fault where a test of the register that is named holds
abbrev pub fault_if : (code : ℕ) → (test : RegisterName → Bool) → Option RegisterName → Option OperationFault
fault_if code test None = None
fault_if code test (Some name) = if test name then Some (record { code = code; shown = name }) else None

-- 52: an earlier operation names the same old register, or the same new one
abbrev pub twice : List RegOp → RegOp → Option OperationFault
twice earlier op =
    option_or (fault_if 52 (λ name. list_any (λ (e : RegOp). are_one (old_of e) (Some name)) earlier) (old_of op))
    (fault_if 52 (λ name. list_any (λ (e : RegOp). are_one (new_of e) (Some name)) earlier) (new_of op))

-- whether a value is too large for a register of that name in some instance
abbrev pub is_too_wide : List Register → ℕ → RegisterName → Bool
is_too_wide registers value name = list_any (λ (r : Register). is_same (called r) name && nat_le (2 ^ r.width) value) registers

-- 50, 51, 53, 54 and 55, by the registers of the old and of the new design
abbrev pub misses : (old new : List Register) → RegOp → Option OperationFault
misses old new (Rename in_module from to) =
    option_or (fault_if 50 (λ name. not (has old name)) (old_of (Rename in_module from to)))
    (fault_if 51 (λ name. not (has new name)) (new_of (Rename in_module from to)))
misses old new (Create in_module reg value) =
    option_or (fault_if 53 (λ name. not (has new name)) (new_of (Create in_module reg value)))
    (fault_if 55 (is_too_wide new value) (new_of (Create in_module reg value)))
misses old new (Delete in_module reg) =
    option_or (fault_if 50 (λ name. not (has old name)) (old_of (Delete in_module reg)))
    (fault_if 54 (has new) (old_of (Delete in_module reg)))

-- 52 comes first
abbrev pub operation_fault : (old new : List Register) → (earlier : List RegOp) → RegOp → Option OperationFault
operation_fault old new earlier op = option_or (twice earlier op) (misses old new op)

-- a fault of the operation of a place in the list, from 0
pub record RefusedOperation : Type 0 where
  pub index : ℕ
  pub fault : OperationFault

abbrev pub first_refused : (index : ℕ) → Option OperationFault → Option RefusedOperation → Option RefusedOperation
first_refused index None rest = rest
first_refused index (Some fault) rest = Some (record { index = index; fault = fault })

-- the first fault of the operations, one after the other
abbrev pub operations_fault : (old new : List Register) → (earlier : List RegOp) → List RegOp → Option RefusedOperation
operations_fault old new earlier [] = None
operations_fault old new earlier (o ∷ os) =
    first_refused (length earlier) (operation_fault old new earlier o) (operations_fault old new (earlier ++ o ∷ []) os)

-- no operation is refused
abbrev pub AreValid : (old new : List Register) → List RegOp → Type 0
AreValid old new ops = operations_fault old new [] ops ≡ None
