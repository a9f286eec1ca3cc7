-- The greatest value that fits the registers of a name in each instance, and the faults by it.
use Rattle.std.specs.Prelude.{ℕ, ◌-◌, ◌^◌, Bool, false, not, nat_lt, min, if◌then◌else◌, List, [], ◌∷◌, Option, Some, None}
use Rattle.std.specs.Option.{option_map, option_or, is_some}
use Rattle.reg_ops.specs.declared.reg_op.RegOp.{RegOp}
use Rattle.reg_ops.specs.declared.reg_op.RegOp.TheVariants.{Rename, Create, Delete}
use Rattle.reg_transform.specs.Registers.{RegisterName, Register, called, is_same}
use Rattle.reg_transform.specs.OperationFaults.{OperationFault, fault_if, old_of, new_of}
use Rattle.reg_transform.specs.Found.{name_of}
use Rattle.reg_transform.specs.declared.breach.Breach.{Breach}
use Rattle.reg_transform.specs.declared.qualified_name.QualifiedName.{QualifiedName}

abbrev pub lesser : ℕ → Option ℕ → ℕ
lesser x None = x
lesser x (Some y) = min x y

-- None where no register has the name
abbrev pub greatest : List Register → RegisterName → Option ℕ
greatest [] name = None
greatest (r ∷ rs) name = if is_same (called r) name then Some (lesser (2 ^ r.width - 1) (greatest rs name)) else greatest rs name

abbrev pub is_passed : Option ℕ → ℕ → Bool
is_passed None value = false
is_passed (Some most) value = nat_lt most value

-- what the registers of both designs say against an operation, by the greatest values of theirs
abbrev pub misses_by : (old new : RegisterName → Option ℕ) → RegOp → Option OperationFault
misses_by old new (Rename in_module from to) =
    option_or (fault_if 50 (λ name. not (is_some (old name))) (old_of (Rename in_module from to)))
    (fault_if 51 (λ name. not (is_some (new name))) (new_of (Rename in_module from to)))
misses_by old new (Create in_module reg value) =
    option_or (fault_if 53 (λ name. not (is_some (new name))) (new_of (Create in_module reg value)))
    (fault_if 55 (λ name. is_passed (new name) value) (new_of (Create in_module reg value)))
misses_by old new (Delete in_module reg) =
    option_or (fault_if 50 (λ name. not (is_some (old name))) (old_of (Delete in_module reg)))
    (fault_if 54 (λ name. is_some (new name)) (old_of (Delete in_module reg)))

-- an earlier operation that names the same register, by what these have named
abbrev pub twice_by : (olds news : RegisterName → Bool) → RegOp → Option OperationFault
twice_by olds news op = option_or (fault_if 52 olds (old_of op)) (fault_if 52 news (new_of op))

abbrev pub fault_of : Breach → OperationFault
fault_of b = record { code = b.code; shown = name_of b.shown }

abbrev pub faults : Option Breach → Option OperationFault
faults b = option_map fault_of b

abbrev pub names : Option QualifiedName → Option RegisterName
names name = option_map name_of name
