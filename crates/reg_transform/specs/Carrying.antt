-- What the registers of a new design take from the state of an old one, under operations.
use Rattle.std.specs.Prelude.{ℕ, ◌%◌, ◌^◌, ◌&&◌, if◌then◌else◌, List, [], ◌∷◌, Option, Some, None}
use Rattle.std.specs.Option.{option_or, unwrap_or}
use Rattle.reg_ops.specs.declared.reg_op.RegOp.{RegOp}
use Rattle.reg_ops.specs.declared.reg_op.RegOp.TheVariants.{Rename, Create, Delete}
use Rattle.typed_ir.specs.Paths.{same_path}
use Rattle.reg_transform.specs.Registers.{RegisterName, Register, called, is_same}
use Rattle.reg_transform.specs.States.{state_values}

-- the value that an operation creates a register with, and the old name that it renames to it
abbrev pub created_by : RegOp → RegisterName → Option ℕ
created_by (Rename in_module from to) name = None
created_by (Create in_module reg value) name = if is_same (record { in_module = in_module.0; name = reg.0 }) name then Some value else None
created_by (Delete in_module reg) name = None

abbrev pub renamed_by : RegOp → RegisterName → Option ℕ
renamed_by (Rename in_module from to) name = if is_same (record { in_module = in_module.0; name = to.0 }) name then Some from.0 else None
renamed_by (Create in_module reg value) name = None
renamed_by (Delete in_module reg) name = None

-- of several operations the first
abbrev pub created : List RegOp → RegisterName → Option ℕ
created [] name = None
created (o ∷ os) name = option_or (created_by o name) (created os name)

abbrev pub renamed : List RegOp → RegisterName → Option ℕ
renamed [] name = None
renamed (o ∷ os) name = option_or (renamed_by o name) (renamed os name)

-- the value of the first of these registers at an instance path, with a name
abbrev pub value_of : List Register → (values : List ℕ) → (path : List ℕ) → RegisterName → Option ℕ
value_of [] xs path name = None
value_of (r ∷ rs) [] path name = None
value_of (r ∷ rs) (x ∷ xs) path name = if same_path r.path path && is_same (called r) name then Some x else value_of rs xs path name

-- the value of the old name, where one is given
abbrev pub value_under : (RegisterName → Option ℕ) → (in_module : ℕ) → Option ℕ → Option ℕ
value_under old in_module None = None
value_under old in_module (Some from) = old (record { in_module = in_module; name = from })

-- the created value; else the old one of the old name; else the old one of the same name; else the initial value
abbrev pub first_given : (created renamed : Option ℕ) → (old : RegisterName → Option ℕ) → RegisterName → (initial : ℕ) → ℕ
first_given created renamed old name initial = unwrap_or (option_or created (option_or (value_under old name.in_module renamed) (old name))) initial

abbrev pub taken : List RegOp → (old : RegisterName → Option ℕ) → RegisterName → (initial : ℕ) → ℕ
taken ops old name initial = first_given (created ops name) (renamed ops name) old name initial

-- register by register, with the initial value of each; a value is cut, or filled with zeros, to the width
abbrev pub carried_each : List RegOp → (old : List ℕ → RegisterName → Option ℕ) → List Register → (initial : List ℕ) → List (ℕ × ℕ)
carried_each ops old [] is = []
carried_each ops old (r ∷ rs) [] = []
carried_each ops old (r ∷ rs) (i ∷ is) = (r.width, taken ops (old r.path) (called r) i % 2 ^ r.width) ∷ carried_each ops old rs is

-- the state of the new registers, where `reset` has their initial values
abbrev pub carried : List RegOp → (old new : List Register) → (reset state : List (ℕ × ℕ)) → List (ℕ × ℕ)
carried ops old new reset state = carried_each ops (value_of old (state_values state)) new (state_values reset)
