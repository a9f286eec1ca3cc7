-- What operations on registers say, with the texts of names.
use Rattle.std.specs.Prelude.{ℕ, ◌<◌, List}
use Rattle.ls_text.specs.Texts.{text_at}
use Rattle.reg_ops.specs.declared.reg_op.RegOp.{RegOp}
use Rattle.reg_ops.specs.declared.reg_op.RegOp.TheVariants.{Rename, Create, Delete}

-- what becomes of registers of a module
pub data Operation : Type 0 where
  -- the register of the one name goes on under the other
  Renames : (in_module from to : List ℕ) → Operation
  -- a new register begins at this value
  Creates : (in_module reg : List ℕ) (value : ℕ) → Operation
  -- the register is dropped
  Deletes : (in_module reg : List ℕ) → Operation

-- what an operation says, by the table of names
abbrev pub operation : List (List ℕ) → RegOp → Operation
operation names (Rename in_module from to) = Renames (text_at names in_module.0) (text_at names from.0) (text_at names to.0)
operation names (Create in_module reg value) = Creates (text_at names in_module.0) (text_at names reg.0) value
operation names (Delete in_module reg) = Deletes (text_at names in_module.0) (text_at names reg.0)

-- its names are among so many
abbrev pub HasNames : ℕ → RegOp → Type 0
HasNames count (Rename in_module from to) = (in_module.0 < count) × (from.0 < count) × (to.0 < count)
HasNames count (Create in_module reg value) = (in_module.0 < count) × (reg.0 < count)
HasNames count (Delete in_module reg) = (in_module.0 < count) × (reg.0 < count)
