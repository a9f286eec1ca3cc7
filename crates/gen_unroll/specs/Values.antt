-- Constant expressions with their first fault.
use Rattle.std.specs.Prelude.{ℕ, Bool, List, [], ◌∷◌, Result, Ok, Err}
use Rattle.ls_text.specs.declared.fault.Fault.{Fault}
use Rattle.typed_ir.specs.declared.constant.Const.{Const}
use Rattle.verilog_ast.specs.Expressions.{Expression}
use Rattle.width_rules.specs.declared.due.Due.TheVariants.{ConstantOnly}
use Rattle.width_rules.specs.Constants.{constant}
use Rattle.width_rules.specs.Faults.{faults}
use Rattle.width_rules.specs.Scopes.{Scope}
use Rattle.width_rules.specs.Signs.{is_signed}
use Rattle.width_rules.specs.Sizes.{length}

-- a constant: its width, its value below 2 ^ width, and its sign
pub record ConstantValue : Type 0 where
  pub width : ℕ
  pub value : ℕ
  pub signed : Bool

abbrev pub constant_of : Const → ConstantValue
constant_of x = record { width = x.bits.width; value = x.bits.value; signed = x.signed }

-- the first of these faults, else this value
abbrev pub unless : {A : Type 0} → List Fault → A → Result A Fault
unless [] x = Ok x
unless (f ∷ fs) x = Err f

-- a constant expression at its own length and sign (4.10, 5.1)
unfoldable pub evaluated : Scope → Expression → Result ConstantValue Fault
evaluated scope e =
    unless (faults scope ConstantOnly e) (record { width = length scope e; value = constant scope e; signed = is_signed scope e })
