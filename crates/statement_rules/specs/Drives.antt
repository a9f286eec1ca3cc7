-- Continuous assignments, sized, and what may be wrong with one and with an item of them (IEEE Std 1364-2005, 6.1).
use Rattle.std.specs.Prelude.{Bool, true, false, List, [], ◌∷◌, ◌++◌, map}
use Rattle.ls_text.specs.declared.fault.Fault.{Fault}
use Rattle.typed_ir.specs.Sized.{Sized}
use Rattle.typed_ir.specs.Stmts.{SizedTarget, Fixed, Moving}
use Rattle.typed_ir.specs.Forms.{sized}
use Rattle.verilog_ast.specs.Items.{ContinuousAssignment}
use Rattle.statement_rules.specs.declared.drive.Drive.{Drive}
use Rattle.width_rules.specs.declared.writer.Writer.TheVariants as writer
use Rattle.width_rules.specs.declared.due.Due.TheVariants.{AnyValue, ConstantOnly}
use Rattle.width_rules.specs.Scopes.{Scope}
use Rattle.width_rules.specs.Faults.{faults}
use Rattle.statement_rules.specs.Targets.{target_length, parts, target_faults, kind_faults}
use Rattle.statement_rules.specs.Statements.{assigned}

-- the parts of its target from left to right, and its value at the larger of both lengths
pub record SizedDrive : Type 0 where
  pub parts : List SizedTarget
  pub value : Sized

abbrev pub sized_drive : Scope → ContinuousAssignment → SizedDrive
sized_drive scope x = record { parts = parts scope 0 x.target; value = assigned scope (target_length scope x.target) x.value }

abbrev pub drive_of : Drive → SizedDrive
drive_of x = record { parts = map Fixed x.lanes.items; value = sized x.value.form }

-- whether the bits of all parts are known
abbrev pub are_fixed : List SizedTarget → Bool
are_fixed [] = true
are_fixed (Fixed lane ∷ ts) = are_fixed ts
are_fixed (Moving reach index ∷ ts) = false

-- indices of its target have to be constant
abbrev pub drive_faults : Scope → ContinuousAssignment → List Fault
drive_faults scope x = target_faults scope ConstantOnly x.target ++ faults scope AnyValue x.value

abbrev pub all_drive_faults : Scope → List ContinuousAssignment → List Fault
all_drive_faults scope [] = []
all_drive_faults scope (x ∷ xs) = drive_faults scope x ++ all_drive_faults scope xs

abbrev pub all_kind_faults : Scope → List ContinuousAssignment → List Fault
all_kind_faults scope [] = []
all_kind_faults scope (x ∷ xs) = kind_faults scope writer.Continuous x.target ++ all_kind_faults scope xs

-- of an item: those of all expressions from left to right, and only then those of targets (33)
abbrev pub assign_faults : Scope → List ContinuousAssignment → List Fault
assign_faults scope xs = all_drive_faults scope xs ++ all_kind_faults scope xs
