-- Scopes whose signals have the widths of a list (IEEE Std 1364-2005, 4.3).
use Rattle.std.specs.Prelude.{◌≡◌, ⊤, ℕ, ◌<◌, ◌^◌, true, List, [], ◌∷◌}
use Rattle.typed_ir.specs.Sized.{is_width, is_signal}
use Rattle.typed_ir.specs.Stmts.{is_sized, are_targets}
use Rattle.verilog_ast.specs.Items.{ContinuousAssignment}
use Rattle.width_rules.specs.Scopes.{Meaning, Signal, Constant, Turn, Genvar, Unknown, Scope}
use Rattle.statement_rules.specs.Drives.{SizedDrive, sized_drive, are_fixed}

-- a signal has 1 to 128 bits and is one of the list, with its width; a constant has 1 to 128 bits and a value below 2 ^ width
abbrev pub FitsMeaning : Meaning → List ℕ → Type 0
FitsMeaning (Signal signal width lsb signed writer) widths = (is_width width ≡ true) × (is_signal signal width widths ≡ true)
FitsMeaning (Constant width value signed) widths = (is_width width ≡ true) × (value < 2 ^ width)
FitsMeaning (Turn width value signed) widths = (is_width width ≡ true) × (value < 2 ^ width)
FitsMeaning Genvar widths = ⊤
FitsMeaning Unknown widths = ⊤

-- whatever a name means
abbrev pub FitsScope : Scope → List ℕ → Type 0
FitsScope scope widths = (name : ℕ) → FitsMeaning (scope name) widths

-- a continuous assignment writes known bits of signals of the list, and its value reads such signals at their widths
pub record FitsDrive (drive : SizedDrive) (widths : List ℕ) : Type 0 where
  pub fixed : are_fixed drive.parts ≡ true
  pub targets : are_targets drive.parts widths ≡ true
  pub value : is_sized drive.value widths ≡ true

-- each of these
abbrev pub FitDrives : Scope → List ContinuousAssignment → List ℕ → Type 0
FitDrives scope [] widths = ⊤
FitDrives scope (x ∷ xs) widths = FitsDrive (sized_drive scope x) widths × FitDrives scope xs widths
