-- Continuous assignments without a fault write known bits of signals of their scope.
use Rattle.std.proofs.Common.{◌≡◌, ℕ, List, [], ◌∷◌}
use Rattle.verilog_ast.specs.Items.{ContinuousAssignment}
use Rattle.width_rules.specs.declared.due.Due.TheVariants.{AnyValue, ConstantOnly}
use Rattle.width_rules.specs.declared.writer.Writer.TheVariants as writer
use Rattle.width_rules.specs.Faults.{faults}
use Rattle.width_rules.specs.Scopes.{Scope}
use Rattle.statement_rules.specs.Drives.{sized_drive, drive_faults, all_drive_faults, all_kind_faults, assign_faults}
use Rattle.statement_rules.specs.Targets.{target_length, target_faults, kind_faults}
use Rattle.statement_rules.proofs.Placing.{fixed as parts_fixed}
use Rattle.width_rules.proofs.Reading.{left_none, right_none}
use Rattle.statement_rules.specs.Fitting.{FitsScope, FitsDrive, FitDrives}
use Rattle.statement_rules.specs.Written.{IsTargetWritten, IsWritten, AreAssignsWritten}
use Rattle.statement_rules.proofs.FittingStatements.{assigned_sized}
use Rattle.statement_rules.proofs.Targets.{target_long, target_parts}

-- ---- assignments

drive_fits : (scope : Scope) (widths : List ℕ) (x : ContinuousAssignment) → FitsScope scope widths → IsTargetWritten x.target → IsWritten x.value → drive_faults scope x ≡ []
    → kind_faults scope writer.Continuous x.target ≡ [] → FitsDrive (sized_drive scope x) widths
drive_fits scope widths x ok w v h k =
    let first : target_faults scope ConstantOnly x.target ≡ [] = left_none (target_faults scope ConstantOnly x.target) (faults scope AnyValue x.value) h in
    record {
      fixed = parts_fixed scope 0 x.target first;
      targets = target_parts scope widths ConstantOnly writer.Continuous x.target ok w first k;
      value = assigned_sized scope widths AnyValue (target_length scope x.target) x.value ok v
          (right_none (target_faults scope ConstantOnly x.target) (faults scope AnyValue x.value) h)
          (target_long scope widths ConstantOnly writer.Continuous x.target ok w first k).most;
    }

each_fits : (scope : Scope) (widths : List ℕ) (xs : List ContinuousAssignment) → FitsScope scope widths → AreAssignsWritten xs → all_drive_faults scope xs ≡ []
    → all_kind_faults scope xs ≡ [] → FitDrives scope xs widths
each_fits scope widths [] ok w h k = tt
each_fits scope widths (x ∷ xs) ok w h k = (
  drive_fits scope widths x ok w.0.0 w.0.1 (left_none (drive_faults scope x) (all_drive_faults scope xs) h)
      (left_none (kind_faults scope writer.Continuous x.target) (all_kind_faults scope xs) k),
  each_fits scope widths xs ok w.1 (right_none (drive_faults scope x) (all_drive_faults scope xs) h)
      (right_none (kind_faults scope writer.Continuous x.target) (all_kind_faults scope xs) k),
)

pub drives_fit : (scope : Scope) (widths : List ℕ) (xs : List ContinuousAssignment) → FitsScope scope widths → AreAssignsWritten xs → assign_faults scope xs ≡ []
    → FitDrives scope xs widths
drives_fit scope widths xs ok w h =
    each_fits scope widths xs ok w (left_none (all_drive_faults scope xs) (all_kind_faults scope xs) h) (right_none (all_drive_faults scope xs) (all_kind_faults scope xs) h)
