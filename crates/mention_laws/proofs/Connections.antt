-- A target names the same where it stands as an expression.
use Rattle.std.proofs.Common.{◌≡◌, List, ◌++◌, refl, ap₂}
use Rattle.verilog_ast.specs.declared.identifier.Identifier.{Identifier}
use Rattle.verilog_ast.specs.Expressions.{Expression, Whole, BitSelect, PartSelect, UpwardSelect, DownwardSelect, Target, Reference, Joined, NoTarget, Targets}
use Rattle.statement_rules.specs.Written.{IsReference, IsTargetWritten, AreTargetsWritten}
use Rattle.width_rules.specs.Names.{reference_name, target_names, expression_targets, written_as}

reference_same : (x : Expression) → IsReference x → expression_targets x ≡ reference_name x
reference_same (Whole n) w = refl
reference_same (BitSelect n x) w = refl
reference_same (PartSelect n x y) w = refl
reference_same (UpwardSelect n x y) w = refl
reference_same (DownwardSelect n x y) w = refl
reference_same other w = absurd w

mutual
  pub target_same : (t : Target) → IsTargetWritten t → expression_targets (written_as t) ≡ target_names t
  target_same (Reference x) w = reference_same x w
  target_same (Joined at ts) w = targets_same ts w
  target_same NoTarget w = absurd w
  target_same (Targets t ts) w = absurd w

  targets_same : (t : Target) → AreTargetsWritten t → expression_targets (written_as t) ≡ target_names t
  targets_same NoTarget w = refl
  targets_same (Targets t ts) w = ap₂ (λ (a b : List Identifier). a ++ b) (target_same t w.0) (targets_same ts w.1)
  targets_same (Reference x) w = absurd w
  targets_same (Joined at ts) w = absurd w
