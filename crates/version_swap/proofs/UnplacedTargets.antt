-- Targets without places: the same parts, and the same faults.
use Rattle.std.proofs.Common.{◌≡◌, ℕ, ◌+◌, not, List, [], ◌∷◌, ◌++◌, map, refl, ◌∙◌, ap, ap₂}
use Rattle.typed_ir.specs.Stmts.{SizedTarget}
use Rattle.verilog_ast.specs.declared.identifier.Identifier.{Identifier}
use Rattle.verilog_ast.specs.Expressions as e
use Rattle.verilog_ast.specs.Expressions.{Expression, Target, Reference, Joined, NoTarget, Targets}
use Rattle.width_rules.specs.declared.due.Due.{Due}
use Rattle.width_rules.specs.declared.writer.Writer.{Writer}
use Rattle.width_rules.specs.Faults.{fault_at}
use Rattle.width_rules.specs.Scopes.{Meaning, Scope}
use Rattle.version_swap.specs.Unplaced.{unplaced_expression, unplaced_name, unplaced_target}
use Rattle.version_swap.specs.UnplacedFindings.{fault_unplaced}
use Rattle.version_swap.proofs.UnplacedSizes.{same_length}
use Rattle.version_swap.proofs.UnplacedFaults.{both_so, if_so, total_so}
use Rattle.version_swap.proofs.UnplacedReferences.{same_reference, same_reference_faults}
use Rattle.statement_rules.specs.Targets.{target_length, parts, target_faults, may_write, reference_kind, kind_fault, kind_faults}

pub same_target_length : (scope : Scope) (t : Target) → target_length scope (unplaced_target t) ≡ target_length scope t
same_target_length scope (Reference x) = same_length scope x
same_target_length scope (Joined at ts) = same_target_length scope ts
same_target_length scope (Targets t ts) = ap₂ (λ (m n : ℕ). m + n) (same_target_length scope t) (same_target_length scope ts)
same_target_length scope NoTarget = refl

pub same_parts : (scope : Scope) (shift : ℕ) (t : Target) → parts scope shift (unplaced_target t) ≡ parts scope shift t
same_parts scope shift (Reference x) = ap (λ (p : SizedTarget). p ∷ []) (same_reference scope shift x)
same_parts scope shift (Joined at ts) = same_parts scope shift ts
same_parts scope shift (Targets t ts) =
    ap₂ (λ (ps qs : List SizedTarget). ps ++ qs)
    (ap (λ (n : ℕ). parts scope (shift + n) (unplaced_target t)) (same_target_length scope ts) ∙ same_parts scope (shift + target_length scope ts) t)
    (same_parts scope shift ts)
same_parts scope shift NoTarget = refl

pub same_target_faults : (scope : Scope) (due : Due) (t : Target)
    → target_faults scope due (unplaced_target t) ≡ map fault_unplaced (target_faults scope due t)
same_target_faults scope due (Reference x) = same_reference_faults scope due x
same_target_faults scope due (Joined at ts) =
    both_so _ _ _ _ (same_target_faults scope due ts) (total_so at _ _ (same_target_length scope ts))
same_target_faults scope due (Targets t ts) = both_so _ _ _ _ (same_target_faults scope due t) (same_target_faults scope due ts)
same_target_faults scope due NoTarget = refl

-- ---- targets of the wrong kind

same_kind : (scope : Scope) (by : Writer) (n : Identifier) → kind_fault scope by (unplaced_name n) ≡ map fault_unplaced (kind_fault scope by n)
same_kind scope by n = if_so _ _ (fault_at 33 (unplaced_name n)) (fault_at 33 n) (ap (λ (m : Meaning). not (may_write by m)) refl) refl

same_reference_kind : (scope : Scope) (by : Writer) (x : Expression)
    → reference_kind scope by (unplaced_expression x) ≡ map fault_unplaced (reference_kind scope by x)
same_reference_kind scope by (e.Whole n) = same_kind scope by n
same_reference_kind scope by (e.BitSelect n x) = same_kind scope by n
same_reference_kind scope by (e.PartSelect n x y) = same_kind scope by n
same_reference_kind scope by (e.UpwardSelect n x y) = same_kind scope by n
same_reference_kind scope by (e.DownwardSelect n x y) = same_kind scope by n
same_reference_kind scope by other = refl

pub same_kinds : (scope : Scope) (by : Writer) (t : Target) → kind_faults scope by (unplaced_target t) ≡ map fault_unplaced (kind_faults scope by t)
same_kinds scope by (Reference x) = same_reference_kind scope by x
same_kinds scope by (Joined at ts) = same_kinds scope by ts
same_kinds scope by (Targets t ts) = both_so _ _ _ _ (same_kinds scope by t) (same_kinds scope by ts)
same_kinds scope by NoTarget = refl
