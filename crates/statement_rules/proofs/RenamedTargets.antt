-- Targets under other names: the same parts, and the same faults with their other names.
use Rattle.std.proofs.Common.{◌≡◌, ℕ, ◌+◌, not, List, [], ◌∷◌, ◌++◌, map, refl, ◌∙◌, ap, ap₂}
use Rattle.ls_text.specs.declared.name_id.NameId.{NameId}
use Rattle.typed_ir.specs.Stmts.{SizedTarget}
use Rattle.verilog_ast.specs.declared.identifier.Identifier.{Identifier}
use Rattle.verilog_ast.specs.Expressions as e
use Rattle.verilog_ast.specs.Expressions.{Expression, Target, Reference, Joined, NoTarget, Targets}
use Rattle.verilog_ast.specs.Renamed.{renamed_identifier}
use Rattle.verilog_ast.specs.Renaming.{expression_as, target_as}
use Rattle.width_rules.specs.declared.due.Due.{Due}
use Rattle.width_rules.specs.declared.writer.Writer.{Writer}
use Rattle.width_rules.specs.Faults.{fault_at}
use Rattle.width_rules.specs.Renaming.{MeansSame, fault_as}
use Rattle.width_rules.specs.Scopes.{Meaning, Scope}
use Rattle.width_rules.proofs.RenamedSizes.{same_length}
use Rattle.width_rules.proofs.RenamedFaults.{both_so, if_so, total_so}
use Rattle.width_rules.proofs.RenamedReferences.{same_reference, same_reference_faults}
use Rattle.statement_rules.specs.Targets.{target_length, parts, target_faults, may_write, reference_kind, kind_fault, kind_faults}

pub same_target_length : (f : NameId → NameId) (scope other : Scope) (t : Target) → MeansSame f scope other → target_length other (target_as f t) ≡ target_length scope t
same_target_length f scope other (Reference x) same = same_length f scope other x same
same_target_length f scope other (Joined at ts) same = same_target_length f scope other ts same
same_target_length f scope other NoTarget same = refl
same_target_length f scope other (Targets t ts) same = ap₂ (λ (m n : ℕ). m + n) (same_target_length f scope other t same) (same_target_length f scope other ts same)

pub same_parts : (f : NameId → NameId) (scope other : Scope) (shift : ℕ) (t : Target) → MeansSame f scope other → parts other shift (target_as f t) ≡ parts scope shift t
same_parts f scope other shift (Reference x) same = ap (λ (p : SizedTarget). p ∷ []) (same_reference f scope other shift x same)
same_parts f scope other shift (Joined at ts) same = same_parts f scope other shift ts same
same_parts f scope other shift NoTarget same = refl
same_parts f scope other shift (Targets t ts) same =
    ap₂ (λ (ps qs : List SizedTarget). ps ++ qs)
    (ap (λ (n : ℕ). parts other (shift + n) (target_as f t)) (same_target_length f scope other ts same) ∙ same_parts f scope other (shift + target_length scope ts) t same)
    (same_parts f scope other shift ts same)

pub same_target_faults : (f : NameId → NameId) (scope other : Scope) (due : Due) (t : Target) → MeansSame f scope other
    → target_faults other due (target_as f t) ≡ map (fault_as f) (target_faults scope due t)
same_target_faults f scope other due (Reference x) same = same_reference_faults f scope other due x same
same_target_faults f scope other due (Joined at ts) same =
    both_so f _ _ _ _ (same_target_faults f scope other due ts same) (total_so f at _ _ (same_target_length f scope other ts same))
same_target_faults f scope other due NoTarget same = refl
same_target_faults f scope other due (Targets t ts) same = both_so f _ _ _ _ (same_target_faults f scope other due t same) (same_target_faults f scope other due ts same)

-- ---- targets of the wrong kind

same_kind : (f : NameId → NameId) (scope other : Scope) (by : Writer) (n : Identifier) → MeansSame f scope other → kind_fault other by (renamed_identifier f n) ≡ map (fault_as f) (kind_fault scope by n)
same_kind f scope other by n same = if_so f _ _ (fault_at 33 (renamed_identifier f n)) (fault_at 33 n) (ap (λ (m : Meaning). not (may_write by m)) (same n.name)) refl

same_reference_kind : (f : NameId → NameId) (scope other : Scope) (by : Writer) (x : Expression) → MeansSame f scope other
    → reference_kind other by (expression_as f x) ≡ map (fault_as f) (reference_kind scope by x)
same_reference_kind f scope other by (e.Whole n) same = same_kind f scope other by n same
same_reference_kind f scope other by (e.BitSelect n x) same = same_kind f scope other by n same
same_reference_kind f scope other by (e.PartSelect n x y) same = same_kind f scope other by n same
same_reference_kind f scope other by (e.UpwardSelect n x y) same = same_kind f scope other by n same
same_reference_kind f scope other by (e.DownwardSelect n x y) same = same_kind f scope other by n same
same_reference_kind f scope other by (e.Literal at x) same = refl
same_reference_kind f scope other by (e.Unary at op x) same = refl
same_reference_kind f scope other by (e.Binary op x y) same = refl
same_reference_kind f scope other by (e.Conditional c x y) same = refl
same_reference_kind f scope other by (e.Concatenation at xs) same = refl
same_reference_kind f scope other by (e.Replication at c xs) same = refl
same_reference_kind f scope other by (e.Bracketed at x) same = refl
same_reference_kind f scope other by e.NoPart same = refl
same_reference_kind f scope other by (e.Parts x xs) same = refl

pub same_kinds : (f : NameId → NameId) (scope other : Scope) (by : Writer) (t : Target) → MeansSame f scope other → kind_faults other by (target_as f t) ≡ map (fault_as f) (kind_faults scope by t)
same_kinds f scope other by (Reference x) same = same_reference_kind f scope other by x same
same_kinds f scope other by (Joined at ts) same = same_kinds f scope other by ts same
same_kinds f scope other by NoTarget same = refl
same_kinds f scope other by (Targets t ts) same = both_so f _ _ _ _ (same_kinds f scope other by t same) (same_kinds f scope other by ts same)
