-- The form in which a target is shown, and which one a statement is named by, hang on no place (IEEE 1364-2005, 5.2.1).
use Rattle.std.proofs.Common.{◌≡◌, ℕ, ◌+◌, ◌==◌, not, cond, Bool, List, [], ◌∷◌, map, Some, refl, ◌∙◌, ap, ap₂}
use Rattle.typed_ir.specs.declared.target_form.TargetForm.TheVariants as form
use Rattle.typed_ir.specs.declared.mention.Mention.{Mention}
use Rattle.verilog_ast.specs.Expressions.{Expression, BitSelect, UpwardSelect, DownwardSelect, Target, Reference, Joined, NoTarget, Targets}
use Rattle.verilog_ast.specs.Statements.{Statement, Block, If, IfElse, Case, Assignment, Default, Match, Statements}
use Rattle.width_rules.specs.Scopes.{Scope}
use Rattle.width_rules.specs.Forms.{known_as, reference_form, first_or, form_or_name, first_part, target_form, first_target, first_number, statement_shown}
use Rattle.width_rules.specs.Mentions.{statement_targets}
use Rattle.width_rules.proofs.Shown.{shown_with}
use Rattle.version_swap.specs.Unplaced.{unplaced_expression, unplaced_target, unplaced_statement}
use Rattle.version_swap.specs.UnplacedFindings.{mention_unplaced}
use Rattle.version_swap.proofs.UnplacedMentions.{same_targets}
use Rattle.version_swap.proofs.UnplacedSizes.{same_fixed}

reference_so : (scope : Scope) (e : Expression) → reference_form scope (unplaced_expression e) ≡ reference_form scope e
reference_so scope (BitSelect n x) = ap (λ (b : Bool). known_as b form.Bit) (same_fixed scope x)
reference_so scope (UpwardSelect n x y) = ap (λ (b : Bool). known_as b form.Range) (same_fixed scope x)
reference_so scope (DownwardSelect n x y) = ap (λ (b : Bool). known_as b form.Range) (same_fixed scope x)
reference_so scope other = refl

part_so : (scope : Scope) (t : Target) → first_part scope (unplaced_target t) ≡ first_part scope t
part_so scope (Reference x) = ap Some (reference_so scope x)
part_so scope (Joined at ts) = part_so scope ts
part_so scope NoTarget = refl
part_so scope (Targets t ts) = ap₂ first_or (part_so scope t) (part_so scope ts)

pub same_form_of : (scope : Scope) (t : Target) → target_form scope (unplaced_target t) ≡ target_form scope t
same_form_of scope t = ap form_or_name (part_so scope t)

-- ---- statements

first_so : (scope : Scope) (x : Statement) → first_target scope (unplaced_statement x) ≡ first_target scope x
first_so scope (Block at label body) = first_so scope body
first_so scope (If at c x) = first_so scope x
first_so scope (IfElse at c x y) = ap₂ first_or (first_so scope x) (first_so scope y)
first_so scope (Case at kind x items) = first_so scope items
first_so scope (Assignment t x) = ap Some (same_form_of scope t)
first_so scope (Default at body) = first_so scope body
first_so scope (Match ls body) = first_so scope body
first_so scope (Statements x xs) = ap₂ first_or (first_so scope x) (first_so scope xs)
first_so scope other = refl

number_so : (ms : List Mention) → first_number (map mention_unplaced ms) ≡ first_number ms
number_so [] = refl
number_so (m ∷ ms) = ap (λ (k : ℕ). cond (not (m.order == 0)) (1 + k) 0) (number_so ms)

pub same_shown : (scope : Scope) (x : Statement) → statement_shown scope (unplaced_statement x) ≡ statement_shown scope x
same_shown scope x =
    ap₂ shown_with (ap first_number (same_targets 0 x) ∙ number_so (statement_targets 0 x)) (ap form_or_name (first_so scope x))
