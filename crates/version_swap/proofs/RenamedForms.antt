-- The form in which a target is shown, and which one a statement is named by, are the same under other names (IEEE 1364-2005, 5.2.1).
use Rattle.std.proofs.Common.{◌≡◌, ℕ, ◌+◌, ◌==◌, not, cond, Bool, List, [], ◌∷◌, map, Some, refl, ◌∙◌, ap, ap₂}
use Rattle.ls_text.specs.declared.name_id.NameId.{NameId}
use Rattle.typed_ir.specs.declared.target_form.TargetForm.TheVariants as form
use Rattle.typed_ir.specs.declared.mention.Mention.{Mention}
use Rattle.verilog_ast.specs.Expressions.{Expression, BitSelect, UpwardSelect, DownwardSelect, Target, Reference, Joined, NoTarget, Targets}
use Rattle.verilog_ast.specs.Renaming.{expression_as, target_as, statement_as}
use Rattle.verilog_ast.specs.Statements.{Statement, Block, If, IfElse, Case, Assignment, Default, Match, Statements}
use Rattle.width_rules.specs.Renaming.{MeansSame}
use Rattle.width_rules.specs.Scopes.{Scope}
use Rattle.width_rules.proofs.RenamedSizes.{same_fixed}
use Rattle.width_rules.specs.Forms.{known_as, reference_form, first_or, form_or_name, first_part, target_form, first_target, first_number, statement_shown}
use Rattle.width_rules.specs.Mentions.{statement_targets}
use Rattle.width_rules.proofs.Shown.{shown_with}
use Rattle.version_swap.specs.RenamedFindings.{mention_as}
use Rattle.version_swap.proofs.RenamedMentions.{same_targets}

reference_so : (f : NameId → NameId) (scope other : Scope) (e : Expression) → MeansSame f scope other
    → reference_form other (expression_as f e) ≡ reference_form scope e
reference_so f scope other (BitSelect n x) same = ap (λ (b : Bool). known_as b form.Bit) (same_fixed f scope other x same)
reference_so f scope other (UpwardSelect n x y) same = ap (λ (b : Bool). known_as b form.Range) (same_fixed f scope other x same)
reference_so f scope other (DownwardSelect n x y) same = ap (λ (b : Bool). known_as b form.Range) (same_fixed f scope other x same)
reference_so f scope other rest same = refl

part_so : (f : NameId → NameId) (scope other : Scope) (t : Target) → MeansSame f scope other → first_part other (target_as f t) ≡ first_part scope t
part_so f scope other (Reference x) same = ap Some (reference_so f scope other x same)
part_so f scope other (Joined at ts) same = part_so f scope other ts same
part_so f scope other NoTarget same = refl
part_so f scope other (Targets t ts) same = ap₂ first_or (part_so f scope other t same) (part_so f scope other ts same)

pub same_form_of : (f : NameId → NameId) (scope other : Scope) (t : Target) → MeansSame f scope other
    → target_form other (target_as f t) ≡ target_form scope t
same_form_of f scope other t same = ap form_or_name (part_so f scope other t same)

-- ---- statements

first_so : (f : NameId → NameId) (scope other : Scope) (x : Statement) → MeansSame f scope other
    → first_target other (statement_as f x) ≡ first_target scope x
first_so f scope other (Block at label body) same = first_so f scope other body same
first_so f scope other (If at c x) same = first_so f scope other x same
first_so f scope other (IfElse at c x y) same = ap₂ first_or (first_so f scope other x same) (first_so f scope other y same)
first_so f scope other (Case at kind x items) same = first_so f scope other items same
first_so f scope other (Assignment t x) same = ap Some (same_form_of f scope other t same)
first_so f scope other (Default at body) same = first_so f scope other body same
first_so f scope other (Match ls body) same = first_so f scope other body same
first_so f scope other (Statements x xs) same = ap₂ first_or (first_so f scope other x same) (first_so f scope other xs same)
first_so f scope other rest same = refl

number_so : (f : NameId → NameId) (ms : List Mention) → first_number (map (mention_as f) ms) ≡ first_number ms
number_so f [] = refl
number_so f (m ∷ ms) = ap (λ (k : ℕ). cond (not (m.order == 0)) (1 + k) 0) (number_so f ms)

pub same_shown : (f : NameId → NameId) (scope other : Scope) (x : Statement) → MeansSame f scope other
    → statement_shown other (statement_as f x) ≡ statement_shown scope x
same_shown f scope other x same =
    ap₂ shown_with (ap first_number (same_targets f 0 x) ∙ number_so f (statement_targets 0 x)) (ap form_or_name (first_so f scope other x same))
