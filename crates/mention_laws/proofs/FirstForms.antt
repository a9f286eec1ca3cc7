-- The form in which a statement is shown is that of the first name that its text writes.
use Rattle.std.proofs.Common.{◌≡◌, ℕ, ◌+◌, ◌==◌, Bool, true, false, [], ◌++◌, nat_lt, refl, ◌∙◌, ap, ap₂, subst, true≢false}
use Rattle.std.specs.Prelude.{Option, Some, None}
use Rattle.std.specs.Option.{option_map}
use Rattle.ls_text.specs.declared.place.Place.{Place}
use Rattle.ls_text.proofs.Lists.{some_is_none}
use Rattle.typed_ir.specs.declared.target_form.TargetForm.{TargetForm}
use Rattle.verilog_ast.specs.Expressions.{Expression, Target, Reference, Joined, NoTarget, Targets}
use Rattle.verilog_ast.specs.Statements.{Statement, Block, If, IfElse, Case, Assignment, Null, Default, Match, NoStatement, Statements}
use Rattle.width_rules.specs.declared.due.Due.{Due}
use Rattle.width_rules.specs.declared.due.Due.TheVariants.{AnyValue}
use Rattle.width_rules.specs.Faults.{fault, fault_if, total_faults, faults}
use Rattle.width_rules.specs.Scopes.{Scope}
use Rattle.width_rules.proofs.Reading.{left_none, right_none}
use Rattle.statement_rules.specs.Statements.{labels_faults, expression_faults}
use Rattle.statement_rules.specs.Targets.{target_length, target_faults}
use Rattle.statement_rules.specs.Written.{IsTargetWritten, IsStatementWritten}
use Rattle.width_rules.specs.Forms as f
use Rattle.width_rules.specs.Forms.{reference_form, first_or, form_or_name, target_form, first_target}
use Rattle.mention_laws.specs.Shown.{either, first_part, first_written}

-- the form of one that may be there
abbrev form_of : Scope → Option Expression → Option TargetForm
form_of scope r = option_map (reference_form scope) r

first_of_both : (scope : Scope) (a b : Option Expression) → first_or (form_of scope a) (form_of scope b) ≡ form_of scope (either a b)
first_of_both scope None b = refl
first_of_both scope (Some x) b = refl

part_formed : (scope : Scope) (t : Target) → f.first_part scope t ≡ form_of scope (first_part t)
part_formed scope (Reference x) = refl
part_formed scope (Joined at ts) = part_formed scope ts
part_formed scope NoTarget = refl
part_formed scope (Targets t ts) = ap₂ first_or (part_formed scope t) (part_formed scope ts) ∙ first_of_both scope (first_part t) (first_part ts)

-- ---- a target without a part has no length

left_nothing : (a b : Option Expression) → either a b ≡ None → a ≡ None
left_nothing None b h = refl
left_nothing (Some x) b h = h

right_nothing : (a b : Option Expression) → either a b ≡ None → b ≡ None
right_nothing None b h = h
right_nothing (Some x) b h = absurd (true≢false (ap is_there h))
  where
    is_there : Option Expression → Bool
    is_there None = false
    is_there (Some y) = true

no_length : (scope : Scope) (t : Target) → first_part t ≡ None → target_length scope t ≡ 0
no_length scope (Reference x) h = absurd (true≢false (ap is_there h))
  where
    is_there : Option Expression → Bool
    is_there None = false
    is_there (Some y) = true
no_length scope (Joined at ts) h = no_length scope ts h
no_length scope NoTarget h = refl
no_length scope (Targets t ts) h =
    ap₂ (λ (a b : ℕ). a + b) (no_length scope t (left_nothing (first_part t) (first_part ts) h))
    (no_length scope ts (right_nothing (first_part t) (first_part ts) h))

empty_faulty : (at : Place) (width : ℕ) → width ≡ 0 → total_faults at width ≡ [] → ⊥
empty_faulty at width is h =
    some_is_none (fault 26 at []) [] (subst (λ n. fault_if (n == 0) (fault 26 at []) ≡ []) is
    (left_none (fault_if (width == 0) (fault 26 at [])) (fault_if (nat_lt 128 width) (fault 31 at [])) h))

joined_formed : (scope : Scope) (o : Option Expression) → (o ≡ None → ⊥) → Some (form_or_name (form_of scope o)) ≡ form_of scope o
joined_formed scope None h = absurd (h refl)
joined_formed scope (Some x) h = refl

target_formed : (scope : Scope) (due : Due) (t : Target) → IsTargetWritten t → target_faults scope due t ≡ []
    → Some (target_form scope t) ≡ form_of scope (first_part t)
target_formed scope due (Reference x) w h = refl
target_formed scope due (Joined at ts) w h =
    ap (λ (o : Option TargetForm). Some (form_or_name o)) (part_formed scope ts)
    ∙ joined_formed scope (first_part ts)
    (λ e. empty_faulty at (target_length scope ts) (no_length scope ts e)
    (right_none (target_faults scope due ts) (total_faults at (target_length scope ts)) h))
target_formed scope due NoTarget w h = absurd w
target_formed scope due (Targets t ts) w h = absurd w

-- ---- statements

pub statement_formed : (scope : Scope) (x : Statement) → IsStatementWritten x → expression_faults scope x ≡ []
    → first_target scope x ≡ form_of scope (first_written x)
statement_formed scope (Block at label body) w h = statement_formed scope body w h
statement_formed scope (If at c x) w h = statement_formed scope x w.1 (right_none (faults scope AnyValue c) (expression_faults scope x) h)
statement_formed scope (IfElse at c x y) w h =
    let rest : expression_faults scope x ++ expression_faults scope y ≡ [] =
    right_none (faults scope AnyValue c) (expression_faults scope x ++ expression_faults scope y) h in
    ap₂ first_or (statement_formed scope x w.1.0 (left_none (expression_faults scope x) (expression_faults scope y) rest))
    (statement_formed scope y w.1.1 (right_none (expression_faults scope x) (expression_faults scope y) rest))
    ∙ first_of_both scope (first_written x) (first_written y)
statement_formed scope (Case at kind x items) w h =
    statement_formed scope items w.1 (right_none (faults scope AnyValue x) (expression_faults scope items) h)
statement_formed scope (Assignment t x) w h =
    target_formed scope AnyValue t w.0 (left_none (target_faults scope AnyValue t) (faults scope AnyValue x) h)
statement_formed scope (Null at) w h = refl
statement_formed scope (Default at body) w h = statement_formed scope body w h
statement_formed scope (Match ls body) w h = statement_formed scope body w.1 (right_none (labels_faults scope ls) (expression_faults scope body) h)
statement_formed scope NoStatement w h = refl
statement_formed scope (Statements x xs) w h =
    ap₂ first_or (statement_formed scope x w.0 (left_none (expression_faults scope x) (expression_faults scope xs) h))
    (statement_formed scope xs w.1 (right_none (expression_faults scope x) (expression_faults scope xs) h))
    ∙ first_of_both scope (first_written x) (first_written xs)
