-- What items mention, and the forms in which their targets are shown, where signals have other numbers: the same.
use Rattle.std.proofs.Common.{◌≡◌, ℕ, Bool, List, [], ◌∷◌, cond, refl, ◌∙◌, ap, ap₂}
use Rattle.std.specs.Prelude.{Option, Some}
use Rattle.std.proofs.Math.Path.{fun_ext}
use Rattle.ls_text.proofs.Lists.{joined_so}
use Rattle.typed_ir.specs.declared.target_form.TargetForm.{TargetForm}
use Rattle.typed_ir.specs.declared.target_form.TargetForm.TheVariants as form
use Rattle.verilog_ast.specs.declared.identifier.Identifier.{Identifier}
use Rattle.verilog_ast.specs.Expressions.{Expression, Literal, Whole, BitSelect, PartSelect, UpwardSelect, DownwardSelect, Unary, Binary, Conditional, Concatenation, Replication, Bracketed, NoPart, Parts, Target, Reference, Joined, NoTarget, Targets}
use Rattle.verilog_ast.specs.Statements.{Statement, Block, If, IfElse, Case, Assignment, Null, Default, Match, NoStatement, Statements}
use Rattle.width_rules.specs.Scopes.{Scope, is_signal}
use Rattle.width_rules.specs.Sizes.{is_constant}
use Rattle.statement_rules.specs.Renumbering.{renumbered}
use Rattle.statement_rules.proofs.RenumberedForms.{signal_as, fixed_as}
use Rattle.width_rules.specs.Forms.{known_as, reference_form, first_or, form_or_name, first_part, target_form, first_target, first_number, statement_shown}
use Rattle.width_rules.specs.Mentions.{Listing, reading, mentions, statement_reads, statement_targets}
use Rattle.width_rules.specs.Names.{signal_name, run_time, expression_names, index_of, index_names}
use Rattle.width_rules.proofs.Shown.{shown_with}

-- ---- names that are read

signal_name_as : (g : ℕ → ℕ) (scope : Scope) (n : Identifier) → signal_name (renumbered g scope) n ≡ signal_name scope n
signal_name_as g scope n = ap (λ (b : Bool). cond b (n ∷ []) []) (signal_as g (scope n.name.0))

run_time_as : (g : ℕ → ℕ) (scope : Scope) (n : Identifier) (x : Expression) → expression_names (renumbered g scope) x ≡ expression_names scope x
    → run_time (is_signal (renumbered g scope n.name.0)) (is_constant (renumbered g scope) x) (expression_names (renumbered g scope) x)
    ≡ run_time (is_signal (scope n.name.0)) (is_constant scope x) (expression_names scope x)
run_time_as g scope n x same =
    ap₂ (λ (a b : Bool). run_time a b (expression_names (renumbered g scope) x)) (signal_as g (scope n.name.0)) (fixed_as g scope x)
    ∙ ap (run_time (is_signal (scope n.name.0)) (is_constant scope x)) same

names_as : (g : ℕ → ℕ) (scope : Scope) (e : Expression) → expression_names (renumbered g scope) e ≡ expression_names scope e
names_as g scope (Literal at x) = refl
names_as g scope (Whole n) = signal_name_as g scope n
names_as g scope (BitSelect n x) = joined_so (signal_name_as g scope n) (run_time_as g scope n x (names_as g scope x))
names_as g scope (PartSelect n x y) = signal_name_as g scope n
names_as g scope (UpwardSelect n x y) = joined_so (signal_name_as g scope n) (run_time_as g scope n x (names_as g scope x))
names_as g scope (DownwardSelect n x y) = joined_so (signal_name_as g scope n) (run_time_as g scope n x (names_as g scope x))
names_as g scope (Unary at op x) = names_as g scope x
names_as g scope (Binary op x y) = joined_so (names_as g scope x) (names_as g scope y)
names_as g scope (Conditional c x y) = joined_so (names_as g scope c) (joined_so (names_as g scope x) (names_as g scope y))
names_as g scope (Concatenation at xs) = names_as g scope xs
names_as g scope (Replication at c xs) = names_as g scope xs
names_as g scope (Bracketed at x) = names_as g scope x
names_as g scope NoPart = refl
names_as g scope (Parts x xs) = joined_so (names_as g scope x) (names_as g scope xs)

index_as : (g : ℕ → ℕ) (scope : Scope) (x : Expression) → index_of (renumbered g scope) x ≡ index_of scope x
index_as g scope (BitSelect n x) = run_time_as g scope n x (names_as g scope x)
index_as g scope (UpwardSelect n x y) = run_time_as g scope n x (names_as g scope x)
index_as g scope (DownwardSelect n x y) = run_time_as g scope n x (names_as g scope x)
index_as g scope other = refl

indices_as : (g : ℕ → ℕ) (scope : Scope) (t : Target) → index_names (renumbered g scope) t ≡ index_names scope t
indices_as g scope (Reference x) = index_as g scope x
indices_as g scope (Joined at ts) = indices_as g scope ts
indices_as g scope NoTarget = refl
indices_as g scope (Targets t ts) = joined_so (indices_as g scope t) (indices_as g scope ts)

reading_as : (g : ℕ → ℕ) (scope : Scope) → reading (renumbered g scope) ≡ reading scope
reading_as g scope =
    ap₂ (λ (f : Expression → List Identifier) (h : Target → Expression → List Identifier). record { expression = f; assignment = h })
    (fun_ext (λ x. names_as g scope x))
    (fun_ext (λ t. fun_ext (λ x. joined_so (indices_as g scope t) (names_as g scope x))))

pub reads_as : (g : ℕ → ℕ) (scope : Scope) (k : ℕ) (x : Statement) → statement_reads (renumbered g scope) k x ≡ statement_reads scope k x
reads_as g scope k x = ap (λ (w : Listing). mentions w k x) (reading_as g scope)

-- ---- forms of targets

known_form_as : (g : ℕ → ℕ) (scope : Scope) (x : Expression) (shown : TargetForm)
    → known_as (is_constant (renumbered g scope) x) shown ≡ known_as (is_constant scope x) shown
known_form_as g scope x shown = ap (λ (b : Bool). known_as b shown) (fixed_as g scope x)

reference_form_as : (g : ℕ → ℕ) (scope : Scope) (x : Expression) → reference_form (renumbered g scope) x ≡ reference_form scope x
reference_form_as g scope (BitSelect n x) = known_form_as g scope x form.Bit
reference_form_as g scope (UpwardSelect n x y) = known_form_as g scope x form.Range
reference_form_as g scope (DownwardSelect n x y) = known_form_as g scope x form.Range
reference_form_as g scope other = refl

first_part_as : (g : ℕ → ℕ) (scope : Scope) (t : Target) → first_part (renumbered g scope) t ≡ first_part scope t
first_part_as g scope (Reference x) = ap (λ (f : TargetForm). Some f) (reference_form_as g scope x)
first_part_as g scope (Joined at ts) = first_part_as g scope ts
first_part_as g scope NoTarget = refl
first_part_as g scope (Targets t ts) = ap₂ first_or (first_part_as g scope t) (first_part_as g scope ts)

pub target_form_as : (g : ℕ → ℕ) (scope : Scope) (t : Target) → target_form (renumbered g scope) t ≡ target_form scope t
target_form_as g scope t = ap form_or_name (first_part_as g scope t)

first_target_as : (g : ℕ → ℕ) (scope : Scope) (x : Statement) → first_target (renumbered g scope) x ≡ first_target scope x
first_target_as g scope (Block at label body) = first_target_as g scope body
first_target_as g scope (If at c x) = first_target_as g scope x
first_target_as g scope (IfElse at c x y) = ap₂ first_or (first_target_as g scope x) (first_target_as g scope y)
first_target_as g scope (Case at kind x items) = first_target_as g scope items
first_target_as g scope (Assignment t x) = ap (λ (f : TargetForm). Some f) (target_form_as g scope t)
first_target_as g scope (Null at) = refl
first_target_as g scope (Default at body) = first_target_as g scope body
first_target_as g scope (Match ls body) = first_target_as g scope body
first_target_as g scope NoStatement = refl
first_target_as g scope (Statements x xs) = ap₂ first_or (first_target_as g scope x) (first_target_as g scope xs)

pub shown_as : (g : ℕ → ℕ) (scope : Scope) (x : Statement) → statement_shown (renumbered g scope) x ≡ statement_shown scope x
shown_as g scope x = ap (λ (f : Option TargetForm). shown_with (first_number (statement_targets 0 x)) (form_or_name f)) (first_target_as g scope x)
