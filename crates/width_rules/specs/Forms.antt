-- In which form the first part of a target is shown, and of a statement the first target (IEEE Std 1364-2005, 5.2.1, 6.1, 9.2).
use Rattle.std.specs.Prelude.{ℕ, ◌==◌, Bool, List, Option, Some, None, if◌then◌else◌}
use Rattle.std.specs.List.{position_or_len}
use Rattle.typed_ir.specs.declared.shown_target.ShownTarget.{ShownTarget}
use Rattle.typed_ir.specs.declared.target_form.TargetForm.{TargetForm}
use Rattle.typed_ir.specs.declared.target_form.TargetForm.TheVariants as form
use Rattle.verilog_ast.specs.Expressions.{Expression, Whole, BitSelect, PartSelect, UpwardSelect, DownwardSelect, Target, Reference, Joined, NoTarget, Targets}
use Rattle.verilog_ast.specs.Statements.{Statement, Block, If, IfElse, Case, Assignment, Null, Default, Match, NoStatement, Statements}
use Rattle.typed_ir.specs.declared.mention.Mention.{Mention}
use Rattle.width_rules.specs.Scopes.{Scope}
use Rattle.width_rules.specs.Sizes.{is_constant}
use Rattle.width_rules.specs.Mentions.{statement_targets}

-- a select whose bits are known only at run time is shown as its name
abbrev pub known_as : Bool → TargetForm → TargetForm
known_as constant shown = if constant then shown else form.Name

abbrev pub reference_form : Scope → Expression → TargetForm
reference_form scope (Whole n) = form.Name
reference_form scope (BitSelect n x) = known_as (is_constant scope x) form.Bit
reference_form scope (PartSelect n x y) = form.Range
reference_form scope (UpwardSelect n x y) = known_as (is_constant scope x) form.Range
reference_form scope (DownwardSelect n x y) = known_as (is_constant scope x) form.Range
reference_form scope other = form.Name

-- the first one that is there
abbrev pub first_or : Option TargetForm → Option TargetForm → Option TargetForm
first_or None y = y
first_or (Some x) y = Some x

abbrev pub form_or_name : Option TargetForm → TargetForm
form_or_name None = form.Name
form_or_name (Some x) = x

-- of the first part
abbrev pub first_part : Scope → Target → Option TargetForm
first_part scope (Reference x) = Some (reference_form scope x)
first_part scope (Joined at ts) = first_part scope ts
first_part scope NoTarget = None
first_part scope (Targets t ts) = first_or (first_part scope t) (first_part scope ts)

abbrev pub target_form : Scope → Target → TargetForm
target_form scope t = form_or_name (first_part scope t)

-- of the first assignment, in the order of the text
abbrev pub first_target : Scope → Statement → Option TargetForm
first_target scope (Block at label body) = first_target scope body
first_target scope (If at c x) = first_target scope x
first_target scope (IfElse at c x y) = first_or (first_target scope x) (first_target scope y)
first_target scope (Case at kind x items) = first_target scope items
first_target scope (Assignment t x) = Some (target_form scope t)
first_target scope (Null at) = None
first_target scope (Default at body) = first_target scope body
first_target scope (Match ls body) = first_target scope body
first_target scope NoStatement = None
first_target scope (Statements x xs) = first_or (first_target scope x) (first_target scope xs)

-- of a statement; its name where it assigns nothing
abbrev pub statement_form : Scope → Statement → TargetForm
statement_form scope x = form_or_name (first_target scope x)

-- the number of the first target in the text among the targets of a statement, which are listed with their numbers in the text
abbrev pub first_number : List Mention → ℕ
first_number ms = position_or_len (λ m. m.order == 0) ms

-- which target of a statement shows it
abbrev pub statement_shown : Scope → Statement → ShownTarget
statement_shown scope x = record { number = first_number (statement_targets 0 x); form = statement_form scope x }
