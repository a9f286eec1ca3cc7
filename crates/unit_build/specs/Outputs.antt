-- What an output connection drives: it stands there as an expression (IEEE Std 1364-2005, 12.3.9, A.4.1).
use Rattle.std.specs.Prelude.{Bool, true, false, ◌&&◌, if◌then◌else◌, List, [], ◌∷◌, ◌++◌, Option, Some, None}
use Rattle.ls_text.specs.declared.fault.Fault.{Fault}
use Rattle.typed_ir.specs.declared.target_form.TargetForm.{TargetForm}
use Rattle.typed_ir.specs.declared.target_form.TargetForm.TheVariants.{Name, Bit, Range}
use Rattle.typed_ir.specs.declared.mention.Mention.{Mention}
use Rattle.verilog_ast.specs.Expressions as e
use Rattle.verilog_ast.specs.Expressions.{Expression, Target, Reference, Joined, NoTarget, Targets}
use Rattle.width_rules.specs.declared.writer.Writer.TheVariants as writer
use Rattle.width_rules.specs.declared.due.Due.TheVariants.{AnyValue, ConstantOnly}
use Rattle.width_rules.specs.Scopes.{Scope}
use Rattle.width_rules.specs.Sizes.{length}
use Rattle.width_rules.specs.Faults.{faults, fault_of, total_faults}
use Rattle.width_rules.specs.References.{reference_faults}
use Rattle.statement_rules.specs.Targets.{target_faults, kind_faults}
use Rattle.width_rules.specs.Names.{expression_targets}
use Rattle.width_rules.specs.Mentions.{numbered}

-- ---- an expression as a target: a name, a select, or a concatenation of such

abbrev pub is_target : Expression → Bool
is_target (e.Literal at x) = false
is_target (e.Whole n) = true
is_target (e.BitSelect n x) = true
is_target (e.PartSelect n x y) = true
is_target (e.UpwardSelect n x y) = true
is_target (e.DownwardSelect n x y) = true
is_target (e.Unary at op x) = false
is_target (e.Binary op x y) = false
is_target (e.Conditional c x y) = false
is_target (e.Concatenation at xs) = is_target xs
is_target (e.Replication at c xs) = false
is_target (e.Bracketed at x) = false
is_target e.NoPart = true
is_target (e.Parts x xs) = is_target x && is_target xs

-- what it is left of an assignment; what is no target is none
abbrev pub target_at : Expression → Target
target_at (e.Literal at x) = NoTarget
target_at (e.Whole n) = Reference (e.Whole n)
target_at (e.BitSelect n x) = Reference (e.BitSelect n x)
target_at (e.PartSelect n x y) = Reference (e.PartSelect n x y)
target_at (e.UpwardSelect n x y) = Reference (e.UpwardSelect n x y)
target_at (e.DownwardSelect n x y) = Reference (e.DownwardSelect n x y)
target_at (e.Unary at op x) = NoTarget
target_at (e.Binary op x y) = NoTarget
target_at (e.Conditional c x y) = NoTarget
target_at (e.Concatenation at xs) = Joined at (target_at xs)
target_at (e.Replication at c xs) = NoTarget
target_at (e.Bracketed at x) = NoTarget
target_at e.NoPart = NoTarget
target_at (e.Parts x xs) = Targets (target_at x) (target_at xs)

abbrev pub as_target : Expression → Option Target
as_target x = if is_target x then Some (target_at x) else None

-- ---- what may be wrong with it

-- of what is none, part by part: a name or select as in a target, of a concatenation its width too, and anything else as it is read
abbrev pub part_faults : Scope → Expression → List Fault
part_faults scope (e.Whole n) = reference_faults scope ConstantOnly (e.Whole n)
part_faults scope (e.BitSelect n x) = reference_faults scope ConstantOnly (e.BitSelect n x)
part_faults scope (e.PartSelect n x y) = reference_faults scope ConstantOnly (e.PartSelect n x y)
part_faults scope (e.UpwardSelect n x y) = reference_faults scope ConstantOnly (e.UpwardSelect n x y)
part_faults scope (e.DownwardSelect n x y) = reference_faults scope ConstantOnly (e.DownwardSelect n x y)
part_faults scope (e.Concatenation at xs) = part_faults scope xs ++ total_faults at (length scope xs)
part_faults scope e.NoPart = []
part_faults scope (e.Parts x xs) = part_faults scope x ++ part_faults scope xs
part_faults scope other = faults scope AnyValue other

-- its names and selects, whose indices have to be constant
abbrev pub written_faults : Scope → Expression → Option Target → List Fault
written_faults scope x None = part_faults scope x
written_faults scope x (Some t) = target_faults scope ConstantOnly t

abbrev pub output_faults : Scope → Expression → List Fault
output_faults scope x = written_faults scope x (as_target x)

-- 33 at a part that is no target, or that no continuous assignment may write
abbrev pub part_kinds : Scope → Expression → List Fault
part_kinds scope (e.Whole n) = kind_faults scope writer.Continuous (Reference (e.Whole n))
part_kinds scope (e.BitSelect n x) = kind_faults scope writer.Continuous (Reference (e.BitSelect n x))
part_kinds scope (e.PartSelect n x y) = kind_faults scope writer.Continuous (Reference (e.PartSelect n x y))
part_kinds scope (e.UpwardSelect n x y) = kind_faults scope writer.Continuous (Reference (e.UpwardSelect n x y))
part_kinds scope (e.DownwardSelect n x y) = kind_faults scope writer.Continuous (Reference (e.DownwardSelect n x y))
part_kinds scope (e.Concatenation at xs) = part_kinds scope xs
part_kinds scope e.NoPart = []
part_kinds scope (e.Parts x xs) = part_kinds scope x ++ part_kinds scope xs
part_kinds scope other = fault_of 33 other ∷ []

abbrev pub written_kinds : Scope → Expression → Option Target → List Fault
written_kinds scope x None = part_kinds scope x
written_kinds scope x (Some t) = kind_faults scope writer.Continuous t

abbrev pub output_kinds : Scope → Expression → List Fault
output_kinds scope x = written_kinds scope x (as_target x)

-- ---- how it is shown

abbrev pub reference_form : Expression → TargetForm
reference_form (e.Whole n) = Name
reference_form (e.BitSelect n x) = Bit
reference_form other = Range

-- by its first part
abbrev pub output_form : Target → TargetForm
output_form (Reference x) = reference_form x
output_form (Joined at ts) = output_form ts
output_form NoTarget = Name
output_form (Targets t ts) = output_form t

-- ---- the names of its parts, from left to right

abbrev pub output_mentions : Expression → List Mention
output_mentions x = if is_target x then numbered 0 (expression_targets x) else []
