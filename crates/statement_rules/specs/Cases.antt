-- The items of a case before its length and its sign are known: what the walk of the code keeps until it has seen all labels.
use Rattle.std.specs.Prelude.{ℕ, ◌%◌, ◌^◌, max, Bool, false, ◌&&◌, List, [], ◌∷◌, ◌++◌, Option, Some, None, Box, map}
use Rattle.std.specs.Global.{Global}
use Rattle.std.specs.Option.{option_map}
use Rattle.typed_ir.specs.declared.arm.Arm.{Arm as SizedArm}
use Rattle.typed_ir.specs.declared.stmt.Stmt.{Stmt}
use Rattle.typed_ir.specs.Stmts as s
use Rattle.typed_ir.specs.Stmts.{SizedItem, SizedStmt, SizedArms}
use Rattle.typed_ir.specs.Statements.{stmt_of, item_of}
use Rattle.verilog_ast.specs.Expressions.{Expression}
use Rattle.verilog_ast.specs.Statements.{CaseLabel, DontCare, Compared, Statement, Default, Match, Statements}
use Rattle.width_rules.specs.declared.writer.Writer.{Writer}
use Rattle.statement_rules.specs.declared.open_label.OpenLabel.{OpenLabel}
use Rattle.statement_rules.specs.declared.open_label.OpenLabel.TheVariants as label
use Rattle.statement_rules.specs.declared.open_arm.OpenArm.{OpenArm}
use Rattle.width_rules.specs.Scopes.{Scope}
use Rattle.width_rules.specs.Signs.{is_signed}
use Rattle.width_rules.specs.Sizes.{length as bits, push, literal_length, constant_at}
use Rattle.width_rules.specs.Opened.{Opened, opened, closed, open_of}
use Rattle.statement_rules.specs.Statements.{items_length, items_signed, sized_statement, sized_arms, sized_default}

-- ---- labels

pub data OpenedLabel : Type 0 where
  -- a literal of which some bits are ignored
  Ignoring : (width value ignored : ℕ) → OpenedLabel
  Comparing : (form : Opened) → OpenedLabel

abbrev pub label_form : OpenLabel → OpenedLabel
label_form (label.DontCare bits ignored) = Ignoring bits.width bits.value ignored
label_form (label.Compared m) = Comparing (opened m.form)

abbrev pub label_bits : OpenLabel → ℕ
label_bits (label.DontCare bits ignored) = bits.width
label_bits (label.Compared m) = m.length

abbrev pub label_sign : OpenLabel → Bool
label_sign (label.DontCare bits ignored) = false
label_sign (label.Compared m) = m.signed

abbrev pub open_label : Scope → CaseLabel → OpenedLabel
open_label scope (DontCare at x) =
    Ignoring (literal_length x.size) (x.value % 2 ^ literal_length x.size) (x.mask % 2 ^ literal_length x.size)
open_label scope (Compared x) = Comparing (open_of scope x)

-- at the length and the sign of the case
abbrev pub closed_label : ℕ → Bool → OpenedLabel → SizedItem
closed_label l t (Ignoring width value ignored) = record { ignored = ignored; item = constant_at width value l false }
closed_label l t (Comparing form) = record { ignored = 0; item = closed form l t }

-- ---- items with labels

pub record OpenedArm : Type 0 where
  pub labels : List OpenedLabel
  pub body : SizedStmt

abbrev pub arm_form : OpenArm → OpenedArm
arm_form x = record { labels = map label_form x.labels.items; body = stmt_of x.body }

-- an item, sized
pub record ClosedArm : Type 0 where
  pub items : List SizedItem
  pub body : SizedStmt

abbrev pub sized_arm : SizedArm → ClosedArm
sized_arm x = record { items = map item_of x.items.items; body = stmt_of x.body }

abbrev pub closed_arm : ℕ → Bool → OpenedArm → ClosedArm
closed_arm l t x = record { items = map (closed_label l t) x.labels; body = x.body }

-- these before what is done where none matches
abbrev pub arms_from : List ClosedArm → SizedStmt → SizedArms
arms_from [] otherwise = s.Default otherwise
arms_from (x ∷ xs) otherwise = s.Arm x.items x.body (arms_from xs otherwise)

-- ---- all items

abbrev pub open_item : Scope → Writer → Statement → List OpenedArm
open_item scope by (Match ls body) = record { labels = map (open_label scope) ls; body = sized_statement scope by body } ∷ []
open_item scope by other = []

-- of items one after another
abbrev pub open_items : Scope → Writer → Statement → List OpenedArm
open_items scope by (Statements x xs) = open_item scope by x ++ open_items scope by xs
open_items scope by other = []

-- the default so far: the first one stays
abbrev pub earlier_or : Option SizedStmt → SizedStmt → Option SizedStmt
earlier_or None x = Some x
earlier_or (Some before) x = Some before

-- where one more item has this body
abbrev pub with_default : Option SizedStmt → Statement → SizedStmt → Option SizedStmt
with_default before (Default at x) body = earlier_or before body
with_default before other body = before

-- what is done where no item matches: the default so far, else this
abbrev pub otherwise_or : Option SizedStmt → SizedStmt → SizedStmt
otherwise_or None x = x
otherwise_or (Some before) x = before

-- a default of the code
abbrev pub default_form : Option (Box Stmt Global) → Option SizedStmt
default_form x = option_map (λ b. stmt_of b.value) x

-- a case of this expression and these items
abbrev pub sized_case : Scope → Writer → Expression → Statement → SizedStmt
sized_case scope by x items =
    s.Case (push scope x (max (bits scope x) (items_length scope items)) (is_signed scope x && items_signed scope items))
    (sized_arms scope by (max (bits scope x) (items_length scope items)) (is_signed scope x && items_signed scope items) (sized_default scope by items) items)
