-- By which of its targets a statement is named: by the first one in its text (IEEE Std 1364-2005, 9.2).
use Rattle.std.specs.Prelude.{◌≡◌, [], ◌∷◌, Option, Some, None, slice_get}
use Rattle.typed_ir.specs.declared.span.Span.{Span}
use Rattle.typed_ir.specs.Stmts.{targets}
use Rattle.typed_ir.specs.declared.mention.Mention.{Mention}
use Rattle.verilog_ast.specs.Expressions.{Expression, Target, Reference, Joined, NoTarget, Targets}
use Rattle.verilog_ast.specs.Statements.{Statement, Block, If, IfElse, Case, Assignment, Null, Default, Match, NoStatement, Statements}
use Rattle.width_rules.specs.declared.writer.Writer.TheVariants.{Combinational}
use Rattle.width_rules.specs.Scopes.{Scope}
use Rattle.statement_rules.specs.Statements.{sized_statement}
use Rattle.statement_rules.specs.DeclaredValues.{signal_in}
use Rattle.width_rules.specs.Forms.{reference_form, statement_shown}
use Rattle.width_rules.specs.Mentions.{statement_targets}
use Rattle.width_rules.specs.Names.{reference_name}

-- the first one that is there
abbrev pub either : Option Expression → Option Expression → Option Expression
either None y = y
either (Some x) y = Some x

-- the first part of a target: a name with its select or without
abbrev pub first_part : Target → Option Expression
first_part (Reference x) = Some x
first_part (Joined at ts) = first_part ts
first_part NoTarget = None
first_part (Targets t ts) = either (first_part t) (first_part ts)

-- what a statement writes first in the order of its text, whatever is done when it runs
abbrev pub first_written : Statement → Option Expression
first_written (Block at label body) = first_written body
first_written (If at c x) = first_written x
first_written (IfElse at c x y) = either (first_written x) (first_written y)
first_written (Case at kind x items) = first_written items
first_written (Assignment t x) = first_part t
first_written (Null at) = None
first_written (Default at body) = first_written body
first_written (Match ls body) = first_written body
first_written NoStatement = None
first_written (Statements x xs) = either (first_written x) (first_written xs)

-- a combinational statement is named by this name with its select or without
pub record IsShownBy (scope : Scope) (x : Statement) (r : Expression) : Type 0 where
  -- it is shown in the form of this one
  pub form : (statement_shown scope x).form ≡ reference_form scope r
  -- the mention that is told has its name and its place, and is the first in the text
  pub mention : Mention
  pub told : slice_get (statement_targets 0 x) (statement_shown scope x).number ≡ Some mention
  pub named : reference_name r ≡ record { at = mention.at; name = mention.name } ∷ []
  pub leads : mention.order ≡ 0
  -- the bits that are told are of the signal of this name
  pub bits : Span
  pub there : slice_get (targets (sized_statement scope Combinational x)) (statement_shown scope x).number ≡ Some bits
  pub signal : bits.signal ≡ signal_in (scope mention.name.0)
