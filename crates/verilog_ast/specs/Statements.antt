-- Statements of `always` blocks as plain data (IEEE 1364-2005, clauses 9.2, 9.4, 9.5 and 9.8).
use Rattle.std.specs.Prelude.{List, Option}
use Rattle.ls_text.specs.declared.place.Place.{Place}
use Rattle.verilog_ast.specs.declared.identifier.Identifier.{Identifier}
use Rattle.verilog_ast.specs.declared.pattern.Pattern.{Pattern}
use Rattle.verilog_ast.specs.declared.case_kind.CaseKind.{CaseKind}
use Rattle.verilog_ast.specs.Expressions.{Expression, Target}

-- what an item of a `case` is compared with
pub data CaseLabel : Type 0 where
  DontCare : (at : Place) (pattern : Pattern) → CaseLabel
  Compared : (value : Expression) → CaseLabel

pub data Statement : Type 0 where
  Block : (at : Place) (label : Option Identifier) (body : Statement) → Statement
  If : (at : Place) (condition : Expression) (yes : Statement) → Statement
  IfElse : (at : Place) (condition : Expression) (yes other : Statement) → Statement
  Case : (at : Place) (kind : CaseKind) (subject : Expression) (items : Statement) → Statement
  Assignment : (target : Target) (value : Expression) → Statement
  Null : (at : Place) → Statement
  -- the items of a `case`
  Default : (at : Place) (body : Statement) → Statement
  Match : (labels : List CaseLabel) (body : Statement) → Statement
  -- statements or items, one after another
  NoStatement : Statement
  Statements : (first rest : Statement) → Statement
