-- Expressions and targets as plain data (IEEE 1364-2005, clauses 5.1, 5.2 and A.8.5). A list is its first part and then the rest.
use Rattle.ls_text.specs.declared.place.Place.{Place}
use Rattle.verilog_ast.specs.declared.identifier.Identifier.{Identifier}
use Rattle.verilog_ast.specs.declared.number.Number.{Number}
use Rattle.verilog_ast.specs.declared.unary_operator.UnaryOperator.{UnaryOperator}
use Rattle.verilog_ast.specs.declared.binary_operator.BinaryOperator.{BinaryOperator}

pub data Expression : Type 0 where
  Literal : (at : Place) (number : Number) → Expression
  -- a name, without a select and with each kind of select
  Whole : (name : Identifier) → Expression
  BitSelect : (name : Identifier) (index : Expression) → Expression
  PartSelect : (name : Identifier) (high low : Expression) → Expression
  UpwardSelect : (name : Identifier) (base width : Expression) → Expression
  DownwardSelect : (name : Identifier) (base width : Expression) → Expression
  Unary : (at : Place) (op : UnaryOperator) (operand : Expression) → Expression
  Binary : (op : BinaryOperator) (left right : Expression) → Expression
  Conditional : (condition yes other : Expression) → Expression
  Concatenation : (at : Place) (parts : Expression) → Expression
  Replication : (at : Place) (count parts : Expression) → Expression
  Bracketed : (at : Place) (inner : Expression) → Expression
  -- the parts of a concatenation
  NoPart : Expression
  Parts : (first rest : Expression) → Expression

-- what an assignment writes
pub data Target : Type 0 where
  -- a name with its select or without, which is an expression
  Reference : (reference : Expression) → Target
  Joined : (at : Place) (targets : Target) → Target
  -- the targets of a concatenation
  NoTarget : Target
  Targets : (first rest : Target) → Target
