-- Which item without a generate construct stands for which tokens (IEEE 1364-2005: nets, variables and parameters clause 4,
-- continuous assignments 6.1, instances 12.1.2, events 9.7).
use Rattle.std.specs.Prelude.{◌≢◌, List, [], ◌∷◌, Option}
use Rattle.ls_text.specs.declared.place.Place.{Place}
use Rattle.verilog_lex.specs.declared.token.Token.{Token}
use Rattle.verilog_lex.specs.declared.kind.Kind.TheVariants as k
use Rattle.verilog_ast.specs.declared.identifier.Identifier.{Identifier}
use Rattle.verilog_ast.specs.declared.expression.Expr.{Expr}
use Rattle.verilog_ast.specs.declared.target.Lhs.{Lhs}
use Rattle.verilog_ast.specs.declared.sign.Sign.TheVariants.{Blocking, Nonblocking}
use Rattle.verilog_ast.specs.declared.statement.Stmt.{Stmt}
use Rattle.verilog_ast.specs.declared.shape.Shape.{Shape}
use Rattle.verilog_ast.specs.declared.variable.Variable.{Variable}
use Rattle.verilog_ast.specs.declared.reg_variable.RegVariable.{RegVariable}
use Rattle.verilog_ast.specs.declared.parameter.Parameter.{Parameter}
use Rattle.verilog_ast.specs.declared.connections.Connections.{Connections}
use Rattle.verilog_ast.specs.declared.instance.Instance.{Instance}
use Rattle.verilog_ast.specs.declared.continuous.Continuous.{Continuous}
use Rattle.verilog_ast.specs.declared.plain_item.PlainItem.{PlainItem}
use Rattle.verilog_ast.specs.declared.plain_item.PlainItem.TheVariants as item
use Rattle.verilog_expr.specs.Tokens.{next, Takes, identifier_of}
use Rattle.verilog_expr.specs.Spells as expressions
use Rattle.verilog_decl.specs.Declarations as declarations
use Rattle.verilog_stmt.specs.Statements as statements

pub data Phrase : Type 0 where
  APlainItem : PlainItem → Phrase
  -- what follows `always @`, and what follows its bracket
  AnEvent : Place → PlainItem → Phrase
  Trigger : Place → PlainItem → Phrase
  EdgeEnd : Phrase
  Assignments : List Continuous → Phrase
  -- the first, and further ones, which stand here
  AssignmentsBehind : Continuous → List Continuous → Phrase
  OtherAssignments : List Continuous → Phrase
  AContinuous : Continuous → Phrase

-- The phrase stands at the front of the first tokens, and the second are left. An option or repetition is
-- taken where the next token can begin it.
pub data Spells : Phrase → List Token → List Token → Type 0 where
  wire_item : {x : Shape} {xs : List Variable} {s a b c r : List Token} {t u : Token}
      → Takes k.Wire s a t
      → declarations.Spells (declarations.AShape x) a b
      → declarations.Spells (declarations.Variables xs) b c
      → Takes k.Semicolon c r u
      → Spells (APlainItem (item.Wire t.at x xs)) s r
  reg_item : {x : Shape} {xs : List RegVariable} {s a b c r : List Token} {t u : Token}
      → Takes k.Reg s a t
      → declarations.Spells (declarations.AShape x) a b
      → declarations.Spells (declarations.RegVariables xs) b c
      → Takes k.Semicolon c r u
      → Spells (APlainItem (item.Reg t.at x xs)) s r
  local_item : {x : Shape} {xs : List Parameter} {s a b c r : List Token} {t u : Token}
      → Takes k.LocalParam s a t
      → declarations.Spells (declarations.AShape x) a b
      → declarations.Spells (declarations.Parameters xs) b c
      → Takes k.Semicolon c r u
      → Spells (APlainItem (item.LocalParameter t.at x xs)) s r
  genvar_item : {xs : List Identifier} {s a b r : List Token} {t u : Token}
      → Takes k.Genvar s a t
      → declarations.Spells (declarations.Names xs) a b
      → Takes k.Semicolon b r u
      → Spells (APlainItem (item.Genvar t.at xs)) s r
  assign_item : {xs : List Continuous} {s a b r : List Token} {t u : Token}
      → Takes k.Assign s a t
      → Spells (Assignments xs) a b
      → Takes k.Semicolon b r u
      → Spells (APlainItem (item.Assign t.at xs)) s r
  always_item : {x : PlainItem} {s a b r : List Token} {t u : Token}
      → Takes k.Always s a t
      → Takes k.AtSign a b u
      → Spells (AnEvent t.at x) b r
      → Spells (APlainItem x) s r
  instances_item : {x : Option Connections} {xs : List Instance} {s a b c r : List Token} {t u : Token}
      → Takes k.Word s a t
      → declarations.Spells (declarations.Overrides x) a b
      → declarations.Spells (declarations.Instances xs) b c
      → Takes k.Semicolon c r u
      → Spells (APlainItem (item.Instances (identifier_of t) x xs)) s r
  at_all : {at : Place} {x : Stmt} {s a r : List Token} {t : Token}
      → Takes k.Star s a t
      → statements.Spells (statements.AStatement Blocking x) a r
      → Spells (AnEvent at (item.Combinational at x)) s r
  at_bracket : {at : Place} {x : PlainItem} {s a r : List Token} {t : Token}
      → Takes k.LeftParen s a t
      → Spells (Trigger at x) a r
      → Spells (AnEvent at x) s r
  at_inputs : {at : Place} {x : Stmt} {s a b r : List Token} {t u : Token}
      → Takes k.Star s a t
      → Takes k.RightParen a b u
      → statements.Spells (statements.AStatement Blocking x) b r
      → Spells (Trigger at (item.Combinational at x)) s r
  at_edge : {at : Place} {x : Stmt} {s a b c r : List Token} {t u : Token}
      → Takes k.Posedge s a t
      → Takes k.Word a b u
      → Spells EdgeEnd b c
      → statements.Spells (statements.AStatement Nonblocking x) c r
      → Spells (Trigger at (item.Clocked at (identifier_of u) x)) s r
  edge_end : {s r : List Token} {t : Token}
      → Takes k.RightParen s r t
      → Spells EdgeEnd s r
  assignments : {x : Continuous} {xs : List Continuous} {s a r : List Token}
      → Spells (AContinuous x) s a
      → Spells (AssignmentsBehind x xs) a r
      → Spells (Assignments xs) s r
  assignments_behind : {x : Continuous} {xs : List Continuous} {s r : List Token}
      → Spells (OtherAssignments xs) s r
      → Spells (AssignmentsBehind x (x ∷ xs)) s r
  no_assignment : {s : List Token}
      → next s ≢ k.Comma
      → Spells (OtherAssignments []) s s
  another_assignment : {x : Continuous} {xs : List Continuous} {s a b r : List Token} {t : Token}
      → Takes k.Comma s a t
      → Spells (AContinuous x) a b
      → Spells (OtherAssignments xs) b r
      → Spells (OtherAssignments (x ∷ xs)) s r
  continuous : {x : Lhs} {y : Expr} {s a b r : List Token} {t : Token}
      → statements.Spells (statements.ATarget x) s a
      → Takes k.Equal a b t
      → expressions.Spells (expressions.AnExpression y) b r
      → Spells (AContinuous (record { target = x; value = y })) s r
