-- Which declaration or connection stands for which tokens (IEEE 1364-2005: declarations clause 4, instances 12.1.2).
use Rattle.std.specs.Prelude.{◌≡◌, ◌≢◌, List, [], ◌∷◌, Bool, true, false, Option, Some, None}
use Rattle.verilog_lex.specs.declared.token.Token.{Token}
use Rattle.verilog_lex.specs.declared.kind.Kind.TheVariants as k
use Rattle.verilog_ast.specs.declared.identifier.Identifier.{Identifier}
use Rattle.verilog_ast.specs.declared.expression.Expr.{Expr}
use Rattle.verilog_ast.specs.declared.range.Range.{Range}
use Rattle.verilog_ast.specs.declared.shape.Shape.{Shape}
use Rattle.verilog_ast.specs.declared.variable.Variable.{Variable}
use Rattle.verilog_ast.specs.declared.reg_variable.RegVariable.{RegVariable}
use Rattle.verilog_ast.specs.declared.parameter.Parameter.{Parameter}
use Rattle.verilog_ast.specs.declared.port_net.PortNet.{PortNet}
use Rattle.verilog_ast.specs.declared.port_net.PortNet.TheVariants as net
use Rattle.verilog_ast.specs.declared.named_connection.NamedConnection.{NamedConnection}
use Rattle.verilog_ast.specs.declared.ordered_connection.OrderedConnection.{OrderedConnection}
use Rattle.verilog_ast.specs.declared.connections.Connections.{Connections}
use Rattle.verilog_ast.specs.declared.connections.Connections.TheVariants as connections
use Rattle.verilog_ast.specs.declared.instance.Instance.{Instance}
use Rattle.verilog_expr.specs.Tokens.{next, Takes, identifier_of, place_at}
use Rattle.verilog_expr.specs.Grammar.{begins_expression}
use Rattle.verilog_expr.specs.Spells as expressions

pub data Phrase : Type 0 where
  AShape : Shape → Phrase
  OptionalSigned : Bool → Phrase
  OptionalRange : Option Range → Phrase
  OptionalWire : PortNet → Phrase
  OptionalNet : PortNet → Phrase
  Names : List Identifier → Phrase
  -- the first, and further ones, which stand here
  NamesBehind : Identifier → List Identifier → Phrase
  OtherNames : List Identifier → Phrase
  AVariable : Variable → Phrase
  OptionalValue : Option Expr → Phrase
  Variables : List Variable → Phrase
  VariablesBehind : Variable → List Variable → Phrase
  OtherVariables : List Variable → Phrase
  ARegVariable : RegVariable → Phrase
  RegVariables : List RegVariable → Phrase
  RegVariablesBehind : RegVariable → List RegVariable → Phrase
  OtherRegVariables : List RegVariable → Phrase
  AParameter : Parameter → Phrase
  Parameters : List Parameter → Phrase
  ParametersBehind : Parameter → List Parameter → Phrase
  OtherParameters : List Parameter → Phrase
  Overrides : Option Connections → Phrase
  Instances : List Instance → Phrase
  InstancesBehind : Instance → List Instance → Phrase
  OtherInstances : List Instance → Phrase
  AnInstance : Instance → Phrase
  AConnections : Connections → Phrase
  ANamedConnection : NamedConnection → Phrase
  NamedBehind : NamedConnection → List NamedConnection → Phrase
  OtherNamed : List NamedConnection → Phrase
  AnOrdered : OrderedConnection → Phrase
  OrderedBehind : OrderedConnection → List OrderedConnection → Phrase
  OtherOrdered : List OrderedConnection → Phrase
  OptionalExpression : Option Expr → Phrase

-- The phrase stands at the front of the first tokens, and the second are left. An option or repetition is
-- taken where the next token can begin it.
pub data Spells : Phrase → List Token → List Token → Type 0 where
  shape : {x : Bool} {y : Option Range} {s a r : List Token}
      → Spells (OptionalSigned x) s a
      → Spells (OptionalRange y) a r
      → Spells (AShape (record { signed = x; range = y })) s r
  not_signed : {s : List Token}
      → next s ≢ k.Signed
      → Spells (OptionalSigned false) s s
  is_signed : {s r : List Token} {t : Token}
      → Takes k.Signed s r t
      → Spells (OptionalSigned true) s r
  no_range : {s : List Token}
      → next s ≢ k.LeftBracket
      → Spells (OptionalRange None) s s
  a_range : {x : Range} {s r : List Token}
      → k.LeftBracket ≡ next s
      → expressions.Spells (expressions.ARange x) s r
      → Spells (OptionalRange (Some x)) s r
  no_wire : {s : List Token}
      → next s ≢ k.Wire
      → Spells (OptionalWire net.Nothing) s s
  a_wire : {s r : List Token} {t : Token}
      → Takes k.Wire s r t
      → Spells (OptionalWire net.Wire) s r
  no_net : {s : List Token}
      → next s ≢ k.Wire
      → next s ≢ k.Reg
      → Spells (OptionalNet net.Nothing) s s
  net_wire : {s r : List Token} {t : Token}
      → Takes k.Wire s r t
      → Spells (OptionalNet net.Wire) s r
  net_reg : {s r : List Token} {t : Token}
      → Takes k.Reg s r t
      → Spells (OptionalNet net.Reg) s r
  names : {xs : List Identifier} {s a r : List Token} {t : Token}
      → Takes k.Word s a t
      → Spells (NamesBehind (identifier_of t) xs) a r
      → Spells (Names xs) s r
  names_behind : {x : Identifier} {xs : List Identifier} {s r : List Token}
      → Spells (OtherNames xs) s r
      → Spells (NamesBehind x (x ∷ xs)) s r
  no_name : {s : List Token}
      → next s ≢ k.Comma
      → Spells (OtherNames []) s s
  another_name : {xs : List Identifier} {s a b r : List Token} {t u : Token}
      → Takes k.Comma s a t
      → Takes k.Word a b u
      → Spells (OtherNames xs) b r
      → Spells (OtherNames (identifier_of u ∷ xs)) s r
  variable : {x : Option Expr} {s a r : List Token} {t : Token}
      → Takes k.Word s a t
      → Spells (OptionalValue x) a r
      → Spells (AVariable (record { name = identifier_of t; value = x })) s r
  no_value : {s : List Token}
      → next s ≢ k.Equal
      → Spells (OptionalValue None) s s
  a_value : {x : Expr} {s a r : List Token} {t : Token}
      → Takes k.Equal s a t
      → expressions.Spells (expressions.AnExpression x) a r
      → Spells (OptionalValue (Some x)) s r
  variables : {x : Variable} {xs : List Variable} {s a r : List Token}
      → Spells (AVariable x) s a
      → Spells (VariablesBehind x xs) a r
      → Spells (Variables xs) s r
  variables_behind : {x : Variable} {xs : List Variable} {s r : List Token}
      → Spells (OtherVariables xs) s r
      → Spells (VariablesBehind x (x ∷ xs)) s r
  no_variable : {s : List Token}
      → next s ≢ k.Comma
      → Spells (OtherVariables []) s s
  another_variable : {x : Variable} {xs : List Variable} {s a b r : List Token} {t : Token}
      → Takes k.Comma s a t
      → Spells (AVariable x) a b
      → Spells (OtherVariables xs) b r
      → Spells (OtherVariables (x ∷ xs)) s r
  reg_variable : {x : Variable} {s r : List Token}
      → Spells (AVariable x) s r
      → Spells (ARegVariable (record { name = x.name; value = x.value; addresses = None })) s r
  reg_variables : {x : RegVariable} {xs : List RegVariable} {s a r : List Token}
      → Spells (ARegVariable x) s a
      → Spells (RegVariablesBehind x xs) a r
      → Spells (RegVariables xs) s r
  reg_variables_behind : {x : RegVariable} {xs : List RegVariable} {s r : List Token}
      → Spells (OtherRegVariables xs) s r
      → Spells (RegVariablesBehind x (x ∷ xs)) s r
  no_reg_variable : {s : List Token}
      → next s ≢ k.Comma
      → Spells (OtherRegVariables []) s s
  another_reg_variable : {x : RegVariable} {xs : List RegVariable} {s a b r : List Token} {t : Token}
      → Takes k.Comma s a t
      → Spells (ARegVariable x) a b
      → Spells (OtherRegVariables xs) b r
      → Spells (OtherRegVariables (x ∷ xs)) s r
  parameter : {x : Expr} {s a b r : List Token} {t u : Token}
      → Takes k.Word s a t
      → Takes k.Equal a b u
      → expressions.Spells (expressions.AnExpression x) b r
      → Spells (AParameter (record { name = identifier_of t; value = x })) s r
  parameters : {x : Parameter} {xs : List Parameter} {s a r : List Token}
      → Spells (AParameter x) s a
      → Spells (ParametersBehind x xs) a r
      → Spells (Parameters xs) s r
  parameters_behind : {x : Parameter} {xs : List Parameter} {s r : List Token}
      → Spells (OtherParameters xs) s r
      → Spells (ParametersBehind x (x ∷ xs)) s r
  no_parameter : {s : List Token}
      → next s ≢ k.Comma
      → Spells (OtherParameters []) s s
  another_parameter : {x : Parameter} {xs : List Parameter} {s a b r : List Token} {t : Token}
      → Takes k.Comma s a t
      → Spells (AParameter x) a b
      → Spells (OtherParameters xs) b r
      → Spells (OtherParameters (x ∷ xs)) s r
  no_override : {s : List Token}
      → next s ≢ k.Hash
      → Spells (Overrides None) s s
  an_override : {x : Connections} {s a b c r : List Token} {t u v : Token}
      → Takes k.Hash s a t
      → Takes k.LeftParen a b u
      → Spells (AConnections x) b c
      → Takes k.RightParen c r v
      → Spells (Overrides (Some x)) s r
  instances : {x : Instance} {xs : List Instance} {s a r : List Token}
      → Spells (AnInstance x) s a
      → Spells (InstancesBehind x xs) a r
      → Spells (Instances xs) s r
  instances_behind : {x : Instance} {xs : List Instance} {s r : List Token}
      → Spells (OtherInstances xs) s r
      → Spells (InstancesBehind x (x ∷ xs)) s r
  no_instance : {s : List Token}
      → next s ≢ k.Comma
      → Spells (OtherInstances []) s s
  another_instance : {x : Instance} {xs : List Instance} {s a b r : List Token} {t : Token}
      → Takes k.Comma s a t
      → Spells (AnInstance x) a b
      → Spells (OtherInstances xs) b r
      → Spells (OtherInstances (x ∷ xs)) s r
  instance_ : {x : Connections} {s a b c r : List Token} {t u v : Token}
      → Takes k.Word s a t
      → Takes k.LeftParen a b u
      → Spells (AConnections x) b c
      → Takes k.RightParen c r v
      → Spells (AnInstance (record { name = identifier_of t; connections = x })) s r
  by_name : {x : NamedConnection} {xs : List NamedConnection} {s a r : List Token}
      → k.Dot ≡ next s
      → Spells (ANamedConnection x) s a
      → Spells (NamedBehind x xs) a r
      → Spells (AConnections (connections.Named xs)) s r
  by_order : {x : OrderedConnection} {xs : List OrderedConnection} {s a r : List Token}
      → next s ≢ k.Dot
      → Spells (AnOrdered x) s a
      → Spells (OrderedBehind x xs) a r
      → Spells (AConnections (connections.Ordered xs)) s r
  named : {x : Option Expr} {s a b c d r : List Token} {t u v z : Token}
      → Takes k.Dot s a t
      → Takes k.Word a b u
      → Takes k.LeftParen b c v
      → Spells (OptionalExpression x) c d
      → Takes k.RightParen d r z
      → Spells (ANamedConnection (record { at = t.at; name = identifier_of u; value = x })) s r
  named_behind : {x : NamedConnection} {xs : List NamedConnection} {s r : List Token}
      → Spells (OtherNamed xs) s r
      → Spells (NamedBehind x (x ∷ xs)) s r
  no_named : {s : List Token}
      → next s ≢ k.Comma
      → Spells (OtherNamed []) s s
  another_named : {x : NamedConnection} {xs : List NamedConnection} {s a b r : List Token} {t : Token}
      → Takes k.Comma s a t
      → Spells (ANamedConnection x) a b
      → Spells (OtherNamed xs) b r
      → Spells (OtherNamed (x ∷ xs)) s r
  ordered : {x : Option Expr} {s r : List Token}
      → Spells (OptionalExpression x) s r
      → Spells (AnOrdered (record { at = place_at s; value = x })) s r
  ordered_behind : {x : OrderedConnection} {xs : List OrderedConnection} {s r : List Token}
      → Spells (OtherOrdered xs) s r
      → Spells (OrderedBehind x (x ∷ xs)) s r
  no_ordered : {s : List Token}
      → next s ≢ k.Comma
      → Spells (OtherOrdered []) s s
  another_ordered : {x : OrderedConnection} {xs : List OrderedConnection} {s a b r : List Token} {t : Token}
      → Takes k.Comma s a t
      → Spells (AnOrdered x) a b
      → Spells (OtherOrdered xs) b r
      → Spells (OtherOrdered (x ∷ xs)) s r
  no_expression : {s : List Token}
      → begins_expression (next s) ≡ false
      → Spells (OptionalExpression None) s s
  an_expression : {x : Expr} {s r : List Token}
      → begins_expression (next s) ≡ true
      → expressions.Spells (expressions.AnExpression x) s r
      → Spells (OptionalExpression (Some x)) s r
