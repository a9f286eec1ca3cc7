-- A declaration and a connection are read in one way.
use Rattle.std.proofs.Common.{◌≡◌, List, ◌∷◌, Bool, Option, Some, None, refl, sym, ap, ap₂}
use Rattle.verilog_lex.specs.declared.token.Token.{Token}
use Rattle.verilog_ast.specs.declared.identifier.Identifier.{Identifier}
use Rattle.verilog_ast.specs.declared.expression.Expr.{Expr}
use Rattle.verilog_ast.specs.declared.range.Range.{Range}
use Rattle.verilog_ast.specs.declared.shape.Shape.{Shape}
use Rattle.verilog_ast.specs.declared.variable.Variable.{Variable}
use Rattle.verilog_ast.specs.declared.reg_variable.RegVariable.{RegVariable}
use Rattle.verilog_ast.specs.declared.parameter.Parameter.{Parameter}
use Rattle.verilog_ast.specs.declared.port_net.PortNet.{PortNet}
use Rattle.verilog_ast.specs.declared.named_connection.NamedConnection.{NamedConnection}
use Rattle.verilog_ast.specs.declared.ordered_connection.OrderedConnection.{OrderedConnection}
use Rattle.verilog_ast.specs.declared.connections.Connections.{Connections}
use Rattle.verilog_ast.specs.declared.connections.Connections.TheVariants as connections
use Rattle.verilog_ast.specs.declared.instance.Instance.{Instance}
use Rattle.verilog_ast.proofs.Equal.{ap₃}
use Rattle.verilog_expr.specs.Tokens.{identifier_of, place_at}
use Rattle.verilog_expr.specs.Grammar.{begins_expression}
use Rattle.verilog_decl.specs.Declarations.{Spells, AShape, OptionalSigned, OptionalRange, OptionalWire, OptionalNet, Names, NamesBehind, OtherNames, AVariable, OptionalValue, Variables, VariablesBehind, OtherVariables, ARegVariable, RegVariables, RegVariablesBehind, OtherRegVariables, AParameter, Parameters, ParametersBehind, OtherParameters, Overrides, Instances, InstancesBehind, OtherInstances, AnInstance, AConnections, ANamedConnection, NamedBehind, OtherNamed, AnOrdered, OrderedBehind, OtherOrdered, OptionalExpression}
use Rattle.verilog_decl.specs.Declarations.{shape, not_signed, is_signed, no_range, a_range, no_wire, a_wire, no_net, net_wire, net_reg, names, names_behind, no_name, another_name, variable, no_value, a_value, variables, variables_behind, no_variable, another_variable, reg_variable, reg_variables, reg_variables_behind, no_reg_variable, another_reg_variable, parameter, parameters, parameters_behind, no_parameter, another_parameter, no_override, an_override, instances, instances_behind, no_instance, another_instance, instance_, by_name, by_order, named, named_behind, no_named, another_named, ordered, ordered_behind, no_ordered, another_ordered, no_expression, an_expression}
use Rattle.verilog_expr.proofs.OneToken.{kind_of, same_token, two_kinds, no_kind, no_beginning}
use Rattle.verilog_expr.proofs.SameReadings.{same_expression, same_range}

-- ---- declarations

one_optional_signed : {x y : Bool} {s q r p : List Token} → Spells (OptionalSigned x) s r → Spells (OptionalSigned y) q p → s ≡ q
    → (x ≡ y) × (r ≡ p)
one_optional_signed (not_signed free) (not_signed free') same = (refl, same)
one_optional_signed (not_signed free) (is_signed t') same = no_kind (kind_of t') free (sym same)
one_optional_signed (is_signed t) (not_signed free') same = no_kind (kind_of t) free' same
one_optional_signed (is_signed t) (is_signed t') same = (refl, (same_token t t' same).1)

one_optional_range : {x y : Option Range} {s q r p : List Token} → Spells (OptionalRange x) s r → Spells (OptionalRange y) q p → s ≡ q
    → (x ≡ y) × (r ≡ p)
one_optional_range (no_range free) (no_range free') same = (refl, same)
one_optional_range (no_range free) (a_range is' x') same = no_kind (sym is') free (sym same)
one_optional_range (a_range is x) (no_range free') same = no_kind (sym is) free' same
one_optional_range (a_range is x) (a_range is' x') same = let a = same_range x x' same in (ap Some a.0, a.1)

pub one_shape : {x y : Shape} {s q r p : List Token} → Spells (AShape x) s r → Spells (AShape y) q p → s ≡ q → (x ≡ y) × (r ≡ p)
one_shape (shape x y) (shape x' y') same =
    let a = one_optional_signed x x' same in let b = one_optional_range y y' a.1 in
    (ap₂ (λ (x : Bool) (y : Option Range). record { signed = x; range = y }) a.0 b.0, b.1)

pub one_optional_wire : {x y : PortNet} {s q r p : List Token} → Spells (OptionalWire x) s r → Spells (OptionalWire y) q p → s ≡ q → (x ≡ y) × (r ≡ p)
one_optional_wire (no_wire free) (no_wire free') same = (refl, same)
one_optional_wire (no_wire free) (a_wire t') same = no_kind (kind_of t') free (sym same)
one_optional_wire (a_wire t) (no_wire free') same = no_kind (kind_of t) free' same
one_optional_wire (a_wire t) (a_wire t') same = (refl, (same_token t t' same).1)

pub one_optional_net : {x y : PortNet} {s q r p : List Token} → Spells (OptionalNet x) s r → Spells (OptionalNet y) q p → s ≡ q → (x ≡ y) × (r ≡ p)
one_optional_net (no_net free others) (no_net free' others') same = (refl, same)
one_optional_net (no_net free others) (net_wire t') same = no_kind (kind_of t') free (sym same)
one_optional_net (no_net free others) (net_reg t') same = no_kind (kind_of t') others (sym same)
one_optional_net (net_wire t) (no_net free' others') same = no_kind (kind_of t) free' same
one_optional_net (net_wire t) (net_wire t') same = (refl, (same_token t t' same).1)
one_optional_net (net_wire t) (net_reg t') same = two_kinds (kind_of t) (kind_of t') same (λ is. cc)
one_optional_net (net_reg t) (no_net free' others') same = no_kind (kind_of t) others' same
one_optional_net (net_reg t) (net_wire t') same = two_kinds (kind_of t) (kind_of t') same (λ is. cc)
one_optional_net (net_reg t) (net_reg t') same = (refl, (same_token t t' same).1)

one_other_names : {x y : List Identifier} {s q r p : List Token} → Spells (OtherNames x) s r → Spells (OtherNames y) q p → s ≡ q
    → (x ≡ y) × (r ≡ p)
one_other_names (no_name free) (no_name free') same = (refl, same)
one_other_names (no_name free) (another_name t' u' xs') same = no_kind (kind_of t') free (sym same)
one_other_names (another_name t u xs) (no_name free') same = no_kind (kind_of t) free' same
one_other_names (another_name t u xs) (another_name t' u' xs') same =
    let a = same_token t t' same in let b = same_token u u' a.1 in let c = one_other_names xs xs' b.1 in
    (ap₂ (λ (u : Token) (xs : List Identifier). identifier_of u ∷ xs) b.0 c.0, c.1)

one_names_behind : {x y : Identifier} {u v : List Identifier} {s q r p : List Token} → Spells (NamesBehind x u) s r → Spells (NamesBehind y v) q p
    → x ≡ y → s ≡ q → (u ≡ v) × (r ≡ p)
one_names_behind (names_behind xs) (names_behind xs') is same =
    let a = one_other_names xs xs' same in (ap₂ (λ (x : Identifier) (xs : List Identifier). x ∷ xs) is a.0, a.1)

pub one_names : {x y : List Identifier} {s q r p : List Token} → Spells (Names x) s r → Spells (Names y) q p → s ≡ q → (x ≡ y) × (r ≡ p)
one_names (names t xs) (names t' xs') same = let a = same_token t t' same in one_names_behind xs xs' (ap identifier_of a.0) a.1

one_optional_value : {x y : Option Expr} {s q r p : List Token} → Spells (OptionalValue x) s r → Spells (OptionalValue y) q p → s ≡ q
    → (x ≡ y) × (r ≡ p)
one_optional_value (no_value free) (no_value free') same = (refl, same)
one_optional_value (no_value free) (a_value t' x') same = no_kind (kind_of t') free (sym same)
one_optional_value (a_value t x) (no_value free') same = no_kind (kind_of t) free' same
one_optional_value (a_value t x) (a_value t' x') same = let a = same_token t t' same in let b = same_expression x x' a.1 in (ap Some b.0, b.1)

pub one_variable : {x y : Variable} {s q r p : List Token} → Spells (AVariable x) s r → Spells (AVariable y) q p → s ≡ q → (x ≡ y) × (r ≡ p)
one_variable (variable t x) (variable t' x') same =
    let a = same_token t t' same in let b = one_optional_value x x' a.1 in
    (ap₂ (λ (t : Token) (x : Option Expr). record { name = identifier_of t; value = x }) a.0 b.0, b.1)

one_other_variables : {x y : List Variable} {s q r p : List Token} → Spells (OtherVariables x) s r → Spells (OtherVariables y) q p → s ≡ q
    → (x ≡ y) × (r ≡ p)
one_other_variables (no_variable free) (no_variable free') same = (refl, same)
one_other_variables (no_variable free) (another_variable t' x' xs') same = no_kind (kind_of t') free (sym same)
one_other_variables (another_variable t x xs) (no_variable free') same = no_kind (kind_of t) free' same
one_other_variables (another_variable t x xs) (another_variable t' x' xs') same =
    let a = same_token t t' same in let b = one_variable x x' a.1 in let c = one_other_variables xs xs' b.1 in
    (ap₂ (λ (x : Variable) (xs : List Variable). x ∷ xs) b.0 c.0, c.1)

one_variables_behind : {x y : Variable} {u v : List Variable} {s q r p : List Token} → Spells (VariablesBehind x u) s r
    → Spells (VariablesBehind y v) q p → x ≡ y → s ≡ q → (u ≡ v) × (r ≡ p)
one_variables_behind (variables_behind xs) (variables_behind xs') is same =
    let a = one_other_variables xs xs' same in (ap₂ (λ (x : Variable) (xs : List Variable). x ∷ xs) is a.0, a.1)

pub one_variables : {x y : List Variable} {s q r p : List Token} → Spells (Variables x) s r → Spells (Variables y) q p → s ≡ q → (x ≡ y) × (r ≡ p)
one_variables (variables x xs) (variables x' xs') same = let a = one_variable x x' same in one_variables_behind xs xs' a.0 a.1

one_reg_variable : {x y : RegVariable} {s q r p : List Token} → Spells (ARegVariable x) s r → Spells (ARegVariable y) q p → s ≡ q
    → (x ≡ y) × (r ≡ p)
one_reg_variable (reg_variable x) (reg_variable x') same =
    let a = one_variable x x' same in (ap (λ (x : Variable). record { name = x.name; value = x.value; addresses = None }) a.0, a.1)

one_other_reg_variables : {x y : List RegVariable} {s q r p : List Token} → Spells (OtherRegVariables x) s r → Spells (OtherRegVariables y) q p → s ≡ q
    → (x ≡ y) × (r ≡ p)
one_other_reg_variables (no_reg_variable free) (no_reg_variable free') same = (refl, same)
one_other_reg_variables (no_reg_variable free) (another_reg_variable t' x' xs') same = no_kind (kind_of t') free (sym same)
one_other_reg_variables (another_reg_variable t x xs) (no_reg_variable free') same = no_kind (kind_of t) free' same
one_other_reg_variables (another_reg_variable t x xs) (another_reg_variable t' x' xs') same =
    let a = same_token t t' same in let b = one_reg_variable x x' a.1 in let c = one_other_reg_variables xs xs' b.1 in
    (ap₂ (λ (x : RegVariable) (xs : List RegVariable). x ∷ xs) b.0 c.0, c.1)

one_reg_variables_behind : {x y : RegVariable} {u v : List RegVariable} {s q r p : List Token} → Spells (RegVariablesBehind x u) s r
    → Spells (RegVariablesBehind y v) q p → x ≡ y → s ≡ q → (u ≡ v) × (r ≡ p)
one_reg_variables_behind (reg_variables_behind xs) (reg_variables_behind xs') is same =
    let a = one_other_reg_variables xs xs' same in (ap₂ (λ (x : RegVariable) (xs : List RegVariable). x ∷ xs) is a.0, a.1)

pub one_reg_variables : {x y : List RegVariable} {s q r p : List Token} → Spells (RegVariables x) s r → Spells (RegVariables y) q p → s ≡ q
    → (x ≡ y) × (r ≡ p)
one_reg_variables (reg_variables x xs) (reg_variables x' xs') same = let a = one_reg_variable x x' same in one_reg_variables_behind xs xs' a.0 a.1

pub one_parameter : {x y : Parameter} {s q r p : List Token} → Spells (AParameter x) s r → Spells (AParameter y) q p → s ≡ q → (x ≡ y) × (r ≡ p)
one_parameter (parameter t u x) (parameter t' u' x') same =
    let a = same_token t t' same in let b = same_token u u' a.1 in let c = same_expression x x' b.1 in
    (ap₂ (λ (t : Token) (x : Expr). record { name = identifier_of t; value = x }) a.0 c.0, c.1)

one_other_parameters : {x y : List Parameter} {s q r p : List Token} → Spells (OtherParameters x) s r → Spells (OtherParameters y) q p → s ≡ q
    → (x ≡ y) × (r ≡ p)
one_other_parameters (no_parameter free) (no_parameter free') same = (refl, same)
one_other_parameters (no_parameter free) (another_parameter t' x' xs') same = no_kind (kind_of t') free (sym same)
one_other_parameters (another_parameter t x xs) (no_parameter free') same = no_kind (kind_of t) free' same
one_other_parameters (another_parameter t x xs) (another_parameter t' x' xs') same =
    let a = same_token t t' same in let b = one_parameter x x' a.1 in let c = one_other_parameters xs xs' b.1 in
    (ap₂ (λ (x : Parameter) (xs : List Parameter). x ∷ xs) b.0 c.0, c.1)

one_parameters_behind : {x y : Parameter} {u v : List Parameter} {s q r p : List Token} → Spells (ParametersBehind x u) s r
    → Spells (ParametersBehind y v) q p → x ≡ y → s ≡ q → (u ≡ v) × (r ≡ p)
one_parameters_behind (parameters_behind xs) (parameters_behind xs') is same =
    let a = one_other_parameters xs xs' same in (ap₂ (λ (x : Parameter) (xs : List Parameter). x ∷ xs) is a.0, a.1)

pub one_parameters : {x y : List Parameter} {s q r p : List Token} → Spells (Parameters x) s r → Spells (Parameters y) q p → s ≡ q → (x ≡ y) × (r ≡ p)
one_parameters (parameters x xs) (parameters x' xs') same = let a = one_parameter x x' same in one_parameters_behind xs xs' a.0 a.1

-- ---- connections

one_optional_expression : {x y : Option Expr} {s q r p : List Token} → Spells (OptionalExpression x) s r → Spells (OptionalExpression y) q p
    → s ≡ q → (x ≡ y) × (r ≡ p)
one_optional_expression (no_expression free) (no_expression free') same = (refl, same)
one_optional_expression (no_expression free) (an_expression go' x') same = no_beginning begins_expression go' free (sym same)
one_optional_expression (an_expression go x) (no_expression free') same = no_beginning begins_expression go free' same
one_optional_expression (an_expression go x) (an_expression go' x') same = let a = same_expression x x' same in (ap Some a.0, a.1)

one_ordered : {x y : OrderedConnection} {s q r p : List Token} → Spells (AnOrdered x) s r → Spells (AnOrdered y) q p → s ≡ q → (x ≡ y) × (r ≡ p)
one_ordered (ordered x) (ordered x') same =
    let a = one_optional_expression x x' same in
    (ap₂ (λ (s : List Token) (x : Option Expr). record { at = place_at s; value = x }) same a.0, a.1)

one_other_ordered : {x y : List OrderedConnection} {s q r p : List Token} → Spells (OtherOrdered x) s r → Spells (OtherOrdered y) q p → s ≡ q
    → (x ≡ y) × (r ≡ p)
one_other_ordered (no_ordered free) (no_ordered free') same = (refl, same)
one_other_ordered (no_ordered free) (another_ordered t' x' xs') same = no_kind (kind_of t') free (sym same)
one_other_ordered (another_ordered t x xs) (no_ordered free') same = no_kind (kind_of t) free' same
one_other_ordered (another_ordered t x xs) (another_ordered t' x' xs') same =
    let a = same_token t t' same in let b = one_ordered x x' a.1 in let c = one_other_ordered xs xs' b.1 in
    (ap₂ (λ (x : OrderedConnection) (xs : List OrderedConnection). x ∷ xs) b.0 c.0, c.1)

one_ordered_behind : {x y : OrderedConnection} {u v : List OrderedConnection} {s q r p : List Token} → Spells (OrderedBehind x u) s r
    → Spells (OrderedBehind y v) q p → x ≡ y → s ≡ q → (u ≡ v) × (r ≡ p)
one_ordered_behind (ordered_behind xs) (ordered_behind xs') is same =
    let a = one_other_ordered xs xs' same in (ap₂ (λ (x : OrderedConnection) (xs : List OrderedConnection). x ∷ xs) is a.0, a.1)

one_named_connection : {x y : NamedConnection} {s q r p : List Token} → Spells (ANamedConnection x) s r → Spells (ANamedConnection y) q p → s ≡ q
    → (x ≡ y) × (r ≡ p)
one_named_connection (named t u v x z) (named t' u' v' x' z') same =
    let a = same_token t t' same in let b = same_token u u' a.1 in let c = same_token v v' b.1 in let d = one_optional_expression x x' c.1 in
    let e = same_token z z' d.1 in
    (ap₃ (λ (t : Token) (u : Token) (x : Option Expr). record { at = t.at; name = identifier_of u; value = x }) a.0 b.0 d.0, e.1)

one_other_named : {x y : List NamedConnection} {s q r p : List Token} → Spells (OtherNamed x) s r → Spells (OtherNamed y) q p → s ≡ q
    → (x ≡ y) × (r ≡ p)
one_other_named (no_named free) (no_named free') same = (refl, same)
one_other_named (no_named free) (another_named t' x' xs') same = no_kind (kind_of t') free (sym same)
one_other_named (another_named t x xs) (no_named free') same = no_kind (kind_of t) free' same
one_other_named (another_named t x xs) (another_named t' x' xs') same =
    let a = same_token t t' same in let b = one_named_connection x x' a.1 in let c = one_other_named xs xs' b.1 in
    (ap₂ (λ (x : NamedConnection) (xs : List NamedConnection). x ∷ xs) b.0 c.0, c.1)

one_named_behind : {x y : NamedConnection} {u v : List NamedConnection} {s q r p : List Token} → Spells (NamedBehind x u) s r
    → Spells (NamedBehind y v) q p → x ≡ y → s ≡ q → (u ≡ v) × (r ≡ p)
one_named_behind (named_behind xs) (named_behind xs') is same =
    let a = one_other_named xs xs' same in (ap₂ (λ (x : NamedConnection) (xs : List NamedConnection). x ∷ xs) is a.0, a.1)

one_connections : {x y : Connections} {s q r p : List Token} → Spells (AConnections x) s r → Spells (AConnections y) q p → s ≡ q
    → (x ≡ y) × (r ≡ p)
one_connections (by_name is x xs) (by_name is' x' xs') same =
    let a = one_named_connection x x' same in let b = one_named_behind xs xs' a.0 a.1 in (ap connections.Named b.0, b.1)
one_connections (by_name is x xs) (by_order free' x' xs') same = no_kind (sym is) free' same
one_connections (by_order free x xs) (by_name is' x' xs') same = no_kind (sym is') free (sym same)
one_connections (by_order free x xs) (by_order free' x' xs') same =
    let a = one_ordered x x' same in let b = one_ordered_behind xs xs' a.0 a.1 in (ap connections.Ordered b.0, b.1)

pub one_overrides : {x y : Option Connections} {s q r p : List Token} → Spells (Overrides x) s r → Spells (Overrides y) q p → s ≡ q
    → (x ≡ y) × (r ≡ p)
one_overrides (no_override free) (no_override free') same = (refl, same)
one_overrides (no_override free) (an_override t' u' x' v') same = no_kind (kind_of t') free (sym same)
one_overrides (an_override t u x v) (no_override free') same = no_kind (kind_of t) free' same
one_overrides (an_override t u x v) (an_override t' u' x' v') same =
    let a = same_token t t' same in let b = same_token u u' a.1 in let c = one_connections x x' b.1 in let d = same_token v v' c.1 in
    (ap Some c.0, d.1)

one_instance : {x y : Instance} {s q r p : List Token} → Spells (AnInstance x) s r → Spells (AnInstance y) q p → s ≡ q → (x ≡ y) × (r ≡ p)
one_instance (instance_ t u x v) (instance_ t' u' x' v') same =
    let a = same_token t t' same in let b = same_token u u' a.1 in let c = one_connections x x' b.1 in let d = same_token v v' c.1 in
    (ap₂ (λ (t : Token) (x : Connections). record { name = identifier_of t; connections = x }) a.0 c.0, d.1)

one_other_instances : {x y : List Instance} {s q r p : List Token} → Spells (OtherInstances x) s r → Spells (OtherInstances y) q p → s ≡ q
    → (x ≡ y) × (r ≡ p)
one_other_instances (no_instance free) (no_instance free') same = (refl, same)
one_other_instances (no_instance free) (another_instance t' x' xs') same = no_kind (kind_of t') free (sym same)
one_other_instances (another_instance t x xs) (no_instance free') same = no_kind (kind_of t) free' same
one_other_instances (another_instance t x xs) (another_instance t' x' xs') same =
    let a = same_token t t' same in let b = one_instance x x' a.1 in let c = one_other_instances xs xs' b.1 in
    (ap₂ (λ (x : Instance) (xs : List Instance). x ∷ xs) b.0 c.0, c.1)

one_instances_behind : {x y : Instance} {u v : List Instance} {s q r p : List Token} → Spells (InstancesBehind x u) s r
    → Spells (InstancesBehind y v) q p → x ≡ y → s ≡ q → (u ≡ v) × (r ≡ p)
one_instances_behind (instances_behind xs) (instances_behind xs') is same =
    let a = one_other_instances xs xs' same in (ap₂ (λ (x : Instance) (xs : List Instance). x ∷ xs) is a.0, a.1)

pub one_instances : {x y : List Instance} {s q r p : List Token} → Spells (Instances x) s r → Spells (Instances y) q p → s ≡ q → (x ≡ y) × (r ≡ p)
one_instances (instances x xs) (instances x' xs') same = let a = one_instance x x' same in one_instances_behind xs xs' a.0 a.1
