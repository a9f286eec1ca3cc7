-- An item without a generate construct is read in one way.
use Rattle.std.proofs.Common.{◌≡◌, List, ◌∷◌, Option, refl, sym, ap, ap₂}
use Rattle.ls_text.specs.declared.place.Place.{Place}
use Rattle.verilog_lex.specs.declared.token.Token.{Token}
use Rattle.verilog_lex.specs.declared.kind.Kind.{Kind}
use Rattle.verilog_lex.specs.declared.kind.Kind.TheVariants as k
use Rattle.verilog_ast.specs.declared.identifier.Identifier.{Identifier}
use Rattle.verilog_ast.specs.declared.expression.Expr.{Expr}
use Rattle.verilog_ast.specs.declared.target.Lhs.{Lhs}
use Rattle.verilog_ast.specs.declared.statement.Stmt.{Stmt}
use Rattle.verilog_ast.specs.declared.shape.Shape.{Shape}
use Rattle.verilog_ast.specs.declared.variable.Variable.{Variable}
use Rattle.verilog_ast.specs.declared.reg_variable.RegVariable.{RegVariable}
use Rattle.verilog_ast.specs.declared.parameter.Parameter.{Parameter}
use Rattle.verilog_ast.specs.declared.connections.Connections.{Connections}
use Rattle.verilog_ast.specs.declared.instance.Instance.{Instance}
use Rattle.verilog_ast.specs.declared.continuous.Continuous.{Continuous}
use Rattle.verilog_ast.specs.declared.plain_item.PlainItem.{PlainItem}
use Rattle.verilog_ast.specs.declared.plain_item.PlainItem.TheVariants as item
use Rattle.verilog_ast.proofs.Equal.{ap₃}
use Rattle.verilog_expr.specs.Tokens.{next, identifier_of}
use Rattle.verilog_parse.specs.Items.{Spells, APlainItem, AnEvent, Trigger, EdgeEnd, Assignments, AssignmentsBehind, OtherAssignments, AContinuous}
use Rattle.verilog_parse.specs.Items.{wire_item, reg_item, local_item, genvar_item, assign_item, always_item, instances_item, at_all, at_bracket, at_inputs, at_edge, edge_end, assignments, assignments_behind, no_assignment, another_assignment, continuous}
use Rattle.verilog_expr.proofs.OneToken.{kind_of, same_token, two_kinds, no_kind}
use Rattle.verilog_expr.proofs.SameReadings.{same_expression}
use Rattle.verilog_stmt.proofs.OneStatement.{one_target, one_statement}
use Rattle.verilog_decl.proofs.OneDeclaration.{one_shape, one_names, one_variables, one_reg_variables, one_parameters, one_overrides, one_instances}

one_continuous : {x y : Continuous} {s q r p : List Token} → Spells (AContinuous x) s r → Spells (AContinuous y) q p → s ≡ q → (x ≡ y) × (r ≡ p)
one_continuous (continuous x t y) (continuous x' t' y') same =
    let a = one_target x x' same in let b = same_token t t' a.1 in let c = same_expression y y' b.1 in
    (ap₂ (λ (x : Lhs) (y : Expr). record { target = x; value = y }) a.0 c.0, c.1)

one_other_assignments : {x y : List Continuous} {s q r p : List Token} → Spells (OtherAssignments x) s r → Spells (OtherAssignments y) q p → s ≡ q
    → (x ≡ y) × (r ≡ p)
one_other_assignments (no_assignment free) (no_assignment free') same = (refl, same)
one_other_assignments (no_assignment free) (another_assignment t' x' xs') same = no_kind (kind_of t') free (sym same)
one_other_assignments (another_assignment t x xs) (no_assignment free') same = no_kind (kind_of t) free' same
one_other_assignments (another_assignment t x xs) (another_assignment t' x' xs') same =
    let a = same_token t t' same in let b = one_continuous x x' a.1 in let c = one_other_assignments xs xs' b.1 in
    (ap₂ (λ (x : Continuous) (xs : List Continuous). x ∷ xs) b.0 c.0, c.1)

one_assignments_behind : {x y : Continuous} {u v : List Continuous} {s q r p : List Token} → Spells (AssignmentsBehind x u) s r
    → Spells (AssignmentsBehind y v) q p → x ≡ y → s ≡ q → (u ≡ v) × (r ≡ p)
one_assignments_behind (assignments_behind xs) (assignments_behind xs') is same =
    let a = one_other_assignments xs xs' same in (ap₂ (λ (x : Continuous) (xs : List Continuous). x ∷ xs) is a.0, a.1)

one_assignments : {x y : List Continuous} {s q r p : List Token} → Spells (Assignments x) s r → Spells (Assignments y) q p → s ≡ q
    → (x ≡ y) × (r ≡ p)
one_assignments (assignments x xs) (assignments x' xs') same = let a = one_continuous x x' same in one_assignments_behind xs xs' a.0 a.1

one_edge_end : {s q r p : List Token} → Spells EdgeEnd s r → Spells EdgeEnd q p → s ≡ q → r ≡ p
one_edge_end (edge_end t) (edge_end t') same = (same_token t t' same).1

one_trigger : {x y : Place} {u v : PlainItem} {s q r p : List Token} → Spells (Trigger x u) s r → Spells (Trigger y v) q p → x ≡ y → s ≡ q
    → (u ≡ v) × (r ≡ p)
one_trigger (at_inputs t u x) (at_inputs t' u' x') is same =
    let a = same_token t t' same in let b = same_token u u' a.1 in let c = one_statement x x' b.1 in (ap₂ item.Combinational is c.0, c.1)
one_trigger (at_inputs t u x) (at_edge t' u' e' x') _ same = two_kinds (kind_of t) (kind_of t') same (λ is. cc)
one_trigger (at_edge t u e x) (at_inputs t' u' x') _ same = two_kinds (kind_of t) (kind_of t') same (λ is. cc)
one_trigger (at_edge t u e x) (at_edge t' u' e' x') is same =
    let a = same_token t t' same in let b = same_token u u' a.1 in let c = one_edge_end e e' b.1 in let d = one_statement x x' c in
    (ap₃ (λ (at : Place) (u : Token) (x : Stmt). item.Clocked at (identifier_of u) x) is b.0 d.0, d.1)

one_event : {x y : Place} {u v : PlainItem} {s q r p : List Token} → Spells (AnEvent x u) s r → Spells (AnEvent y v) q p → x ≡ y → s ≡ q
    → (u ≡ v) × (r ≡ p)
one_event (at_all t x) (at_all t' x') is same = let a = same_token t t' same in let b = one_statement x x' a.1 in (ap₂ item.Combinational is b.0, b.1)
one_event (at_all t x) (at_bracket t' x') _ same = two_kinds (kind_of t) (kind_of t') same (λ is. cc)
one_event (at_bracket t x) (at_all t' x') _ same = two_kinds (kind_of t) (kind_of t') same (λ is. cc)
one_event (at_bracket t x) (at_bracket t' x') is same = let a = same_token t t' same in one_trigger x x' is a.1

-- the kind of the first token
abbrev first_kind : {x : PlainItem} {s r : List Token} → Spells (APlainItem x) s r → Kind
first_kind (wire_item t x xs u) = k.Wire
first_kind (reg_item t x xs u) = k.Reg
first_kind (local_item t x xs u) = k.LocalParam
first_kind (genvar_item t xs u) = k.Genvar
first_kind (assign_item t xs u) = k.Assign
first_kind (always_item t u x) = k.Always
first_kind (instances_item t x xs u) = k.Word

first_is : {x : PlainItem} {s r : List Token} (h : Spells (APlainItem x) s r) → next s ≡ first_kind h
first_is (wire_item t x xs u) = kind_of t
first_is (reg_item t x xs u) = kind_of t
first_is (local_item t x xs u) = kind_of t
first_is (genvar_item t xs u) = kind_of t
first_is (assign_item t xs u) = kind_of t
first_is (always_item t u x) = kind_of t
first_is (instances_item t x xs u) = kind_of t

pub one_plain_item : {x y : PlainItem} {s q r p : List Token} → Spells (APlainItem x) s r → Spells (APlainItem y) q p → s ≡ q → (x ≡ y) × (r ≡ p)
one_plain_item (wire_item t x xs u) (wire_item t' x' xs' u') same =
    let a = same_token t t' same in let b = one_shape x x' a.1 in let c = one_variables xs xs' b.1 in let d = same_token u u' c.1 in
    (ap₃ (λ (t : Token) (x : Shape) (xs : List Variable). item.Wire t.at x xs) a.0 b.0 c.0, d.1)
one_plain_item (reg_item t x xs u) (reg_item t' x' xs' u') same =
    let a = same_token t t' same in let b = one_shape x x' a.1 in let c = one_reg_variables xs xs' b.1 in let d = same_token u u' c.1 in
    (ap₃ (λ (t : Token) (x : Shape) (xs : List RegVariable). item.Reg t.at x xs) a.0 b.0 c.0, d.1)
one_plain_item (local_item t x xs u) (local_item t' x' xs' u') same =
    let a = same_token t t' same in let b = one_shape x x' a.1 in let c = one_parameters xs xs' b.1 in let d = same_token u u' c.1 in
    (ap₃ (λ (t : Token) (x : Shape) (xs : List Parameter). item.LocalParameter t.at x xs) a.0 b.0 c.0, d.1)
one_plain_item (genvar_item t xs u) (genvar_item t' xs' u') same =
    let a = same_token t t' same in let b = one_names xs xs' a.1 in let c = same_token u u' b.1 in
    (ap₂ (λ (t : Token) (xs : List Identifier). item.Genvar t.at xs) a.0 b.0, c.1)
one_plain_item (assign_item t xs u) (assign_item t' xs' u') same =
    let a = same_token t t' same in let b = one_assignments xs xs' a.1 in let c = same_token u u' b.1 in
    (ap₂ (λ (t : Token) (xs : List Continuous). item.Assign t.at xs) a.0 b.0, c.1)
one_plain_item (always_item t u x) (always_item t' u' x') same =
    let a = same_token t t' same in let b = same_token u u' a.1 in one_event x x' (ap (λ (t : Token). t.at) a.0) b.1
one_plain_item (instances_item t x xs u) (instances_item t' x' xs' u') same =
    let a = same_token t t' same in let b = one_overrides x x' a.1 in let c = one_instances xs xs' b.1 in let d = same_token u u' c.1 in
    (ap₃ (λ (t : Token) (x : Option Connections) (xs : List Instance). item.Instances (identifier_of t) x xs) a.0 b.0 c.0, d.1)
one_plain_item x y same = two_kinds (first_is x) (first_is y) same (λ is. cc)
