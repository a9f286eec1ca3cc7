-- A header is read in one way.
use Rattle.std.proofs.Common.{◌≡◌, List, ◌∷◌, Some, None, refl, sym, ap, ap₂}
use Rattle.verilog_lex.specs.declared.token.Token.{Token}
use Rattle.verilog_ast.specs.declared.shape.Shape.{Shape}
use Rattle.verilog_ast.specs.declared.variable.Variable.{Variable}
use Rattle.verilog_ast.specs.declared.parameter.Parameter.{Parameter}
use Rattle.verilog_ast.specs.declared.port_net.PortNet.{PortNet}
use Rattle.verilog_ast.specs.declared.header_parameter.HeaderParameter.{HeaderParameter}
use Rattle.verilog_ast.specs.declared.header_port.HeaderPort.{HeaderPort}
use Rattle.verilog_ast.specs.declared.header_port.HeaderPort.TheVariants as port
use Rattle.verilog_ast.specs.declared.ports.Ports.{Ports}
use Rattle.verilog_ast.specs.declared.ports.Ports.TheVariants as ports
use Rattle.verilog_ast.proofs.Equal.{ap₄}
use Rattle.verilog_expr.specs.Tokens.{identifier_of}
use Rattle.verilog_decl.specs.Headers.{Spells, AHeader, ParameterHeader, AShapedParameter, AHeaderParameter, HeaderParametersBehind, OtherHeaderParameters, PortHeader, PortList, DeclaredPorts, HeaderPortsBehind, OtherHeaderPorts, AHeaderPort, NextHeaderPort}
use Rattle.verilog_decl.specs.Headers.{header, no_parameters, some_parameters, shaped, with_shape, without_shape, header_parameters_behind, no_header_parameter, another_header_parameter, no_ports, some_ports, empty_list, name_list, input_list, output_list, declared, header_ports_behind, no_header_port, another_header_port, input_port, output_port, next_name, next_port}
use Rattle.verilog_expr.proofs.OneToken.{kind_of, same_token, two_kinds, no_kind}
use Rattle.verilog_decl.proofs.OneDeclaration.{one_shape, one_optional_wire, one_optional_net, one_names, one_variable, one_parameter}

one_shaped_parameter : {x y : HeaderParameter} {s q r p : List Token} → Spells (AShapedParameter x) s r → Spells (AShapedParameter y) q p → s ≡ q
    → (x ≡ y) × (r ≡ p)
one_shaped_parameter (shaped t x y) (shaped t' x' y') same =
    let a = same_token t t' same in let b = one_shape x x' a.1 in let c = one_parameter y y' b.1 in
    (ap₂ (λ (x : Shape) (y : Parameter). record { shape = Some x; parameter = y }) b.0 c.0, c.1)

one_header_parameter : {x y : HeaderParameter} {s q r p : List Token} → Spells (AHeaderParameter x) s r → Spells (AHeaderParameter y) q p → s ≡ q
    → (x ≡ y) × (r ≡ p)
one_header_parameter (with_shape is x) (with_shape is' x') same = one_shaped_parameter x x' same
one_header_parameter (with_shape is x) (without_shape free' y') same = no_kind (sym is) free' same
one_header_parameter (without_shape free y) (with_shape is' x') same = no_kind (sym is') free (sym same)
one_header_parameter (without_shape free y) (without_shape free' y') same =
    let a = one_parameter y y' same in (ap (λ (y : Parameter). record { shape = None; parameter = y }) a.0, a.1)

one_other_header_parameters : {x y : List HeaderParameter} {s q r p : List Token} → Spells (OtherHeaderParameters x) s r
    → Spells (OtherHeaderParameters y) q p → s ≡ q → (x ≡ y) × (r ≡ p)
one_other_header_parameters (no_header_parameter free) (no_header_parameter free') same = (refl, same)
one_other_header_parameters (no_header_parameter free) (another_header_parameter t' x' xs') same = no_kind (kind_of t') free (sym same)
one_other_header_parameters (another_header_parameter t x xs) (no_header_parameter free') same = no_kind (kind_of t) free' same
one_other_header_parameters (another_header_parameter t x xs) (another_header_parameter t' x' xs') same =
    let a = same_token t t' same in let b = one_header_parameter x x' a.1 in let c = one_other_header_parameters xs xs' b.1 in
    (ap₂ (λ (x : HeaderParameter) (xs : List HeaderParameter). x ∷ xs) b.0 c.0, c.1)

one_header_parameters_behind : {x y : HeaderParameter} {u v : List HeaderParameter} {s q r p : List Token}
    → Spells (HeaderParametersBehind x u) s r → Spells (HeaderParametersBehind y v) q p → x ≡ y → s ≡ q → (u ≡ v) × (r ≡ p)
one_header_parameters_behind (header_parameters_behind xs) (header_parameters_behind xs') is same =
    let a = one_other_header_parameters xs xs' same in (ap₂ (λ (x : HeaderParameter) (xs : List HeaderParameter). x ∷ xs) is a.0, a.1)

one_parameter_header : {x y : List HeaderParameter} {s q r p : List Token} → Spells (ParameterHeader x) s r → Spells (ParameterHeader y) q p
    → s ≡ q → (x ≡ y) × (r ≡ p)
one_parameter_header (no_parameters free) (no_parameters free') same = (refl, same)
one_parameter_header (no_parameters free) (some_parameters t' u' x' xs' v') same = no_kind (kind_of t') free (sym same)
one_parameter_header (some_parameters t u x xs v) (no_parameters free') same = no_kind (kind_of t) free' same
one_parameter_header (some_parameters t u x xs v) (some_parameters t' u' x' xs' v') same =
    let a = same_token t t' same in let b = same_token u u' a.1 in let c = one_shaped_parameter x x' b.1 in
    let d = one_header_parameters_behind xs xs' c.0 c.1 in let e = same_token v v' d.1 in (d.0, e.1)

one_header_port : {x y : HeaderPort} {s q r p : List Token} → Spells (AHeaderPort x) s r → Spells (AHeaderPort y) q p → s ≡ q → (x ≡ y) × (r ≡ p)
one_header_port (input_port t x y u) (input_port t' x' y' u') same =
    let a = same_token t t' same in let b = one_optional_wire x x' a.1 in let c = one_shape y y' b.1 in let d = same_token u u' c.1 in
    (ap₄ (λ (t : Token) (x : PortNet) (y : Shape) (u : Token). port.Input t.at x y (identifier_of u)) a.0 b.0 c.0 d.0, d.1)
one_header_port (input_port t x y u) (output_port t' x' y' z') same = two_kinds (kind_of t) (kind_of t') same (λ is. cc)
one_header_port (output_port t x y z) (input_port t' x' y' u') same = two_kinds (kind_of t) (kind_of t') same (λ is. cc)
one_header_port (output_port t x y z) (output_port t' x' y' z') same =
    let a = same_token t t' same in let b = one_optional_net x x' a.1 in let c = one_shape y y' b.1 in let d = one_variable z z' c.1 in
    (ap₄ (λ (t : Token) (x : PortNet) (y : Shape) (z : Variable). port.Output t.at x y z) a.0 b.0 c.0 d.0, d.1)

one_next_header_port : {x y : HeaderPort} {s q r p : List Token} → Spells (NextHeaderPort x) s r → Spells (NextHeaderPort y) q p → s ≡ q
    → (x ≡ y) × (r ≡ p)
one_next_header_port (next_name is x) (next_name is' x') same = let a = one_variable x x' same in (ap port.Next a.0, a.1)
one_next_header_port (next_name is x) (next_port free' x') same = no_kind (sym is) free' same
one_next_header_port (next_port free x) (next_name is' x') same = no_kind (sym is') free (sym same)
one_next_header_port (next_port free x) (next_port free' x') same = one_header_port x x' same

one_other_header_ports : {x y : List HeaderPort} {s q r p : List Token} → Spells (OtherHeaderPorts x) s r → Spells (OtherHeaderPorts y) q p
    → s ≡ q → (x ≡ y) × (r ≡ p)
one_other_header_ports (no_header_port free) (no_header_port free') same = (refl, same)
one_other_header_ports (no_header_port free) (another_header_port t' x' xs') same = no_kind (kind_of t') free (sym same)
one_other_header_ports (another_header_port t x xs) (no_header_port free') same = no_kind (kind_of t) free' same
one_other_header_ports (another_header_port t x xs) (another_header_port t' x' xs') same =
    let a = same_token t t' same in let b = one_next_header_port x x' a.1 in let c = one_other_header_ports xs xs' b.1 in
    (ap₂ (λ (x : HeaderPort) (xs : List HeaderPort). x ∷ xs) b.0 c.0, c.1)

one_header_ports_behind : {x y : HeaderPort} {u v : List HeaderPort} {s q r p : List Token} → Spells (HeaderPortsBehind x u) s r
    → Spells (HeaderPortsBehind y v) q p → x ≡ y → s ≡ q → (u ≡ v) × (r ≡ p)
one_header_ports_behind (header_ports_behind xs) (header_ports_behind xs') is same =
    let a = one_other_header_ports xs xs' same in (ap₂ (λ (x : HeaderPort) (xs : List HeaderPort). x ∷ xs) is a.0, a.1)

one_declared_ports : {x y : List HeaderPort} {s q r p : List Token} → Spells (DeclaredPorts x) s r → Spells (DeclaredPorts y) q p → s ≡ q
    → (x ≡ y) × (r ≡ p)
one_declared_ports (declared x xs) (declared x' xs') same = let a = one_header_port x x' same in one_header_ports_behind xs xs' a.0 a.1

one_port_list : {x y : Ports} {s q r p : List Token} → Spells (PortList x) s r → Spells (PortList y) q p → s ≡ q → (x ≡ y) × (r ≡ p)
one_port_list (empty_list free others more) (empty_list free' others' more') same = (refl, same)
one_port_list (empty_list free others more) (name_list is' xs') same = no_kind (sym is') free (sym same)
one_port_list (empty_list free others more) (input_list is' xs') same = no_kind (sym is') others (sym same)
one_port_list (empty_list free others more) (output_list is' xs') same = no_kind (sym is') more (sym same)
one_port_list (name_list is xs) (empty_list free' others' more') same = no_kind (sym is) free' same
one_port_list (name_list is xs) (name_list is' xs') same = let a = one_names xs xs' same in (ap ports.Names a.0, a.1)
one_port_list (name_list is xs) (input_list is' xs') same = two_kinds (sym is) (sym is') same (λ is. cc)
one_port_list (name_list is xs) (output_list is' xs') same = two_kinds (sym is) (sym is') same (λ is. cc)
one_port_list (input_list is xs) (empty_list free' others' more') same = no_kind (sym is) others' same
one_port_list (input_list is xs) (name_list is' xs') same = two_kinds (sym is) (sym is') same (λ is. cc)
one_port_list (input_list is xs) (input_list is' xs') same = let a = one_declared_ports xs xs' same in (ap ports.Declarations a.0, a.1)
one_port_list (input_list is xs) (output_list is' xs') same = two_kinds (sym is) (sym is') same (λ is. cc)
one_port_list (output_list is xs) (empty_list free' others' more') same = no_kind (sym is) more' same
one_port_list (output_list is xs) (name_list is' xs') same = two_kinds (sym is) (sym is') same (λ is. cc)
one_port_list (output_list is xs) (input_list is' xs') same = two_kinds (sym is) (sym is') same (λ is. cc)
one_port_list (output_list is xs) (output_list is' xs') same = let a = one_declared_ports xs xs' same in (ap ports.Declarations a.0, a.1)

one_port_header : {x y : Ports} {s q r p : List Token} → Spells (PortHeader x) s r → Spells (PortHeader y) q p → s ≡ q → (x ≡ y) × (r ≡ p)
one_port_header (no_ports free) (no_ports free') same = (refl, same)
one_port_header (no_ports free) (some_ports t' x' u') same = no_kind (kind_of t') free (sym same)
one_port_header (some_ports t x u) (no_ports free') same = no_kind (kind_of t) free' same
one_port_header (some_ports t x u) (some_ports t' x' u') same =
    let a = same_token t t' same in let b = one_port_list x x' a.1 in let c = same_token u u' b.1 in (b.0, c.1)

pub one_header : {x y : List HeaderParameter} {u v : Ports} {s q r p : List Token} → Spells (AHeader x u) s r → Spells (AHeader y v) q p → s ≡ q
    → (x ≡ y) × (u ≡ v) × (r ≡ p)
one_header (header xs y t) (header xs' y' t') same =
    let a = one_parameter_header xs xs' same in let b = one_port_header y y' a.1 in let c = same_token t t' b.1 in (a.0, b.0, c.1)
