-- A module is read in one way.
use Rattle.std.proofs.Common.{◌≡◌, List, ◌∷◌, refl, sym, ap, ap₂}
use Rattle.verilog_lex.specs.declared.token.Token.{Token}
use Rattle.verilog_ast.specs.declared.identifier.Identifier.{Identifier}
use Rattle.verilog_ast.specs.declared.shape.Shape.{Shape}
use Rattle.verilog_ast.specs.declared.variable.Variable.{Variable}
use Rattle.verilog_ast.specs.declared.parameter.Parameter.{Parameter}
use Rattle.verilog_ast.specs.declared.port_net.PortNet.{PortNet}
use Rattle.verilog_ast.specs.declared.header_parameter.HeaderParameter.{HeaderParameter}
use Rattle.verilog_ast.specs.declared.ports.Ports.{Ports}
use Rattle.verilog_ast.specs.declared.generate_item.GenerateItem.{GenerateItem}
use Rattle.verilog_ast.specs.declared.item.Item.{Item}
use Rattle.verilog_ast.specs.declared.item.Item.TheVariants as item
use Rattle.verilog_ast.specs.declared.module_body.ModuleBody.{ModuleBody}
use Rattle.verilog_ast.proofs.Equal.{ap₃, ap₄}
use Rattle.verilog_expr.specs.Tokens.{identifier_of}
use Rattle.verilog_expr.specs.Grammar.{begins_item}
use Rattle.verilog_parse.specs.Modules.{Spells, AModule, Items, AnItem}
use Rattle.verilog_parse.specs.Modules.{module_, no_item, another_item, input_item, output_item, parameter_item, region, other_item}
use Rattle.verilog_expr.proofs.OneToken.{kind_of, same_token, two_kinds, no_kind, no_beginning}
use Rattle.verilog_decl.proofs.OneDeclaration.{one_shape, one_optional_wire, one_optional_net, one_names, one_variables, one_parameters}
use Rattle.verilog_parse.proofs.OneHeader.{one_header}
use Rattle.verilog_parse.proofs.OneGenerate.{one_generate_items, one_generate_item}

one_item : {x y : Item} {s q r p : List Token} → Spells (AnItem x) s r → Spells (AnItem y) q p → s ≡ q → (x ≡ y) × (r ≡ p)
one_item (input_item t x y zs u) (input_item t' x' y' zs' u') same =
    let a = same_token t t' same in let b = one_optional_wire x x' a.1 in let c = one_shape y y' b.1 in let d = one_names zs zs' c.1 in
    let e = same_token u u' d.1 in
    (ap₄ (λ (t : Token) (x : PortNet) (y : Shape) (zs : List Identifier). item.Input t.at x y zs) a.0 b.0 c.0 d.0, e.1)
one_item (input_item t x y zs u) (output_item t' x' y' zs' u') same = two_kinds (kind_of t) (kind_of t') same (λ is. cc)
one_item (input_item t x y zs u) (parameter_item t' y' zs' u') same = two_kinds (kind_of t) (kind_of t') same (λ is. cc)
one_item (input_item t x y zs u) (region t' xs' u') same = two_kinds (kind_of t) (kind_of t') same (λ is. cc)
one_item (input_item t x y zs u) (other_item free' others' more' rest' x') same = no_kind (kind_of t) free' same
one_item (output_item t x y zs u) (input_item t' x' y' zs' u') same = two_kinds (kind_of t) (kind_of t') same (λ is. cc)
one_item (output_item t x y zs u) (output_item t' x' y' zs' u') same =
    let a = same_token t t' same in let b = one_optional_net x x' a.1 in let c = one_shape y y' b.1 in let d = one_variables zs zs' c.1 in
    let e = same_token u u' d.1 in (ap₄ (λ (t : Token) (x : PortNet) (y : Shape) (zs : List Variable). item.Output t.at x y zs) a.0 b.0 c.0 d.0, e.1)
one_item (output_item t x y zs u) (parameter_item t' y' zs' u') same = two_kinds (kind_of t) (kind_of t') same (λ is. cc)
one_item (output_item t x y zs u) (region t' xs' u') same = two_kinds (kind_of t) (kind_of t') same (λ is. cc)
one_item (output_item t x y zs u) (other_item free' others' more' rest' x') same = no_kind (kind_of t) others' same
one_item (parameter_item t y zs u) (input_item t' x' y' zs' u') same = two_kinds (kind_of t) (kind_of t') same (λ is. cc)
one_item (parameter_item t y zs u) (output_item t' x' y' zs' u') same = two_kinds (kind_of t) (kind_of t') same (λ is. cc)
one_item (parameter_item t y zs u) (parameter_item t' y' zs' u') same =
    let a = same_token t t' same in let b = one_shape y y' a.1 in let c = one_parameters zs zs' b.1 in let d = same_token u u' c.1 in
    (ap₃ (λ (t : Token) (y : Shape) (zs : List Parameter). item.Parameter t.at y zs) a.0 b.0 c.0, d.1)
one_item (parameter_item t y zs u) (region t' xs' u') same = two_kinds (kind_of t) (kind_of t') same (λ is. cc)
one_item (parameter_item t y zs u) (other_item free' others' more' rest' x') same = no_kind (kind_of t) more' same
one_item (region t xs u) (input_item t' x' y' zs' u') same = two_kinds (kind_of t) (kind_of t') same (λ is. cc)
one_item (region t xs u) (output_item t' x' y' zs' u') same = two_kinds (kind_of t) (kind_of t') same (λ is. cc)
one_item (region t xs u) (parameter_item t' y' zs' u') same = two_kinds (kind_of t) (kind_of t') same (λ is. cc)
one_item (region t xs u) (region t' xs' u') same =
    let a = same_token t t' same in let b = one_generate_items xs xs' a.1 in let c = same_token u u' b.1 in
    (ap₂ (λ (t : Token) (xs : List GenerateItem). item.Region t.at xs) a.0 b.0, c.1)
one_item (region t xs u) (other_item free' others' more' rest' x') same = no_kind (kind_of t) rest' same
one_item (other_item free others more rest x) (input_item t' x' y' zs' u') same = no_kind (kind_of t') free (sym same)
one_item (other_item free others more rest x) (output_item t' x' y' zs' u') same = no_kind (kind_of t') others (sym same)
one_item (other_item free others more rest x) (parameter_item t' y' zs' u') same = no_kind (kind_of t') more (sym same)
one_item (other_item free others more rest x) (region t' xs' u') same = no_kind (kind_of t') rest (sym same)
one_item (other_item free others more rest x) (other_item free' others' more' rest' x') same =
    let a = one_generate_item x x' same in (ap item.Item a.0, a.1)

one_items : {x y : List Item} {s q r p : List Token} → Spells (Items x) s r → Spells (Items y) q p → s ≡ q → (x ≡ y) × (r ≡ p)
one_items (no_item free) (no_item free') same = (refl, same)
one_items (no_item free) (another_item go' x' xs') same = no_beginning begins_item go' free (sym same)
one_items (another_item go x xs) (no_item free') same = no_beginning begins_item go free' same
one_items (another_item go x xs) (another_item go' x' xs') same =
    let a = one_item x x' same in let b = one_items xs xs' a.1 in (ap₂ (λ (x : Item) (xs : List Item). x ∷ xs) a.0 b.0, b.1)

pub one_module : {x y : ModuleBody} {s q r p : List Token} → Spells (AModule x) s r → Spells (AModule y) q p → s ≡ q → (x ≡ y) × (r ≡ p)
one_module (module_ t u y zs v) (module_ t' u' y' zs' v') same =
    let a = same_token t t' same in let b = same_token u u' a.1 in let c = one_header y y' b.1 in let d = one_items zs zs' c.2 in
    let e = same_token v v' d.1 in (
      ap₄ (λ (u : Token) (xs : List HeaderParameter) (y : Ports) (zs : List Item). record { name = identifier_of u; parameters = xs; ports = y; items = zs })
          b.0 c.0 c.1 d.0,
      e.1,
    )
