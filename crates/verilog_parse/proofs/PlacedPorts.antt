-- A port of a header stands where its first token does, and the name of an input port is the last token that the port stands for.
use Rattle.std.proofs.Common.{◌≡◌, ◌∙◌, ◌+◌, ◌-◌, ℕ, List, ◌++◌, length, drop, sym, ap, arith}
use Rattle.std.proofs.lemmas.List.{length-append}
use Rattle.std.proofs.Math.Seq.{drop-append_seam}
use Rattle.ls_text.specs.declared.place.Place.{Place}
use Rattle.verilog_lex.specs.declared.token.Token.{Token}
use Rattle.verilog_lex.specs.declared.kind.Kind.{Kind}
use Rattle.verilog_ast.specs.declared.identifier.Identifier.{Identifier}
use Rattle.verilog_ast.specs.declared.shape.Shape.{Shape}
use Rattle.verilog_ast.specs.declared.port_net.PortNet.{PortNet}
use Rattle.verilog_ast.specs.declared.header_port.HeaderPort.TheVariants as port
use Rattle.verilog_ast.specs.declared.ports.Ports.TheVariants as ports
use Rattle.verilog_ast.specs.Places.{port_place}
use Rattle.verilog_ast.specs.Views.{port_of}
use Rattle.verilog_expr.specs.Tokens.{Takes, taken, place_at}
use Rattle.verilog_expr.proofs.Placed.{token_place}
use Rattle.verilog_expr.proofs.Fronts.{Leaves, leaves_all, leaves_then, leaves_token, leaves}
use Rattle.verilog_decl.specs.Apart.{StandApart}
use Rattle.verilog_decl.specs.Declarations as d
use Rattle.verilog_decl.proofs.PlacedDeclarations.{declaration_placed}
use Rattle.verilog_decl.specs.Headers as h
use Rattle.verilog_parse.specs.Lasts.{StandsLast}

-- ---- the first token

abbrev pub IsPlacedHeader : h.Phrase → List Token → Type 0
IsPlacedHeader (h.PortList (ports.Names xs)) s = StandApart xs s
IsPlacedHeader (h.AHeaderPort x) s = port_place (port_of x) ≡ place_at s
IsPlacedHeader (h.NextHeaderPort x) s = port_place (port_of x) ≡ place_at s
IsPlacedHeader phrase s = Unit {0}

pub header_placed : {phrase : h.Phrase} {s r : List Token} → h.Spells phrase s r → IsPlacedHeader phrase s
header_placed (h.name_list is xs) = declaration_placed xs
header_placed (h.input_port u x y t) = token_place u
header_placed (h.output_port u x y z) = token_place u
header_placed (h.next_name is x) = declaration_placed x
header_placed (h.next_port free x) = header_placed x
header_placed _ = tt

-- ---- what stands before the name

wire_leaves : {x : PortNet} {s r : List Token} → d.Spells (d.OptionalWire x) s r → Leaves s r
wire_leaves (d.no_wire free) = leaves_all
wire_leaves (d.a_wire t) = leaves_token t

shape_leaves : {x : Shape} {s r : List Token} → d.Spells (d.AShape x) s r → Leaves s r
shape_leaves (d.shape (d.not_signed free) (d.no_range open_)) = leaves_all
shape_leaves (d.shape (d.not_signed free) (d.a_range is h)) = leaves h
shape_leaves (d.shape (d.is_signed t) (d.no_range open_)) = leaves_token t
shape_leaves (d.shape (d.is_signed t) (d.a_range is h)) = leaves_then (leaves_token t) (leaves h)

-- ---- the last token

takes_one : {kind : Kind} {s r : List Token} {t : Token} → Takes kind s r t → length s ≡ length r + 1
takes_one {r = r} (taken cut is) = ap (λ (l : List Token). length l) cut ∙ omega arith

before_left : (own c r s : List Token) → s ≡ own ++ c → length c ≡ length r + 1 → c ≡ drop (length s - length r - 1) s
before_left own c r s cut one =
    let whole : length s ≡ length own + length c = ap (λ (l : List Token). length l) cut ∙ length-append own c in
    let n : length s - length r - 1 ≡ length own = omega (arith, whole, one) in
    sym (ap (λ (k : ℕ). drop k s) n ∙ ap (drop (length own)) cut ∙ drop-append_seam own c)

pub input_last : {at : Place} {net : PortNet} {x : Shape} {name : Identifier} {s r : List Token} → h.Spells (h.AHeaderPort (port.Input at net x name)) s r
    → StandsLast name s r
input_last (h.input_port {s = s} {c = c} {r = r} u w y t) =
    let before = leaves_then (leaves_token u) (leaves_then (wire_leaves w) (shape_leaves y)) in
    token_place t ∙ ap place_at (before_left before.own c r s before.cut (takes_one t))
