-- What a connection writes or reads of its child lies there, with the widths of its ports.
use Rattle.std.proofs.Common.{◌≡◌, ◌<◌, ◌≤◌, ℕ, ◌+◌, ◌==◌, Bool, true, false, ◌&&◌, nat_le, nat_lt, List, [], ◌∷◌, length, max, cond, refl, sym, ◌∙◌, ap, arith, subst}
use Rattle.std.specs.Prelude.{slice_index}
use Rattle.std.specs.Option.{option_map}
use Rattle.std.proofs.lemmas.Bool.{le-leb, lt-ltb, eq-eqb, and_from}
use Rattle.std.proofs.lemmas.List.{length-map}
use Rattle.std.proofs.lemmas.Option.{slice_get-map, slice_get_within, get_or_from_slice_get}
use Rattle.typed_ir.specs.Nodes.{are_lanes}
use Rattle.typed_ir.specs.Orders.{Each}
use Rattle.typed_ir.specs.Sized.{is_width, is_signal, Name, Resized}
use Rattle.typed_ir.specs.Stmts.{is_sized}
use Rattle.typed_ir.specs.declared.child_shape.ChildShape.{ChildShape}
use Rattle.typed_ir.specs.declared.port_shape.PortShape.{PortShape}
use Rattle.typed_ir.specs.OwnWidths.{port_widths}
use Rattle.verilog_ast.specs.Items.{ConnectionList}
use Rattle.unit_build.specs.Connections.{Connected, connected_to}
use Rattle.unit_build.specs.ConnectionNodes.{port_lane, port_value}
use Rattle.unit_build.proofs.StandingConnections.{IsPort, ports_so}

abbrev port_width : PortShape → ℕ
port_width p = p.width

port_there : (child : ChildShape) (c : Connected) → IsPort child c → c.port < length (port_widths child)
port_there child c is =
    let within : c.port < length child.ports = slice_get_within child.ports c.port c.shape is.there in
    subst (λ n. c.port < n) (sym (length-map child.ports port_width)) within

width_there : (child : ChildShape) (c : Connected) → IsPort child c → slice_index (port_widths child) c.port ≡ c.shape.width
width_there child c is =
    get_or_from_slice_get (port_widths child) c.port c.shape.width 0 (slice_get-map port_width child.ports c.port ∙ ap (option_map port_width) is.there)

lane_so : (child : ChildShape) (c : Connected) → IsPort child c → are_lanes (port_lane c ∷ []) (port_widths child) ≡ true
lane_so child c is =
    let some : 1 ≤ c.shape.width = c.shape.at_least_one in
    let all : 0 + c.shape.width ≤ slice_index (port_widths child) c.port = omega (arith, width_there child c is) in
    let span = and_from (nat_lt c.port (length (port_widths child))) _ (lt-ltb c.port (length (port_widths child)) (port_there child c is))
    (and_from (nat_le 1 c.shape.width) (nat_le (0 + c.shape.width) (slice_index (port_widths child) c.port)) (le-leb 1 c.shape.width some) (le-leb _ _ all)) in
    and_from _ true span refl

signal_so : (child : ChildShape) (c : Connected) → IsPort child c → is_signal c.port c.shape.width (port_widths child) ≡ true
signal_so child c is =
    and_from (nat_lt c.port (length (port_widths child))) (slice_index (port_widths child) c.port == c.shape.width)
    (lt-ltb c.port (length (port_widths child)) (port_there child c is)) (eq-eqb (slice_index (port_widths child) c.port) c.shape.width (width_there child c is))

is_width_so : (n : ℕ) → 1 ≤ n → n ≤ 128 → is_width n ≡ true
is_width_so n h k = and_from (nat_le 1 n) (nat_le n 128) (le-leb 1 n h) (le-leb n 128 k)

value_so : (child : ChildShape) (c : Connected) (n : ℕ) → IsPort child c → n ≤ 128 → is_sized (port_value c n) (port_widths child) ≡ true
value_so child c n is h = by_width (c.shape.width == max n c.shape.width)
  where
    own : is_width c.shape.width ≡ true
    own = is_width_so c.shape.width c.shape.at_least_one c.shape.at_most_128

    long : is_width (max n c.shape.width) ≡ true
    long =
        let some : 1 ≤ c.shape.width = c.shape.at_least_one in
        let few : c.shape.width ≤ 128 = c.shape.at_most_128 in
        is_width_so (max n c.shape.width) (omega (arith, some)) (omega (arith, few, h))

    by_width : (b : Bool) → is_sized (cond b (Name c.port c.shape.width) (Resized (Name c.port c.shape.width) (max n c.shape.width) c.shape.signed)) (port_widths child) ≡ true
    by_width true = and_from (is_width c.shape.width) (is_signal c.port c.shape.width (port_widths child)) own (signal_so child c is)
    by_width false =
        and_from (is_width (max n c.shape.width) && is_width c.shape.width) (is_signal c.port c.shape.width (port_widths child))
        (and_from (is_width (max n c.shape.width)) (is_width c.shape.width) long own) (signal_so child c is)

each_so : (P Q : Connected → Type 0) → ((c : Connected) → P c → Q c) → (cs : List Connected) → Each P cs → Each Q cs
each_so P Q f [] h = tt
each_so P Q f (c ∷ cs) h = (f c h.0, each_so P Q f cs h.1)

pub lanes_lie : (child : ChildShape) (l : ConnectionList) → Each (λ c. are_lanes (port_lane c ∷ []) (port_widths child) ≡ true) (connected_to child l)
lanes_lie child l =
    each_so (IsPort child) (λ c. are_lanes (port_lane c ∷ []) (port_widths child) ≡ true) (λ c is. lane_so child c is) (connected_to child l) (ports_so child l)

pub values_lie : (child : ChildShape) (l : ConnectionList) (n : ℕ) → n ≤ 128
    → Each (λ c. is_sized (port_value c n) (port_widths child) ≡ true) (connected_to child l)
values_lie child l n h =
    each_so (IsPort child) (λ c. is_sized (port_value c n) (port_widths child) ≡ true) (λ c is. value_so child c n is h) (connected_to child l) (ports_so child l)
