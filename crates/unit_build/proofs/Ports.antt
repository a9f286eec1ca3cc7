-- The port of a number and the number of a name.
use Rattle.std.proofs.Common.{◌≡◌, ◌<◌, ◌≤◌, ℕ, suc, ◌+◌, ◌==◌, List, [], Some, drop, length, get_or, cond, refl, sym, ◌∙◌, ap}
use Rattle.std.specs.Prelude.{Option, slice_get}
use Rattle.std.proofs.lemmas.Option.{slice_get_past, slice_get_read}
use Rattle.typed_ir.proofs.Lists.{drop_read}
use Rattle.typed_ir.specs.declared.child_shape.ChildShape.{ChildShape}
use Rattle.typed_ir.specs.declared.port_shape.PortShape.{PortShape}
use Rattle.verilog_ast.specs.Expressions.{Expression}
use Rattle.unit_build.specs.Connections.{port_number, connection_if, connection_at, to_port}

-- the names from a port on
pub number_step : (q : ℕ) (ps : List PortShape) (i : ℕ) (p : PortShape) → i < length ps → p ≡ get_or ps i p
    → port_number q i (drop i ps) ≡ cond (p.name.0 == q) (Some i) (port_number q (suc i) (drop (i + 1) ps))
number_step q ps i p h is = ap (port_number q i) (drop_read ps i p h is)

pub to_none : (child : ChildShape) (ps : List PortShape) (k : ℕ) (x : Option Expression) → ps ≡ child.ports → length ps ≤ k → to_port child k x ≡ []
to_none child ps k x same h = ap (λ o. connection_at child.clock k o x) (ap (λ (qs : List PortShape). slice_get qs k) (sym same) ∙ slice_get_past ps k h)

pub to_some : (child : ChildShape) (ps : List PortShape) (k : ℕ) (p : PortShape) (x : Option Expression) → ps ≡ child.ports → k < length ps → p ≡ get_or ps k p
    → to_port child k x ≡ connection_if child.clock k p x
to_some child ps k p x same h is =
    ap (λ o. connection_at child.clock k o x) (ap (λ (qs : List PortShape). slice_get qs k) (sym same) ∙ slice_get_read ps (length ps) k p refl h is)
