use Rattle.std.proofs.Common.{◌≡◌, ◌++◌, map, drop, None}
use Rattle.std.specs.Option.{option_map}
use Rattle.typed_ir.specs.declared.port_shape.PortShape.{PortShape}
use Rattle.typed_ir.specs.Items.{item_of}
use Rattle.unit_build.proofs.port_order.no_items.Given as goal

abbrev pub invariant-loop : goal.invariant-loop
invariant-loop l =
    map (option_map item_of) l.places.items ++ map (λ (p : PortShape). None) (drop l.index l.ports) ≡ map (λ (p : PortShape). None) l.ports
