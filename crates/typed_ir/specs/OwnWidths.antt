-- The widths within a unit: of its own signals, and of the ports of the instances in it.
use Rattle.std.specs.Prelude.{◌≡◌, ℕ, Bool, true, nat_lt, List, [], map, length}
use Rattle.typed_ir.specs.Orders.{Each, at_or}
use Rattle.typed_ir.specs.declared.port_shape.PortShape.{PortShape}
use Rattle.typed_ir.specs.declared.child_shape.ChildShape.{ChildShape}
use Rattle.typed_ir.specs.declared.unit_parts.UnitParts.{UnitParts}
use Rattle.typed_ir.specs.Trees.{UnitNode, Own, Into, From, unit_widths, is_legal_unit_node, is_legal_block}
use Rattle.typed_ir.specs.Units.{sized_unit}
use Rattle.typed_ir.specs.Shapes.{goes_into_input}

-- the ports of an instance are its first signals
abbrev pub port_widths : ChildShape → List ℕ
port_widths child = map (λ (p : PortShape). p.width) child.ports

abbrev pub child_widths : List ChildShape → ℕ → List ℕ
child_widths children c = at_or port_widths [] children c

-- a connection is to one of so many instances
abbrev pub names_child : ℕ → UnitNode → Bool
names_child count (Own node) = true
names_child count (Into child form lanes e) = nat_lt child count
names_child count (From child form lanes e) = nat_lt child count

-- what is written and read lies in the unit's own signals and in the ports of its instances, and the widths agree with theirs; of the
-- ports, only data inputs are written
pub record IsSized (parts : UnitParts) : Type 0 where
  pub nodes : Each (λ x. is_legal_unit_node (unit_widths (sized_unit parts)) (child_widths parts.shapes) x ≡ true) (sized_unit parts).nodes
  pub blocks : Each (λ st. is_legal_block (unit_widths (sized_unit parts)) st ≡ true) (sized_unit parts).clocked
  pub children : Each (λ x. names_child (length parts.shapes) x ≡ true) (sized_unit parts).nodes
  pub into : Each (λ x. goes_into_input parts.shapes x ≡ true) (sized_unit parts).nodes
