-- Units that stand in a tree of instances, by what stands in each instance (IEEE Std 1364-2005, 12.3).
use Rattle.std.specs.Prelude.{◌≡◌, List, [], ◌∷◌, map, length, take}
use Rattle.typed_ir.specs.declared.child_shape.ChildShape.{ChildShape}
use Rattle.typed_ir.specs.declared.instance.Instance.{Instance}
use Rattle.typed_ir.specs.declared.port_shape.PortShape.{PortShape}
use Rattle.typed_ir.specs.declared.unit_parts.UnitParts.{UnitParts}
use Rattle.typed_ir.specs.declared.unit_signal.UnitSignal.{UnitSignal}
use Rattle.typed_ir.specs.Shapes.{HasPorts}

-- the first signals are as wide as the ports
abbrev pub HaveWidths : List UnitSignal → List PortShape → Type 0
HaveWidths signals ports = take (length ports) (map (λ (x : UnitSignal). x.width) signals) ≡ map (λ (p : PortShape). p.width) ports

-- a unit that stands where this instance is, which has these instances in it
pub record IsUnitOf (u : UnitParts) (x : Instance) (shapes : List ChildShape) : Type 0 where
  pub ports : HasPorts u x.clock x.ports
  pub within : u.shapes ≡ shapes

-- each instance has a unit, where the instances in it are those of its row
pub data AreWith : List (List ChildShape) → List Instance → List UnitParts → Type 0 where
  none : AreWith [] [] []
  more : {r : List ChildShape} {rs : List (List ChildShape)} {x : Instance} {xs : List Instance} {u : UnitParts} {us : List UnitParts}
      → IsUnitOf u x r → AreWith rs xs us → AreWith (r ∷ rs) (x ∷ xs) (u ∷ us)
