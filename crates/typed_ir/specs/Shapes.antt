-- A module as it is seen from above, and units that stand in a tree of instances (IEEE Std 1364-2005, 12.3).
use Rattle.std.specs.Prelude.{◌≡◌, ℕ, suc, Bool, true, false, ◌&&◌, ◌==◌, not, List, [], ◌∷◌, map, length, take, Option, Some, None, if◌then◌else◌}
use Rattle.ls_text.specs.declared.name_id.NameId.{NameId}
use Rattle.typed_ir.specs.declared.lane.Lane.{Lane}
use Rattle.typed_ir.specs.Orders.{at_or}
use Rattle.typed_ir.specs.declared.port_shape.PortShape.{PortShape}
use Rattle.typed_ir.specs.declared.child_shape.ChildShape.{ChildShape}
use Rattle.typed_ir.specs.declared.instance.Instance.{Instance}
use Rattle.typed_ir.specs.declared.unit_parts.UnitParts.{UnitParts}
use Rattle.typed_ir.specs.declared.unit_signal.UnitSignal.{UnitSignal}
use Rattle.typed_ir.specs.Trees.{UnitNode, Own, Into, From}

-- ---- data inputs: the inputs that aren't the clock

abbrev pub is_clock : Option NameId → NameId → Bool
is_clock None name = false
is_clock (Some clock) name = clock.0 == name.0

abbrev pub is_data_input : Option NameId → PortShape → Bool
is_data_input clock p = p.input && not (is_clock clock p.name)

-- the places of the data inputs among ports, of which the first has the place k
abbrev pub data_inputs : Option NameId → ℕ → List PortShape → List ℕ
data_inputs clock k [] = []
data_inputs clock k (p ∷ ps) = if is_data_input clock p then k ∷ data_inputs clock (suc k) ps else data_inputs clock (suc k) ps

-- ---- connections go into data inputs

abbrev pub is_input_of : ChildShape → ℕ → Bool
is_input_of child s = at_or (is_data_input child.clock) false child.ports s

abbrev pub are_inputs_of : ChildShape → List Lane → Bool
are_inputs_of child [] = true
are_inputs_of child (l ∷ ls) = is_input_of child l.span.signal && are_inputs_of child ls

abbrev pub goes_into_input : List ChildShape → UnitNode → Bool
goes_into_input children (Own node) = true
goes_into_input children (Into c form lanes e) = at_or (λ (child : ChildShape). are_inputs_of child lanes) false children c
goes_into_input children (From c form lanes e) = true

-- ---- units of instances

-- a unit whose ports are these: they are its first signals, and its data inputs are theirs
pub record HasPorts (parts : UnitParts) (clock : Option NameId) (ports : List PortShape) : Type 0 where
  pub widths : take (length ports) (map (λ (x : UnitSignal). x.width) parts.signals.items) ≡ map (λ (p : PortShape). p.width) ports
  pub inputs : parts.inputs.items ≡ data_inputs clock 0 ports

abbrev pub stands_in : ℕ → Option ℕ → Bool
stands_in k None = false
stands_in k (Some p) = p == k

-- those that stand in the k-th, in their order
abbrev pub children_of : ℕ → List Instance → List Instance
children_of k [] = []
children_of k (x ∷ xs) = if stands_in k x.place.parent then x ∷ children_of k xs else children_of k xs

abbrev pub shape_of : Instance → ChildShape
shape_of x = record { instance = x.place.name; clock = x.clock; ports = x.ports }

-- from the k-th instance on: each has a unit with its ports and with the shapes of those that stand in it
pub data AreOf (all : List Instance) : ℕ → List Instance → List UnitParts → Type 0 where
  none : {k : ℕ} → AreOf all k [] []
  more : {k : ℕ} {x : Instance} {xs : List Instance} {u : UnitParts} {us : List UnitParts}
      → HasPorts u x.clock x.ports → u.shapes ≡ map shape_of (children_of k all) → AreOf all (suc k) xs us
      → AreOf all k (x ∷ xs) (u ∷ us)
