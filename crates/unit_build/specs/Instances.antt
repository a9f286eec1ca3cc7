-- The connections of the instances of one item: their faults, and their nodes in the order of ports (IEEE Std 1364-2005, 12.1.2, 12.3).
use Rattle.std.specs.Prelude.{ℕ, suc, ◌==◌, if◌then◌else◌, List, [], ◌∷◌, ◌++◌, Option, Some, None}
use Rattle.ls_text.specs.declared.fault.Fault.{Fault}
use Rattle.typed_ir.specs.declared.child_shape.ChildShape.{ChildShape}
use Rattle.typed_ir.specs.declared.port_shape.PortShape.{PortShape}
use Rattle.typed_ir.specs.Items.{PlacedItem}
use Rattle.verilog_ast.specs.Items.{ModuleInstance}
use Rattle.width_rules.specs.Scopes.{Scope}
use Rattle.unit_build.specs.Connections.{Connected, connected_to, all_connection_faults, all_connection_kinds}
use Rattle.unit_build.specs.ConnectionNodes.{connection_item}

-- ---- faults: those of all expressions in the order of the text, and only then those of targets (33); the k-th instance has the k-th shape

abbrev pub instance_faults : Scope → List ChildShape → List ModuleInstance → List Fault
instance_faults scope [] xs = []
instance_faults scope (s ∷ ss) [] = []
instance_faults scope (s ∷ ss) (x ∷ xs) = all_connection_faults scope (connected_to s x.connections) ++ instance_faults scope ss xs

abbrev pub instance_kinds : Scope → List ChildShape → List ModuleInstance → List Fault
instance_kinds scope [] xs = []
instance_kinds scope (s ∷ ss) [] = []
instance_kinds scope (s ∷ ss) (x ∷ xs) = all_connection_kinds scope (connected_to s x.connections) ++ instance_kinds scope ss xs

abbrev pub item_faults : Scope → List ChildShape → List ModuleInstance → List Fault
item_faults scope ss xs = instance_faults scope ss xs ++ instance_kinds scope ss xs

-- ---- nodes: instance by instance, and of each the ports in their order

-- the first connection to the port of this number
abbrev pub first_to : ℕ → List Connected → Option Connected
first_to k [] = None
first_to k (c ∷ cs) = if c.port == k then Some c else first_to k cs

abbrev pub item_if : Scope → ℕ → Option Connected → List PlacedItem
item_if scope child None = []
item_if scope child (Some c) = connection_item scope child c ∷ []

-- of these ports, of which the first has the number k
abbrev pub port_items : Scope → ℕ → List Connected → ℕ → List PortShape → List PlacedItem
port_items scope child cs k [] = []
port_items scope child cs k (p ∷ ps) = item_if scope child (first_to k cs) ++ port_items scope child cs (suc k) ps

abbrev pub child_items : Scope → ℕ → ChildShape → ModuleInstance → List PlacedItem
child_items scope child s x = port_items scope child (connected_to s x.connections) 0 s.ports

-- the instances are numbered from `first` on
abbrev pub instance_items : Scope → (first : ℕ) → List ChildShape → List ModuleInstance → List PlacedItem
instance_items scope first [] xs = []
instance_items scope first (s ∷ ss) [] = []
instance_items scope first (s ∷ ss) (x ∷ xs) = child_items scope first s x ++ instance_items scope (suc first) ss xs
