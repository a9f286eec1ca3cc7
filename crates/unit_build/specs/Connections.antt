-- The connections of an instance, each with its port, and what may be wrong with one (IEEE Std 1364-2005, 12.3.5, 12.3.6, 12.3.9).
use Rattle.std.specs.Prelude.{ℕ, suc, ◌==◌, if◌then◌else◌, List, [], ◌∷◌, ◌++◌, Option, Some, None, slice_get}
use Rattle.ls_text.specs.declared.fault.Fault.{Fault}
use Rattle.ls_text.specs.declared.name_id.NameId.{NameId}
use Rattle.typed_ir.specs.declared.child_shape.ChildShape.{ChildShape}
use Rattle.typed_ir.specs.declared.port_shape.PortShape.{PortShape}
use Rattle.typed_ir.specs.Shapes.{is_clock}
use Rattle.verilog_ast.specs.Expressions.{Expression}
use Rattle.verilog_ast.specs.Items.{ConnectionByName, ConnectionByOrder, ConnectionList, ByName, ByOrder}
use Rattle.width_rules.specs.declared.due.Due.TheVariants.{AnyValue}
use Rattle.width_rules.specs.Scopes.{Scope}
use Rattle.width_rules.specs.Faults.{faults}
use Rattle.unit_build.specs.Outputs.{output_faults, output_kinds}

-- the number of a port in header order, the port, and the expression connected to it
pub record Connected : Type 0 where
  pub port : ℕ
  pub shape : PortShape
  pub value : Expression

-- the number of the first port of a name, where the first of these ports has the number k
abbrev pub port_number : ℕ → ℕ → List PortShape → Option ℕ
port_number name k [] = None
port_number name k (p ∷ ps) = if p.name.0 == name then Some k else port_number name (suc k) ps

-- an empty connection is none, and that of the clock makes no node
abbrev pub connection_if : Option NameId → ℕ → PortShape → Option Expression → List Connected
connection_if clock k p None = []
connection_if clock k p (Some x) = if is_clock clock p.name then [] else record { port = k; shape = p; value = x } ∷ []

-- to no port there is none
abbrev pub connection_at : Option NameId → ℕ → Option PortShape → Option Expression → List Connected
connection_at clock k None x = []
connection_at clock k (Some p) x = connection_if clock k p x

-- to the port of this number
abbrev pub to_port : ChildShape → ℕ → Option Expression → List Connected
to_port child k x = connection_at child.clock k (slice_get child.ports k) x

abbrev pub to_found : ChildShape → Option ℕ → Option Expression → List Connected
to_found child None x = []
to_found child (Some k) x = to_port child k x

abbrev pub connected_by_name : ChildShape → List ConnectionByName → List Connected
connected_by_name child [] = []
connected_by_name child (x ∷ xs) = to_found child (port_number x.name.name.0 0 child.ports) x.value ++ connected_by_name child xs

abbrev pub connected_by_order : ChildShape → ℕ → List ConnectionByOrder → List Connected
connected_by_order child k [] = []
connected_by_order child k (x ∷ xs) = to_port child k x.value ++ connected_by_order child (suc k) xs

-- in the order of the text
abbrev pub connected_to : ChildShape → ConnectionList → List Connected
connected_to child (ByName xs) = connected_by_name child xs
connected_to child (ByOrder xs) = connected_by_order child 0 xs

-- ---- what may be wrong: with its expression, and only then 33 at an output

abbrev pub connection_faults : Scope → Connected → List Fault
connection_faults scope c = if c.shape.input then faults scope AnyValue c.value else output_faults scope c.value

abbrev pub connection_kinds : Scope → Connected → List Fault
connection_kinds scope c = if c.shape.input then [] else output_kinds scope c.value

abbrev pub all_connection_faults : Scope → List Connected → List Fault
all_connection_faults scope [] = []
all_connection_faults scope (c ∷ cs) = connection_faults scope c ++ all_connection_faults scope cs

abbrev pub all_connection_kinds : Scope → List Connected → List Fault
all_connection_kinds scope [] = []
all_connection_kinds scope (c ∷ cs) = connection_kinds scope c ++ all_connection_kinds scope cs
