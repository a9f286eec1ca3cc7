-- Connections of the code are written as a parser writes them.
use Rattle.std.proofs.Common.{ℕ, suc, Bool, true, false, List, [], ◌∷◌, map, cond}
use Rattle.std.specs.Prelude.{⊤, Option, Some, None, slice_get}
use Rattle.std.specs.Option.{option_map}
use Rattle.ls_text.specs.declared.name_id.NameId.{NameId}
use Rattle.typed_ir.specs.Orders.{Each}
use Rattle.typed_ir.proofs.Lists.{each_append}
use Rattle.typed_ir.specs.declared.child_shape.ChildShape.{ChildShape}
use Rattle.typed_ir.specs.declared.port_shape.PortShape.{PortShape}
use Rattle.typed_ir.specs.Shapes.{is_clock}
use Rattle.verilog_ast.specs.declared.connections.Connections.{Connections}
use Rattle.verilog_ast.specs.declared.connections.Connections.TheVariants as connections
use Rattle.verilog_ast.specs.declared.expression.Expr.{Expr}
use Rattle.verilog_ast.specs.declared.instance.Instance.{Instance}
use Rattle.verilog_ast.specs.declared.named_connection.NamedConnection.{NamedConnection}
use Rattle.verilog_ast.specs.declared.ordered_connection.OrderedConnection.{OrderedConnection}
use Rattle.verilog_ast.specs.declared.plain_item.PlainItem.{PlainItem}
use Rattle.verilog_ast.specs.declared.plain_item.PlainItem.TheVariants as plain
use Rattle.verilog_ast.specs.Expressions.{Expression}
use Rattle.verilog_ast.specs.Items.{ConnectionByName, ConnectionByOrder, ConnectionList, ByName, ByOrder, ModuleInstance}
use Rattle.verilog_ast.specs.Views.{expression_of, by_name_of, by_order_of, connections_of, instance_of, plain_item_of}
use Rattle.gen_unroll.specs.declared.step.Step.{Step}
use Rattle.gen_unroll.specs.declared.step.Step.TheVariants as step
use Rattle.gen_unroll.specs.Steps.{ModuleStep, Item}
use Rattle.gen_unroll.specs.Views.{step_of}
use Rattle.statement_rules.specs.Written.{IsWritten}
use Rattle.statement_rules.proofs.Trees.{expression_is_written}
use Rattle.unit_build.specs.Connections.{Connected, port_number, connection_if, connection_at, to_port, to_found, connected_by_name, connected_by_order, connected_to}
use Rattle.unit_build.specs.Walks.{instances_in}

-- ---- texts

-- the expression of a connection, where it isn't empty
abbrev pub IsGivenWritten : Option Expression → Type 0
IsGivenWritten None = ⊤
IsGivenWritten (Some x) = IsWritten x

abbrev pub AreConnectionsWritten : ConnectionList → Type 0
AreConnectionsWritten (ByName xs) = Each (λ x. IsGivenWritten x.value) xs
AreConnectionsWritten (ByOrder xs) = Each (λ x. IsGivenWritten x.value) xs

abbrev pub AreInstancesWritten : List ModuleInstance → Type 0
AreInstancesWritten xs = Each (λ x. AreConnectionsWritten x.connections) xs

-- of the instances of a step
abbrev pub HasWrittenInstances : ModuleStep → Type 0
HasWrittenInstances (Item x) = AreInstancesWritten (instances_in x)
HasWrittenInstances other = ⊤

-- ---- those of the code

given_written : (o : Option Expr) → IsGivenWritten (option_map expression_of o)
given_written None = tt
given_written (Some x) = expression_is_written x

names_written : (xs : List NamedConnection) → AreConnectionsWritten (ByName (map by_name_of xs))
names_written [] = tt
names_written (x ∷ xs) = (given_written x.value, names_written xs)

orders_written : (xs : List OrderedConnection) → AreConnectionsWritten (ByOrder (map by_order_of xs))
orders_written [] = tt
orders_written (x ∷ xs) = (given_written x.value, orders_written xs)

connections_written : (x : Connections) → AreConnectionsWritten (connections_of x)
connections_written (connections.Named xs) = names_written xs
connections_written (connections.Ordered xs) = orders_written xs

pub instances_written : (xs : List Instance) → AreInstancesWritten (map instance_of xs)
instances_written [] = tt
instances_written (x ∷ xs) = (connections_written x.connections, instances_written xs)

pub item_written : (x : PlainItem) → AreInstancesWritten (instances_in (plain_item_of x))
item_written (plain.Instances n x ys) = instances_written ys
item_written other = tt

pub step_written : (s : Step) → HasWrittenInstances (step_of s)
step_written (step.Item x) = item_written x.now
step_written other = tt

pub steps_written : (steps : List Step) → Each HasWrittenInstances (map step_of steps)
steps_written [] = tt
steps_written (s ∷ ss) = (step_written s, steps_written ss)

-- ---- and so is what each port is connected to

written_if : (clock : Option NameId) (k : ℕ) (p : PortShape) (o : Option Expression) → IsGivenWritten o → Each (λ c. IsWritten c.value) (connection_if clock k p o)
written_if clock k p None w = tt
written_if clock k p (Some x) w = by_clock (is_clock clock p.name)
  where
    by_clock : (b : Bool) → Each (λ (c : Connected). IsWritten c.value) (cond b [] (record { port = k; shape = p; value = x } ∷ []))
    by_clock true = tt
    by_clock false = (w, tt)

written_at : (clock : Option NameId) (k : ℕ) (p : Option PortShape) (o : Option Expression) → IsGivenWritten o → Each (λ c. IsWritten c.value) (connection_at clock k p o)
written_at clock k None o w = tt
written_at clock k (Some p) o w = written_if clock k p o w

written_found : (child : ChildShape) (k : Option ℕ) (o : Option Expression) → IsGivenWritten o → Each (λ c. IsWritten c.value) (to_found child k o)
written_found child None o w = tt
written_found child (Some k) o w = written_at child.clock k (slice_get child.ports k) o w

written_names : (child : ChildShape) (xs : List ConnectionByName) → AreConnectionsWritten (ByName xs) → Each (λ c. IsWritten c.value) (connected_by_name child xs)
written_names child [] w = tt
written_names child (x ∷ xs) w =
    each_append (λ (c : Connected). IsWritten c.value) (to_found child (port_number x.name.name.0 0 child.ports) x.value) (connected_by_name child xs)
    (written_found child (port_number x.name.name.0 0 child.ports) x.value w.0) (written_names child xs w.1)

written_orders : (child : ChildShape) (k : ℕ) (xs : List ConnectionByOrder) → AreConnectionsWritten (ByOrder xs) → Each (λ c. IsWritten c.value) (connected_by_order child k xs)
written_orders child k [] w = tt
written_orders child k (x ∷ xs) w =
    each_append (λ (c : Connected). IsWritten c.value) (to_port child k x.value) (connected_by_order child (suc k) xs)
    (written_at child.clock k (slice_get child.ports k) x.value w.0) (written_orders child (suc k) xs w.1)

pub written_to : (child : ChildShape) (l : ConnectionList) → AreConnectionsWritten l → Each (λ c. IsWritten c.value) (connected_to child l)
written_to child (ByName xs) w = written_names child xs w
written_to child (ByOrder xs) w = written_orders child 0 xs w
