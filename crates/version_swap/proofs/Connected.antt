-- Connections of instances where the signals of the module have other numbers: the same faults, and their items under these numbers.
use Rattle.std.proofs.Common.{◌≡◌, ℕ, suc, Bool, true, false, cond, List, [], ◌∷◌, ◌++◌, map, refl, sym, ◌∙◌, ap, ap₂}
use Rattle.std.specs.Prelude.{Option, Some, None}
use Rattle.std.proofs.lemmas.List.{map-append}
use Rattle.ls_text.proofs.Lists.{joined_so}
use Rattle.typed_ir.specs.declared.lane.Lane.{Lane}
use Rattle.typed_ir.specs.declared.target_form.TargetForm.TheVariants as form
use Rattle.typed_ir.specs.Orders.{Each}
use Rattle.typed_ir.specs.Sized.{Sized}
use Rattle.typed_ir.specs.declared.child_shape.ChildShape.{ChildShape}
use Rattle.typed_ir.specs.declared.port_shape.PortShape.{PortShape}
use Rattle.typed_ir.specs.Items.{PlacedItem}
use Rattle.typed_ir.specs.Trees.{UnitNode, Into, From}
use Rattle.verilog_ast.specs.Expressions as e
use Rattle.verilog_ast.specs.Expressions.{Expression, Target, Reference}
use Rattle.verilog_ast.specs.Items.{ModuleInstance}
use Rattle.width_rules.specs.declared.due.Due.TheVariants.{AnyValue, ConstantOnly}
use Rattle.width_rules.specs.declared.writer.Writer.TheVariants as writer
use Rattle.width_rules.specs.Faults.{faults, total_faults}
use Rattle.width_rules.specs.Scopes.{Scope}
use Rattle.width_rules.proofs.Reading.{left_none, right_none}
use Rattle.statement_rules.specs.Targets.{parts}
use Rattle.statement_rules.specs.Renumbering.{renumbered, target_as}
use Rattle.statement_rules.specs.Written.{IsWritten}
use Rattle.statement_rules.proofs.RenumberedFaults.{faults_as, target_long_as, target_faults_as, kinds_as}
use Rattle.statement_rules.proofs.RenumberedForms.{long_as}
use Rattle.statement_rules.proofs.RenumberedStatements.{assigned_as}
use Rattle.statement_rules.proofs.RenumberedTargets.{parts_as}
use Rattle.unit_build.specs.Connections.{Connected, connected_to, connection_faults, connection_kinds, all_connection_faults, all_connection_kinds}
use Rattle.unit_build.specs.ConnectionNodes.{target_or_none, driven_by, port_lane, port_value, input_node, output_node, connection_node, connected_mentions, item_with, connection_item}
use Rattle.unit_build.specs.Instances.{instance_faults, instance_kinds, item_faults, first_to, item_if, port_items, child_items, instance_items}
use Rattle.typed_ir.specs.Nodes.{known_lanes}
use Rattle.unit_build.specs.Outputs.{is_target, target_at, as_target, part_faults, written_faults, output_faults, part_kinds, written_kinds, output_kinds, output_form}
use Rattle.unit_build.proofs.StandingConnections.{first_is}
use Rattle.unit_build.proofs.ConnectedTargets.{target_written}
use Rattle.unit_build.proofs.ConnectedTexts.{AreInstancesWritten, written_to}
use Rattle.version_swap.specs.RenumberedItems.{node_as, placed_as}
use Rattle.version_swap.proofs.Declared.{known_lanes_as}

-- ---- faults

part_faults_as : (g : ℕ → ℕ) (scope : Scope) (x : Expression) → part_faults (renumbered g scope) x ≡ part_faults scope x
part_faults_as g scope (e.Whole n) = target_faults_as g scope ConstantOnly (Reference (e.Whole n))
part_faults_as g scope (e.BitSelect n x) = target_faults_as g scope ConstantOnly (Reference (e.BitSelect n x))
part_faults_as g scope (e.PartSelect n x y) = target_faults_as g scope ConstantOnly (Reference (e.PartSelect n x y))
part_faults_as g scope (e.UpwardSelect n x y) = target_faults_as g scope ConstantOnly (Reference (e.UpwardSelect n x y))
part_faults_as g scope (e.DownwardSelect n x y) = target_faults_as g scope ConstantOnly (Reference (e.DownwardSelect n x y))
part_faults_as g scope (e.Concatenation at xs) = joined_so (part_faults_as g scope xs) (ap (total_faults at) (long_as g scope xs))
part_faults_as g scope e.NoPart = refl
part_faults_as g scope (e.Parts x xs) = joined_so (part_faults_as g scope x) (part_faults_as g scope xs)
part_faults_as g scope other = faults_as g scope AnyValue other

written_faults_as : (g : ℕ → ℕ) (scope : Scope) (x : Expression) (t : Option Target)
    → written_faults (renumbered g scope) x t ≡ written_faults scope x t
written_faults_as g scope x None = part_faults_as g scope x
written_faults_as g scope x (Some t) = target_faults_as g scope ConstantOnly t

part_kinds_as : (g : ℕ → ℕ) (scope : Scope) (x : Expression) → part_kinds (renumbered g scope) x ≡ part_kinds scope x
part_kinds_as g scope (e.Whole n) = kinds_as g scope writer.Continuous (Reference (e.Whole n))
part_kinds_as g scope (e.BitSelect n x) = kinds_as g scope writer.Continuous (Reference (e.BitSelect n x))
part_kinds_as g scope (e.PartSelect n x y) = kinds_as g scope writer.Continuous (Reference (e.PartSelect n x y))
part_kinds_as g scope (e.UpwardSelect n x y) = kinds_as g scope writer.Continuous (Reference (e.UpwardSelect n x y))
part_kinds_as g scope (e.DownwardSelect n x y) = kinds_as g scope writer.Continuous (Reference (e.DownwardSelect n x y))
part_kinds_as g scope (e.Concatenation at xs) = part_kinds_as g scope xs
part_kinds_as g scope e.NoPart = refl
part_kinds_as g scope (e.Parts x xs) = joined_so (part_kinds_as g scope x) (part_kinds_as g scope xs)
part_kinds_as g scope other = refl

written_kinds_as : (g : ℕ → ℕ) (scope : Scope) (x : Expression) (t : Option Target) → written_kinds (renumbered g scope) x t ≡ written_kinds scope x t
written_kinds_as g scope x None = part_kinds_as g scope x
written_kinds_as g scope x (Some t) = kinds_as g scope writer.Continuous t

faults_so : (g : ℕ → ℕ) (scope : Scope) (c : Connected) → connection_faults (renumbered g scope) c ≡ connection_faults scope c
faults_so g scope c = by_input c.shape.input
  where
    by_input : (b : Bool) → cond b (faults (renumbered g scope) AnyValue c.value) (output_faults (renumbered g scope) c.value)
        ≡ cond b (faults scope AnyValue c.value) (output_faults scope c.value)
    by_input true = faults_as g scope AnyValue c.value
    by_input false = written_faults_as g scope c.value (as_target c.value)

kinds_so : (g : ℕ → ℕ) (scope : Scope) (c : Connected) → connection_kinds (renumbered g scope) c ≡ connection_kinds scope c
kinds_so g scope c = by_input c.shape.input
  where
    by_input : (b : Bool) → cond b [] (output_kinds (renumbered g scope) c.value) ≡ cond b [] (output_kinds scope c.value)
    by_input true = refl
    by_input false = written_kinds_as g scope c.value (as_target c.value)

all_faults_so : (g : ℕ → ℕ) (scope : Scope) (cs : List Connected) → all_connection_faults (renumbered g scope) cs ≡ all_connection_faults scope cs
all_faults_so g scope [] = refl
all_faults_so g scope (c ∷ cs) = joined_so (faults_so g scope c) (all_faults_so g scope cs)

all_kinds_so : (g : ℕ → ℕ) (scope : Scope) (cs : List Connected) → all_connection_kinds (renumbered g scope) cs ≡ all_connection_kinds scope cs
all_kinds_so g scope [] = refl
all_kinds_so g scope (c ∷ cs) = joined_so (kinds_so g scope c) (all_kinds_so g scope cs)

instance_faults_as : (g : ℕ → ℕ) (scope : Scope) (ss : List ChildShape) (xs : List ModuleInstance)
    → instance_faults (renumbered g scope) ss xs ≡ instance_faults scope ss xs
instance_faults_as g scope [] xs = refl
instance_faults_as g scope (s ∷ ss) [] = refl
instance_faults_as g scope (s ∷ ss) (x ∷ xs) =
    joined_so (all_faults_so g scope (connected_to s x.connections)) (instance_faults_as g scope ss xs)

instance_kinds_as : (g : ℕ → ℕ) (scope : Scope) (ss : List ChildShape) (xs : List ModuleInstance)
    → instance_kinds (renumbered g scope) ss xs ≡ instance_kinds scope ss xs
instance_kinds_as g scope [] xs = refl
instance_kinds_as g scope (s ∷ ss) [] = refl
instance_kinds_as g scope (s ∷ ss) (x ∷ xs) =
    joined_so (all_kinds_so g scope (connected_to s x.connections)) (instance_kinds_as g scope ss xs)

pub item_faults_as : (g : ℕ → ℕ) (scope : Scope) (ss : List ChildShape) (xs : List ModuleInstance)
    → item_faults (renumbered g scope) ss xs ≡ item_faults scope ss xs
item_faults_as g scope ss xs = joined_so (instance_faults_as g scope ss xs) (instance_kinds_as g scope ss xs)

-- ---- nodes

-- what is no target has no parts
driven_as : (g : ℕ → ℕ) (scope : Scope) (x : Expression) → IsWritten x → output_kinds scope x ≡ []
    → parts (renumbered g scope) 0 (target_or_none (as_target x)) ≡ map (target_as g) (parts scope 0 (target_or_none (as_target x)))
driven_as g scope x w h = by_target (is_target x) refl h
  where
    by_target : (b : Bool) → is_target x ≡ b → written_kinds scope x (cond b (Some (target_at x)) None) ≡ []
        → parts (renumbered g scope) 0 (target_or_none (cond b (Some (target_at x)) None))
        ≡ map (target_as g) (parts scope 0 (target_or_none (cond b (Some (target_at x)) None)))
    by_target true is k = parts_as g scope writer.Continuous 0 (target_at x) (target_written x w is) k
    by_target false is k = refl

input_as : (g : ℕ → ℕ) (scope : Scope) (child : ℕ) (c : Connected) → input_node (renumbered g scope) child c ≡ node_as g (input_node scope child c)
input_as g scope child c =
    ap (λ (x : Sized). Into child form.Name (port_lane c ∷ []) x) (assigned_as g scope c.shape.width c.shape.width c.value refl)

output_as : (g : ℕ → ℕ) (scope : Scope) (child : ℕ) (c : Connected) → IsWritten c.value → output_kinds scope c.value ≡ []
    → output_node (renumbered g scope) child c (driven_by c) ≡ node_as g (output_node scope child c (driven_by c))
output_as g scope child c w h =
    ap₂ (λ (ls : List Lane) (n : ℕ). From child (output_form (driven_by c)) ls (port_value c n))
    (ap known_lanes (driven_as g scope c.value w h) ∙ known_lanes_as g (parts scope 0 (driven_by c)))
    (target_long_as g scope (driven_by c))

node_so : (g : ℕ → ℕ) (scope : Scope) (child : ℕ) (c : Connected) → IsWritten c.value → connection_kinds scope c ≡ []
    → connection_node (renumbered g scope) child c ≡ node_as g (connection_node scope child c)
node_so g scope child c w h = by_input c.shape.input h
  where
    by_input : (b : Bool) → cond b [] (output_kinds scope c.value) ≡ []
        → cond b (input_node (renumbered g scope) child c) (output_node (renumbered g scope) child c (driven_by c))
        ≡ node_as g (cond b (input_node scope child c) (output_node scope child c (driven_by c)))
    by_input true k = input_as g scope child c
    by_input false k = output_as g scope child c w k

-- ---- items

-- written as a parser writes it, and of the right kind
record IsRight (scope : Scope) (c : Connected) : Type 0 where
  written : IsWritten c.value
  kind : connection_kinds scope c ≡ []

all_right : (scope : Scope) (cs : List Connected) → Each (λ c. IsWritten c.value) cs → all_connection_kinds scope cs ≡ [] → Each (IsRight scope) cs
all_right scope [] w h = tt
all_right scope (c ∷ cs) w h = (
  record { written = w.0; kind = left_none (connection_kinds scope c) (all_connection_kinds scope cs) h },
  all_right scope cs w.1 (right_none (connection_kinds scope c) (all_connection_kinds scope cs) h),
)

item_so : (g : ℕ → ℕ) (scope : Scope) (child : ℕ) (c : Connected) → IsRight scope c
    → connection_item (renumbered g scope) child c ≡ placed_as g (connection_item scope child c)
item_so g scope child c right = ap (λ (n : UnitNode). item_with n (connected_mentions c) c) (node_so g scope child c right.written right.kind)

ports_so : (g : ℕ → ℕ) (scope : Scope) (child : ℕ) (cs : List Connected) → Each (IsRight scope) cs → (k : ℕ) (ps : List PortShape)
    → port_items (renumbered g scope) child cs k ps ≡ map (placed_as g) (port_items scope child cs k ps)
ports_so g scope child cs right k [] = refl
ports_so g scope child cs right k (p ∷ ps) =
    ap₂ (λ (xs ys : List PlacedItem). xs ++ ys)
    (at_port (first_to k cs) (λ c is. first_is (IsRight scope) k cs c right is)) (ports_so g scope child cs right (suc k) ps)
    ∙ sym (map-append (placed_as g) (item_if scope child (first_to k cs)) (port_items scope child cs (suc k) ps))
  where
    at_port : (o : Option Connected) → ((c : Connected) → o ≡ Some c → IsRight scope c)
        → item_if (renumbered g scope) child o ≡ map (placed_as g) (item_if scope child o)
    at_port None h = refl
    at_port (Some c) h = ap (λ (x : PlacedItem). x ∷ []) (item_so g scope child c (h c refl))

child_so : (g : ℕ → ℕ) (scope : Scope) (child : ℕ) (s : ChildShape) (x : ModuleInstance)
    → Each (λ c. IsWritten c.value) (connected_to s x.connections)
    → all_connection_kinds scope (connected_to s x.connections) ≡ []
    → child_items (renumbered g scope) child s x ≡ map (placed_as g) (child_items scope child s x)
child_so g scope child s x w h = ports_so g scope child (connected_to s x.connections) (all_right scope (connected_to s x.connections) w h) 0 s.ports

instances_so : (g : ℕ → ℕ) (scope : Scope) (first : ℕ) (ss : List ChildShape) (xs : List ModuleInstance) → AreInstancesWritten xs
    → instance_kinds scope ss xs ≡ []
    → instance_items (renumbered g scope) first ss xs ≡ map (placed_as g) (instance_items scope first ss xs)
instances_so g scope first [] xs w h = refl
instances_so g scope first (s ∷ ss) [] w h = refl
instances_so g scope first (s ∷ ss) (x ∷ xs) w h =
    let kinds = all_connection_kinds scope (connected_to s x.connections) in
    ap₂ (λ (ps qs : List PlacedItem). ps ++ qs)
    (child_so g scope first s x (written_to s x.connections w.0) (left_none kinds (instance_kinds scope ss xs) h))
    (instances_so g scope (suc first) ss xs w.1 (right_none kinds (instance_kinds scope ss xs) h))
    ∙ sym (map-append (placed_as g) (child_items scope first s x) (instance_items scope (suc first) ss xs))

pub instance_items_as : (g : ℕ → ℕ) (scope : Scope) (child : ℕ) (shapes : List ChildShape) (xs : List ModuleInstance) → AreInstancesWritten xs
    → item_faults scope shapes xs ≡ []
    → instance_items (renumbered g scope) child shapes xs ≡ map (placed_as g) (instance_items scope child shapes xs)
instance_items_as g scope child shapes xs w h =
    instances_so g scope child shapes xs w (right_none (instance_faults scope shapes xs) (instance_kinds scope shapes xs) h)
