-- The connections of instances without places: the same nodes, and the same faults (IEEE 1364-2005, 12.3).
use Rattle.std.proofs.Common.{◌≡◌, ℕ, suc, ◌==◌, Bool, ◌&&◌, if◌then◌else◌, List, [], ◌∷◌, map, Option, Some, None, slice_get, refl, ◌∙◌, ap, ap₂}
use Rattle.std.specs.Option.{option_map}
use Rattle.ls_text.specs.declared.fault.Fault.{Fault}
use Rattle.ls_text.specs.declared.name_id.NameId.{NameId}
use Rattle.typed_ir.specs.declared.target_form.TargetForm.{TargetForm}
use Rattle.typed_ir.specs.declared.target_form.TargetForm.TheVariants as form
use Rattle.typed_ir.specs.Stmts.{SizedTarget}
use Rattle.typed_ir.specs.declared.child_shape.ChildShape.{ChildShape}
use Rattle.typed_ir.specs.declared.mention.Mention.{Mention}
use Rattle.typed_ir.specs.declared.port_shape.PortShape.{PortShape}
use Rattle.typed_ir.specs.Items.{PlacedItem}
use Rattle.typed_ir.specs.Shapes.{is_clock}
use Rattle.typed_ir.specs.Trees.{UnitNode, Into, From}
use Rattle.verilog_ast.specs.Expressions as e
use Rattle.verilog_ast.specs.Expressions.{Expression, Target, Reference, Joined, NoTarget, Targets}
use Rattle.verilog_ast.specs.Items.{ConnectionByName, ConnectionByOrder, ConnectionList, ByName, ByOrder, ModuleInstance}
use Rattle.verilog_ast.specs.Places.{no_place, expression_place}
use Rattle.width_rules.specs.declared.due.Due.TheVariants.{AnyValue, ConstantOnly}
use Rattle.width_rules.specs.declared.writer.Writer.TheVariants as writer
use Rattle.width_rules.specs.Scopes.{Scope}
use Rattle.statement_rules.specs.Targets.{target_length, parts}
use Rattle.width_rules.specs.Mentions.{numbered}
use Rattle.width_rules.specs.Names.{expression_targets}
use Rattle.unit_build.specs.Connections.{Connected, port_number, connection_if, connection_at, to_port, to_found, connected_by_name, connected_by_order, connected_to, all_connection_faults, all_connection_kinds}
use Rattle.unit_build.specs.ConnectionNodes.{target_or_none, driven_by, port_lane, port_value, output_node, connection_node, connected_mentions, connection_item}
use Rattle.unit_build.specs.Instances.{instance_faults, instance_kinds, item_faults, first_to, item_if, port_items, child_items, instance_items}
use Rattle.typed_ir.specs.Nodes.{known_lanes}
use Rattle.unit_build.specs.Outputs.{is_target, target_at, as_target, part_faults, written_faults, output_faults, part_kinds, written_kinds, output_kinds, reference_form, output_form, output_mentions}
use Rattle.unit_build.proofs.Items.{connection_with}
use Rattle.version_swap.specs.Unplaced.{unplaced_expression, unplaced_target, unplaced_by_name, unplaced_by_order, unplaced_connections, unplaced_instance}
use Rattle.version_swap.specs.UnplacedFindings.{fault_unplaced, mention_unplaced, connected_unplaced, placed_unplaced}
use Rattle.gen_unroll.proofs.MovedLists.{append_so, if_moved}
use Rattle.version_swap.proofs.UnplacedFaults.{both_so, total_so, fault_of_so, same_place, same_faults}
use Rattle.version_swap.proofs.UnplacedMentions.{same_expression_targets, same_numbered}
use Rattle.version_swap.proofs.UnplacedReferences.{same_reference_faults}
use Rattle.version_swap.proofs.UnplacedSizes.{same_length}
use Rattle.version_swap.proofs.UnplacedStatements.{same_assigned}
use Rattle.version_swap.proofs.UnplacedTargets.{same_target_length, same_parts, same_target_faults, same_kinds}

-- ---- each connection with its port

connection_if_so : (clock : Option NameId) (k : ℕ) (p : PortShape) (x : Option Expression)
    → connection_if clock k p (option_map unplaced_expression x) ≡ map connected_unplaced (connection_if clock k p x)
connection_if_so clock k p None = refl
connection_if_so clock k p (Some x) =
    if_moved (map connected_unplaced) (is_clock clock p.name) [] (record { port = k; shape = p; value = x } ∷ []) _ _ refl refl

connection_at_so : (clock : Option NameId) (k : ℕ) (p : Option PortShape) (x : Option Expression)
    → connection_at clock k p (option_map unplaced_expression x) ≡ map connected_unplaced (connection_at clock k p x)
connection_at_so clock k None x = refl
connection_at_so clock k (Some p) x = connection_if_so clock k p x

to_port_so : (child : ChildShape) (k : ℕ) (x : Option Expression)
    → to_port child k (option_map unplaced_expression x) ≡ map connected_unplaced (to_port child k x)
to_port_so child k x = connection_at_so child.clock k (slice_get child.ports k) x

to_found_so : (child : ChildShape) (k : Option ℕ) (x : Option Expression)
    → to_found child k (option_map unplaced_expression x) ≡ map connected_unplaced (to_found child k x)
to_found_so child None x = refl
to_found_so child (Some k) x = to_port_so child k x

by_name_so : (child : ChildShape) (xs : List ConnectionByName)
    → connected_by_name child (map unplaced_by_name xs) ≡ map connected_unplaced (connected_by_name child xs)
by_name_so child [] = refl
by_name_so child (x ∷ xs) =
    append_so connected_unplaced _ _ _ _ (to_found_so child (port_number x.name.name.0 0 child.ports) x.value) (by_name_so child xs)

by_order_so : (child : ChildShape) (k : ℕ) (xs : List ConnectionByOrder)
    → connected_by_order child k (map unplaced_by_order xs) ≡ map connected_unplaced (connected_by_order child k xs)
by_order_so child k [] = refl
by_order_so child k (x ∷ xs) = append_so connected_unplaced _ _ _ _ (to_port_so child k x.value) (by_order_so child (suc k) xs)

connected_so : (child : ChildShape) (xs : ConnectionList)
    → connected_to child (unplaced_connections xs) ≡ map connected_unplaced (connected_to child xs)
connected_so child (ByName xs) = by_name_so child xs
connected_so child (ByOrder xs) = by_order_so child 0 xs

-- ---- an expression as a target

is_target_so : (x : Expression) → is_target (unplaced_expression x) ≡ is_target x
is_target_so (e.Concatenation at xs) = is_target_so xs
is_target_so (e.Parts x xs) = ap₂ (λ (a b : Bool). a && b) (is_target_so x) (is_target_so xs)
is_target_so other = refl

target_at_so : (x : Expression) → target_at (unplaced_expression x) ≡ unplaced_target (target_at x)
target_at_so (e.Concatenation at xs) = ap (Joined no_place) (target_at_so xs)
target_at_so (e.Parts x xs) = ap₂ Targets (target_at_so x) (target_at_so xs)
target_at_so other = refl

as_target_so : (x : Expression) → as_target (unplaced_expression x) ≡ option_map unplaced_target (as_target x)
as_target_so x =
    ap (λ (b : Bool). if b then Some (target_at (unplaced_expression x)) else None) (is_target_so x)
    ∙ if_moved (option_map unplaced_target) (is_target x) (Some (target_at x)) None _ _ (ap Some (target_at_so x)) refl

-- ---- faults

part_faults_so : (scope : Scope) (x : Expression) → part_faults scope (unplaced_expression x) ≡ map fault_unplaced (part_faults scope x)
part_faults_so scope (e.Whole n) = same_reference_faults scope ConstantOnly (e.Whole n)
part_faults_so scope (e.BitSelect n x) = same_reference_faults scope ConstantOnly (e.BitSelect n x)
part_faults_so scope (e.PartSelect n x y) = same_reference_faults scope ConstantOnly (e.PartSelect n x y)
part_faults_so scope (e.UpwardSelect n x y) = same_reference_faults scope ConstantOnly (e.UpwardSelect n x y)
part_faults_so scope (e.DownwardSelect n x y) = same_reference_faults scope ConstantOnly (e.DownwardSelect n x y)
part_faults_so scope (e.Concatenation at xs) = both_so _ _ _ _ (part_faults_so scope xs) (total_so at _ _ (same_length scope xs))
part_faults_so scope e.NoPart = refl
part_faults_so scope (e.Parts x xs) = both_so _ _ _ _ (part_faults_so scope x) (part_faults_so scope xs)
part_faults_so scope other = same_faults scope AnyValue other

written_faults_so : (scope : Scope) (x : Expression) (t : Option Target)
    → written_faults scope (unplaced_expression x) (option_map unplaced_target t) ≡ map fault_unplaced (written_faults scope x t)
written_faults_so scope x None = part_faults_so scope x
written_faults_so scope x (Some t) = same_target_faults scope ConstantOnly t

output_faults_so : (scope : Scope) (x : Expression) → output_faults scope (unplaced_expression x) ≡ map fault_unplaced (output_faults scope x)
output_faults_so scope x = ap (written_faults scope (unplaced_expression x)) (as_target_so x) ∙ written_faults_so scope x (as_target x)

part_kinds_so : (scope : Scope) (x : Expression) → part_kinds scope (unplaced_expression x) ≡ map fault_unplaced (part_kinds scope x)
part_kinds_so scope (e.Whole n) = same_kinds scope writer.Continuous (Reference (e.Whole n))
part_kinds_so scope (e.BitSelect n x) = same_kinds scope writer.Continuous (Reference (e.BitSelect n x))
part_kinds_so scope (e.PartSelect n x y) = same_kinds scope writer.Continuous (Reference (e.PartSelect n x y))
part_kinds_so scope (e.UpwardSelect n x y) = same_kinds scope writer.Continuous (Reference (e.UpwardSelect n x y))
part_kinds_so scope (e.DownwardSelect n x y) = same_kinds scope writer.Continuous (Reference (e.DownwardSelect n x y))
part_kinds_so scope (e.Concatenation at xs) = part_kinds_so scope xs
part_kinds_so scope e.NoPart = refl
part_kinds_so scope (e.Parts x xs) = both_so _ _ _ _ (part_kinds_so scope x) (part_kinds_so scope xs)
part_kinds_so scope other = ap (λ (f : Fault). f ∷ []) (fault_of_so 33 other)

written_kinds_so : (scope : Scope) (x : Expression) (t : Option Target)
    → written_kinds scope (unplaced_expression x) (option_map unplaced_target t) ≡ map fault_unplaced (written_kinds scope x t)
written_kinds_so scope x None = part_kinds_so scope x
written_kinds_so scope x (Some t) = same_kinds scope writer.Continuous t

output_kinds_so : (scope : Scope) (x : Expression) → output_kinds scope (unplaced_expression x) ≡ map fault_unplaced (output_kinds scope x)
output_kinds_so scope x = ap (written_kinds scope (unplaced_expression x)) (as_target_so x) ∙ written_kinds_so scope x (as_target x)

faults_so : (scope : Scope) (cs : List Connected)
    → all_connection_faults scope (map connected_unplaced cs) ≡ map fault_unplaced (all_connection_faults scope cs)
faults_so scope [] = refl
faults_so scope (c ∷ cs) =
    both_so _ _ _ _
    (if_moved (map fault_unplaced) c.shape.input _ _ _ _ (same_faults scope AnyValue c.value) (output_faults_so scope c.value))
    (faults_so scope cs)

kinds_so : (scope : Scope) (cs : List Connected)
    → all_connection_kinds scope (map connected_unplaced cs) ≡ map fault_unplaced (all_connection_kinds scope cs)
kinds_so scope [] = refl
kinds_so scope (c ∷ cs) =
    both_so _ _ _ _ (if_moved (map fault_unplaced) c.shape.input [] _ _ _ refl (output_kinds_so scope c.value)) (kinds_so scope cs)

instance_faults_so : (scope : Scope) (ss : List ChildShape) (xs : List ModuleInstance)
    → instance_faults scope ss (map unplaced_instance xs) ≡ map fault_unplaced (instance_faults scope ss xs)
instance_faults_so scope [] xs = refl
instance_faults_so scope (s ∷ ss) [] = refl
instance_faults_so scope (s ∷ ss) (x ∷ xs) =
    both_so _ _ _ _ (ap (all_connection_faults scope) (connected_so s x.connections) ∙ faults_so scope (connected_to s x.connections))
    (instance_faults_so scope ss xs)

instance_kinds_so : (scope : Scope) (ss : List ChildShape) (xs : List ModuleInstance)
    → instance_kinds scope ss (map unplaced_instance xs) ≡ map fault_unplaced (instance_kinds scope ss xs)
instance_kinds_so scope [] xs = refl
instance_kinds_so scope (s ∷ ss) [] = refl
instance_kinds_so scope (s ∷ ss) (x ∷ xs) =
    both_so _ _ _ _ (ap (all_connection_kinds scope) (connected_so s x.connections) ∙ kinds_so scope (connected_to s x.connections))
    (instance_kinds_so scope ss xs)

pub same_instance_faults : (scope : Scope) (ss : List ChildShape) (xs : List ModuleInstance)
    → item_faults scope ss (map unplaced_instance xs) ≡ map fault_unplaced (item_faults scope ss xs)
same_instance_faults scope ss xs = both_so _ _ _ _ (instance_faults_so scope ss xs) (instance_kinds_so scope ss xs)

-- ---- nodes

reference_so : (x : Expression) → reference_form (unplaced_expression x) ≡ reference_form x
reference_so (e.Whole n) = refl
reference_so other = refl

output_form_so : (t : Target) → output_form (unplaced_target t) ≡ output_form t
output_form_so (Reference x) = reference_so x
output_form_so (Joined at ts) = output_form_so ts
output_form_so NoTarget = refl
output_form_so (Targets t ts) = output_form_so t

target_or_none_so : (t : Option Target) → target_or_none (option_map unplaced_target t) ≡ unplaced_target (target_or_none t)
target_or_none_so None = refl
target_or_none_so (Some t) = refl

driven_so : (c : Connected) → driven_by (connected_unplaced c) ≡ unplaced_target (driven_by c)
driven_so c = ap target_or_none (as_target_so c.value) ∙ target_or_none_so (as_target c.value)

output_node_so : (scope : Scope) (child : ℕ) (c : Connected) (t : Target)
    → output_node scope child (connected_unplaced c) (unplaced_target t) ≡ output_node scope child c t
output_node_so scope child c t =
    ap₂ (λ (f : TargetForm) (ps : List SizedTarget). From child f (known_lanes ps) (port_value c (target_length scope (unplaced_target t))))
    (output_form_so t) (same_parts scope 0 t)
    ∙ ap (λ (k : ℕ). From child (output_form t) (known_lanes (parts scope 0 t)) (port_value c k)) (same_target_length scope t)

node_so : (scope : Scope) (child : ℕ) (c : Connected) → connection_node scope child (connected_unplaced c) ≡ connection_node scope child c
node_so scope child c =
    ap₂ (λ (p q : UnitNode). if c.shape.input then p else q)
    (ap (Into child form.Name (port_lane c ∷ [])) (same_assigned scope c.shape.width c.shape.width c.value refl))
    (ap (output_node scope child (connected_unplaced c)) (driven_so c) ∙ output_node_so scope child c (driven_by c))

output_mentions_so : (x : Expression) → output_mentions (unplaced_expression x) ≡ map mention_unplaced (output_mentions x)
output_mentions_so x =
    ap (λ (b : Bool). if b then numbered 0 (expression_targets (unplaced_expression x)) else []) (is_target_so x)
    ∙ if_moved (map mention_unplaced) (is_target x) (numbered 0 (expression_targets x)) [] _ _
    (ap (numbered 0) (same_expression_targets x) ∙ same_numbered 0 (expression_targets x)) refl

mentions_so : (c : Connected) → connected_mentions (connected_unplaced c) ≡ map mention_unplaced (connected_mentions c)
mentions_so c = if_moved (map mention_unplaced) c.shape.input [] (output_mentions c.value) _ _ refl (output_mentions_so c.value)

-- ---- items

connection_so : (scope : Scope) (child : ℕ) (c : Connected)
    → connection_item scope child (connected_unplaced c) ≡ placed_unplaced (connection_item scope child c)
connection_so scope child c =
    ap₂ (λ (n : UnitNode) (ms : List Mention). connection_with n ms (expression_place (unplaced_expression c.value))) (node_so scope child c)
    (mentions_so c)
    ∙ ap (connection_with (connection_node scope child c) (map mention_unplaced (connected_mentions c))) (same_place c.value)

first_to_so : (k : ℕ) (cs : List Connected) → first_to k (map connected_unplaced cs) ≡ option_map connected_unplaced (first_to k cs)
first_to_so k [] = refl
first_to_so k (c ∷ cs) = if_moved (option_map connected_unplaced) (c.port == k) (Some c) (first_to k cs) _ _ refl (first_to_so k cs)

item_if_so : (scope : Scope) (child : ℕ) (c : Option Connected)
    → item_if scope child (option_map connected_unplaced c) ≡ map placed_unplaced (item_if scope child c)
item_if_so scope child None = refl
item_if_so scope child (Some c) = ap (λ (x : PlacedItem). x ∷ []) (connection_so scope child c)

port_items_so : (scope : Scope) (child : ℕ) (cs : List Connected) (k : ℕ) (ps : List PortShape)
    → port_items scope child (map connected_unplaced cs) k ps ≡ map placed_unplaced (port_items scope child cs k ps)
port_items_so scope child cs k [] = refl
port_items_so scope child cs k (p ∷ ps) =
    append_so placed_unplaced _ _ _ _ (ap (item_if scope child) (first_to_so k cs) ∙ item_if_so scope child (first_to k cs))
    (port_items_so scope child cs (suc k) ps)

child_so : (scope : Scope) (child : ℕ) (s : ChildShape) (x : ModuleInstance)
    → child_items scope child s (unplaced_instance x) ≡ map placed_unplaced (child_items scope child s x)
child_so scope child s x =
    ap (λ (cs : List Connected). port_items scope child cs 0 s.ports) (connected_so s x.connections)
    ∙ port_items_so scope child (connected_to s x.connections) 0 s.ports

pub same_instance_items : (scope : Scope) (first : ℕ) (ss : List ChildShape) (xs : List ModuleInstance)
    → instance_items scope first ss (map unplaced_instance xs) ≡ map placed_unplaced (instance_items scope first ss xs)
same_instance_items scope first [] xs = refl
same_instance_items scope first (s ∷ ss) [] = refl
same_instance_items scope first (s ∷ ss) (x ∷ xs) =
    append_so placed_unplaced _ _ _ _ (child_so scope first s x) (same_instance_items scope (suc first) ss xs)
