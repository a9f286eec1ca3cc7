-- The connections of instances under other names: the same nodes, and the same faults (IEEE 1364-2005, 12.3).
use Rattle.std.proofs.Common.{◌≡◌, ℕ, suc, ◌==◌, Bool, ◌&&◌, if◌then◌else◌, List, [], ◌∷◌, map, Option, Some, None, slice_get, refl, ◌∙◌, ap, ap₂}
use Rattle.std.proofs.lemmas.Option.{slice_get-map}
use Rattle.std.specs.Option.{option_map}
use Rattle.ls_text.specs.declared.fault.Fault.{Fault}
use Rattle.ls_text.specs.declared.name_id.NameId.{NameId}
use Rattle.typed_ir.specs.declared.target_form.TargetForm.{TargetForm}
use Rattle.typed_ir.specs.declared.target_form.TargetForm.TheVariants as form
use Rattle.typed_ir.specs.Stmts.{SizedTarget}
use Rattle.typed_ir.specs.declared.child_shape.ChildShape.{ChildShape}
use Rattle.typed_ir.specs.declared.mention.Mention.{Mention}
use Rattle.typed_ir.specs.declared.port_shape.PortShape.{PortShape}
use Rattle.typed_ir.specs.Items.{PlacedItem}
use Rattle.typed_ir.specs.Shapes.{is_clock}
use Rattle.typed_ir.specs.Trees.{UnitNode, Into, From}
use Rattle.verilog_ast.specs.Expressions as e
use Rattle.verilog_ast.specs.Expressions.{Expression, Target, Reference, Joined, NoTarget, Targets}
use Rattle.verilog_ast.specs.Items.{ConnectionByName, ConnectionByOrder, ConnectionList, ByName, ByOrder, ModuleInstance}
use Rattle.verilog_ast.specs.Places.{expression_place}
use Rattle.verilog_ast.specs.Renaming.{expression_as, target_as, by_name_as, by_order_as, connections_as, instance_as}
use Rattle.width_rules.specs.declared.due.Due.TheVariants.{AnyValue, ConstantOnly}
use Rattle.width_rules.specs.declared.writer.Writer.TheVariants as writer
use Rattle.width_rules.specs.Renaming.{MeansSame, fault_as}
use Rattle.width_rules.specs.Scopes.{Scope}
use Rattle.width_rules.proofs.RenamedFaults.{both_so, total_so, fault_of_so, same_faults, same_place}
use Rattle.width_rules.proofs.RenamedReferences.{same_reference_faults}
use Rattle.width_rules.proofs.RenamedSizes.{same_length}
use Rattle.statement_rules.specs.Targets.{target_length, parts}
use Rattle.statement_rules.proofs.RenamedStatements.{same_assigned}
use Rattle.statement_rules.proofs.RenamedTargets.{same_target_length, same_parts, same_target_faults, same_kinds}
use Rattle.width_rules.specs.Mentions.{numbered}
use Rattle.width_rules.specs.Names.{expression_targets}
use Rattle.unit_build.specs.Connections.{Connected, port_number, connection_if, connection_at, to_port, to_found, connected_by_name, connected_by_order, connected_to, all_connection_faults, all_connection_kinds}
use Rattle.unit_build.specs.ConnectionNodes.{target_or_none, driven_by, port_lane, port_value, output_node, connection_node, connected_mentions, connection_item}
use Rattle.unit_build.specs.Instances.{instance_faults, instance_kinds, item_faults, first_to, item_if, port_items, child_items, instance_items}
use Rattle.typed_ir.specs.Nodes.{known_lanes}
use Rattle.unit_build.specs.Outputs.{is_target, target_at, as_target, part_faults, written_faults, output_faults, part_kinds, written_kinds, output_kinds, reference_form, output_form, output_mentions}
use Rattle.unit_build.proofs.Items.{connection_with}
use Rattle.elaborate.specs.Renaming.{KeepsApart}
use Rattle.elaborate.proofs.RenamedNames.{same_test}
use Rattle.gen_unroll.proofs.MovedLists.{append_so, if_moved}
use Rattle.version_swap.specs.RenamedFindings.{port_shape_as, shape_as, connected_as, mention_as, placed_as}
use Rattle.version_swap.proofs.RenamedMentions.{same_expression_targets, same_numbered}
use Rattle.version_swap.proofs.RenamedTables.{same_clock}

-- ---- each connection with its port

port_number_so : (f : NameId → NameId) (name : NameId) (k : ℕ) (ps : List PortShape) → KeepsApart f
    → port_number (f name).0 k (map (port_shape_as f) ps) ≡ port_number name.0 k ps
port_number_so f name k [] apart = refl
port_number_so f name k (p ∷ ps) apart =
    ap₂ (λ (b : Bool) (r : Option ℕ). if b then Some k else r) (same_test f p.name name apart) (port_number_so f name (suc k) ps apart)

connection_if_so : (f : NameId → NameId) (clock : Option NameId) (k : ℕ) (p : PortShape) (x : Option Expression) → KeepsApart f
    → connection_if (option_map f clock) k (port_shape_as f p) (option_map (expression_as f) x)
    ≡ map (connected_as f) (connection_if clock k p x)
connection_if_so f clock k p None apart = refl
connection_if_so f clock k p (Some x) apart =
    ap (λ (b : Bool). if b then [] else record { port = k; shape = port_shape_as f p; value = expression_as f x } ∷ [])
    (same_clock f clock p.name apart)
    ∙ if_moved (map (connected_as f)) (is_clock clock p.name) [] (record { port = k; shape = p; value = x } ∷ []) _ _ refl refl

connection_at_so : (f : NameId → NameId) (clock : Option NameId) (k : ℕ) (p : Option PortShape) (x : Option Expression) → KeepsApart f
    → connection_at (option_map f clock) k (option_map (port_shape_as f) p) (option_map (expression_as f) x)
    ≡ map (connected_as f) (connection_at clock k p x)
connection_at_so f clock k None x apart = refl
connection_at_so f clock k (Some p) x apart = connection_if_so f clock k p x apart

to_port_so : (f : NameId → NameId) (child : ChildShape) (k : ℕ) (x : Option Expression) → KeepsApart f
    → to_port (shape_as f child) k (option_map (expression_as f) x) ≡ map (connected_as f) (to_port child k x)
to_port_so f child k x apart =
    ap (λ (p : Option PortShape). connection_at (option_map f child.clock) k p (option_map (expression_as f) x))
    (slice_get-map (port_shape_as f) child.ports k)
    ∙ connection_at_so f child.clock k (slice_get child.ports k) x apart

to_found_so : (f : NameId → NameId) (child : ChildShape) (k : Option ℕ) (x : Option Expression) → KeepsApart f
    → to_found (shape_as f child) k (option_map (expression_as f) x) ≡ map (connected_as f) (to_found child k x)
to_found_so f child None x apart = refl
to_found_so f child (Some k) x apart = to_port_so f child k x apart

by_name_so : (f : NameId → NameId) (child : ChildShape) (xs : List ConnectionByName) → KeepsApart f
    → connected_by_name (shape_as f child) (map (by_name_as f) xs) ≡ map (connected_as f) (connected_by_name child xs)
by_name_so f child [] apart = refl
by_name_so f child (x ∷ xs) apart =
    append_so (connected_as f) _ _ _ _
    (ap (λ (k : Option ℕ). to_found (shape_as f child) k (option_map (expression_as f) x.value)) (port_number_so f x.name.name 0 child.ports apart)
    ∙ to_found_so f child (port_number x.name.name.0 0 child.ports) x.value apart)
    (by_name_so f child xs apart)

by_order_so : (f : NameId → NameId) (child : ChildShape) (k : ℕ) (xs : List ConnectionByOrder) → KeepsApart f
    → connected_by_order (shape_as f child) k (map (by_order_as f) xs) ≡ map (connected_as f) (connected_by_order child k xs)
by_order_so f child k [] apart = refl
by_order_so f child k (x ∷ xs) apart =
    append_so (connected_as f) _ _ _ _ (to_port_so f child k x.value apart) (by_order_so f child (suc k) xs apart)

connected_so : (f : NameId → NameId) (child : ChildShape) (xs : ConnectionList) → KeepsApart f
    → connected_to (shape_as f child) (connections_as f xs) ≡ map (connected_as f) (connected_to child xs)
connected_so f child (ByName xs) apart = by_name_so f child xs apart
connected_so f child (ByOrder xs) apart = by_order_so f child 0 xs apart

-- ---- an expression as a target

is_target_so : (f : NameId → NameId) (x : Expression) → is_target (expression_as f x) ≡ is_target x
is_target_so f (e.Concatenation at xs) = is_target_so f xs
is_target_so f (e.Parts x xs) = ap₂ (λ (a b : Bool). a && b) (is_target_so f x) (is_target_so f xs)
is_target_so f rest = refl

target_at_so : (f : NameId → NameId) (x : Expression) → target_at (expression_as f x) ≡ target_as f (target_at x)
target_at_so f (e.Concatenation at xs) = ap (Joined at) (target_at_so f xs)
target_at_so f (e.Parts x xs) = ap₂ Targets (target_at_so f x) (target_at_so f xs)
target_at_so f rest = refl

as_target_so : (f : NameId → NameId) (x : Expression) → as_target (expression_as f x) ≡ option_map (target_as f) (as_target x)
as_target_so f x =
    ap (λ (b : Bool). if b then Some (target_at (expression_as f x)) else None) (is_target_so f x)
    ∙ if_moved (option_map (target_as f)) (is_target x) (Some (target_at x)) None _ _ (ap Some (target_at_so f x)) refl

-- ---- faults

part_faults_so : (f : NameId → NameId) (scope other : Scope) (x : Expression) → MeansSame f scope other
    → part_faults other (expression_as f x) ≡ map (fault_as f) (part_faults scope x)
part_faults_so f scope other (e.Whole n) same = same_reference_faults f scope other ConstantOnly (e.Whole n) same
part_faults_so f scope other (e.BitSelect n x) same = same_reference_faults f scope other ConstantOnly (e.BitSelect n x) same
part_faults_so f scope other (e.PartSelect n x y) same = same_reference_faults f scope other ConstantOnly (e.PartSelect n x y) same
part_faults_so f scope other (e.UpwardSelect n x y) same = same_reference_faults f scope other ConstantOnly (e.UpwardSelect n x y) same
part_faults_so f scope other (e.DownwardSelect n x y) same = same_reference_faults f scope other ConstantOnly (e.DownwardSelect n x y) same
part_faults_so f scope other (e.Concatenation at xs) same =
    both_so f _ _ _ _ (part_faults_so f scope other xs same) (total_so f at _ _ (same_length f scope other xs same))
part_faults_so f scope other e.NoPart same = refl
part_faults_so f scope other (e.Parts x xs) same =
    both_so f _ _ _ _ (part_faults_so f scope other x same) (part_faults_so f scope other xs same)
part_faults_so f scope other rest same = same_faults f scope other AnyValue rest same

written_faults_so : (f : NameId → NameId) (scope other : Scope) (x : Expression) (t : Option Target) → MeansSame f scope other
    → written_faults other (expression_as f x) (option_map (target_as f) t) ≡ map (fault_as f) (written_faults scope x t)
written_faults_so f scope other x None same = part_faults_so f scope other x same
written_faults_so f scope other x (Some t) same = same_target_faults f scope other ConstantOnly t same

output_faults_so : (f : NameId → NameId) (scope other : Scope) (x : Expression) → MeansSame f scope other
    → output_faults other (expression_as f x) ≡ map (fault_as f) (output_faults scope x)
output_faults_so f scope other x same =
    ap (written_faults other (expression_as f x)) (as_target_so f x) ∙ written_faults_so f scope other x (as_target x) same

part_kinds_so : (f : NameId → NameId) (scope other : Scope) (x : Expression) → MeansSame f scope other
    → part_kinds other (expression_as f x) ≡ map (fault_as f) (part_kinds scope x)
part_kinds_so f scope other (e.Whole n) same = same_kinds f scope other writer.Continuous (Reference (e.Whole n)) same
part_kinds_so f scope other (e.BitSelect n x) same = same_kinds f scope other writer.Continuous (Reference (e.BitSelect n x)) same
part_kinds_so f scope other (e.PartSelect n x y) same = same_kinds f scope other writer.Continuous (Reference (e.PartSelect n x y)) same
part_kinds_so f scope other (e.UpwardSelect n x y) same = same_kinds f scope other writer.Continuous (Reference (e.UpwardSelect n x y)) same
part_kinds_so f scope other (e.DownwardSelect n x y) same = same_kinds f scope other writer.Continuous (Reference (e.DownwardSelect n x y)) same
part_kinds_so f scope other (e.Concatenation at xs) same = part_kinds_so f scope other xs same
part_kinds_so f scope other e.NoPart same = refl
part_kinds_so f scope other (e.Parts x xs) same = both_so f _ _ _ _ (part_kinds_so f scope other x same) (part_kinds_so f scope other xs same)
part_kinds_so f scope other rest same = ap (λ (x : Fault). x ∷ []) (fault_of_so f 33 rest)

written_kinds_so : (f : NameId → NameId) (scope other : Scope) (x : Expression) (t : Option Target) → MeansSame f scope other
    → written_kinds other (expression_as f x) (option_map (target_as f) t) ≡ map (fault_as f) (written_kinds scope x t)
written_kinds_so f scope other x None same = part_kinds_so f scope other x same
written_kinds_so f scope other x (Some t) same = same_kinds f scope other writer.Continuous t same

output_kinds_so : (f : NameId → NameId) (scope other : Scope) (x : Expression) → MeansSame f scope other
    → output_kinds other (expression_as f x) ≡ map (fault_as f) (output_kinds scope x)
output_kinds_so f scope other x same =
    ap (written_kinds other (expression_as f x)) (as_target_so f x) ∙ written_kinds_so f scope other x (as_target x) same

faults_so : (f : NameId → NameId) (scope other : Scope) (cs : List Connected) → MeansSame f scope other
    → all_connection_faults other (map (connected_as f) cs) ≡ map (fault_as f) (all_connection_faults scope cs)
faults_so f scope other [] same = refl
faults_so f scope other (c ∷ cs) same =
    both_so f _ _ _ _
    (if_moved (map (fault_as f)) c.shape.input _ _ _ _ (same_faults f scope other AnyValue c.value same)
    (output_faults_so f scope other c.value same))
    (faults_so f scope other cs same)

kinds_so : (f : NameId → NameId) (scope other : Scope) (cs : List Connected) → MeansSame f scope other
    → all_connection_kinds other (map (connected_as f) cs) ≡ map (fault_as f) (all_connection_kinds scope cs)
kinds_so f scope other [] same = refl
kinds_so f scope other (c ∷ cs) same =
    both_so f _ _ _ _ (if_moved (map (fault_as f)) c.shape.input [] _ _ _ refl (output_kinds_so f scope other c.value same))
    (kinds_so f scope other cs same)

instance_faults_so : (f : NameId → NameId) (scope other : Scope) (ss : List ChildShape) (xs : List ModuleInstance) → KeepsApart f
    → MeansSame f scope other
    → instance_faults other (map (shape_as f) ss) (map (instance_as f) xs) ≡ map (fault_as f) (instance_faults scope ss xs)
instance_faults_so f scope other [] xs apart same = refl
instance_faults_so f scope other (s ∷ ss) [] apart same = refl
instance_faults_so f scope other (s ∷ ss) (x ∷ xs) apart same =
    both_so f _ _ _ _
    (ap (all_connection_faults other) (connected_so f s x.connections apart) ∙ faults_so f scope other (connected_to s x.connections) same)
    (instance_faults_so f scope other ss xs apart same)

instance_kinds_so : (f : NameId → NameId) (scope other : Scope) (ss : List ChildShape) (xs : List ModuleInstance) → KeepsApart f
    → MeansSame f scope other
    → instance_kinds other (map (shape_as f) ss) (map (instance_as f) xs) ≡ map (fault_as f) (instance_kinds scope ss xs)
instance_kinds_so f scope other [] xs apart same = refl
instance_kinds_so f scope other (s ∷ ss) [] apart same = refl
instance_kinds_so f scope other (s ∷ ss) (x ∷ xs) apart same =
    both_so f _ _ _ _
    (ap (all_connection_kinds other) (connected_so f s x.connections apart) ∙ kinds_so f scope other (connected_to s x.connections) same)
    (instance_kinds_so f scope other ss xs apart same)

pub same_instance_faults : (f : NameId → NameId) (scope other : Scope) (ss : List ChildShape) (xs : List ModuleInstance) → KeepsApart f
    → MeansSame f scope other
    → item_faults other (map (shape_as f) ss) (map (instance_as f) xs) ≡ map (fault_as f) (item_faults scope ss xs)
same_instance_faults f scope other ss xs apart same =
    both_so f _ _ _ _ (instance_faults_so f scope other ss xs apart same) (instance_kinds_so f scope other ss xs apart same)

-- ---- nodes

reference_so : (f : NameId → NameId) (x : Expression) → reference_form (expression_as f x) ≡ reference_form x
reference_so f (e.Whole n) = refl
reference_so f rest = refl

output_form_so : (f : NameId → NameId) (t : Target) → output_form (target_as f t) ≡ output_form t
output_form_so f (Reference x) = reference_so f x
output_form_so f (Joined at ts) = output_form_so f ts
output_form_so f NoTarget = refl
output_form_so f (Targets t ts) = output_form_so f t

target_or_none_so : (f : NameId → NameId) (t : Option Target) → target_or_none (option_map (target_as f) t) ≡ target_as f (target_or_none t)
target_or_none_so f None = refl
target_or_none_so f (Some t) = refl

driven_so : (f : NameId → NameId) (c : Connected) → driven_by (connected_as f c) ≡ target_as f (driven_by c)
driven_so f c = ap target_or_none (as_target_so f c.value) ∙ target_or_none_so f (as_target c.value)

output_node_so : (f : NameId → NameId) (scope other : Scope) (child : ℕ) (c : Connected) (t : Target) → MeansSame f scope other
    → output_node other child (connected_as f c) (target_as f t) ≡ output_node scope child c t
output_node_so f scope other child c t same =
    ap₂ (λ (form : TargetForm) (ps : List SizedTarget). From child form (known_lanes ps) (port_value c (target_length other (target_as f t))))
    (output_form_so f t) (same_parts f scope other 0 t same)
    ∙ ap (λ (k : ℕ). From child (output_form t) (known_lanes (parts scope 0 t)) (port_value c k)) (same_target_length f scope other t same)

node_so : (f : NameId → NameId) (scope other : Scope) (child : ℕ) (c : Connected) → MeansSame f scope other
    → connection_node other child (connected_as f c) ≡ connection_node scope child c
node_so f scope other child c same =
    ap₂ (λ (p q : UnitNode). if c.shape.input then p else q)
    (ap (Into child form.Name (port_lane c ∷ [])) (same_assigned f scope other c.shape.width c.shape.width c.value same refl))
    (ap (output_node other child (connected_as f c)) (driven_so f c) ∙ output_node_so f scope other child c (driven_by c) same)

output_mentions_so : (f : NameId → NameId) (x : Expression) → output_mentions (expression_as f x) ≡ map (mention_as f) (output_mentions x)
output_mentions_so f x =
    ap (λ (b : Bool). if b then numbered 0 (expression_targets (expression_as f x)) else []) (is_target_so f x)
    ∙ if_moved (map (mention_as f)) (is_target x) (numbered 0 (expression_targets x)) [] _ _
    (ap (numbered 0) (same_expression_targets f x) ∙ same_numbered f 0 (expression_targets x)) refl

mentions_so : (f : NameId → NameId) (c : Connected) → connected_mentions (connected_as f c) ≡ map (mention_as f) (connected_mentions c)
mentions_so f c = if_moved (map (mention_as f)) c.shape.input [] (output_mentions c.value) _ _ refl (output_mentions_so f c.value)

-- ---- items

connection_so : (f : NameId → NameId) (scope other : Scope) (child : ℕ) (c : Connected) → MeansSame f scope other
    → connection_item other child (connected_as f c) ≡ placed_as f (connection_item scope child c)
connection_so f scope other child c same =
    ap₂ (λ (n : UnitNode) (ms : List Mention). connection_with n ms (expression_place (expression_as f c.value)))
    (node_so f scope other child c same) (mentions_so f c)
    ∙ ap (connection_with (connection_node scope child c) (map (mention_as f) (connected_mentions c))) (same_place f c.value)

first_to_so : (f : NameId → NameId) (k : ℕ) (cs : List Connected) → first_to k (map (connected_as f) cs) ≡ option_map (connected_as f) (first_to k cs)
first_to_so f k [] = refl
first_to_so f k (c ∷ cs) = if_moved (option_map (connected_as f)) (c.port == k) (Some c) (first_to k cs) _ _ refl (first_to_so f k cs)

item_if_so : (f : NameId → NameId) (scope other : Scope) (child : ℕ) (c : Option Connected) → MeansSame f scope other
    → item_if other child (option_map (connected_as f) c) ≡ map (placed_as f) (item_if scope child c)
item_if_so f scope other child None same = refl
item_if_so f scope other child (Some c) same = ap (λ (x : PlacedItem). x ∷ []) (connection_so f scope other child c same)

port_items_so : (f : NameId → NameId) (scope other : Scope) (child : ℕ) (cs : List Connected) (k : ℕ) (ps : List PortShape)
    → MeansSame f scope other
    → port_items other child (map (connected_as f) cs) k (map (port_shape_as f) ps) ≡ map (placed_as f) (port_items scope child cs k ps)
port_items_so f scope other child cs k [] same = refl
port_items_so f scope other child cs k (p ∷ ps) same =
    append_so (placed_as f) _ _ _ _
    (ap (item_if other child) (first_to_so f k cs) ∙ item_if_so f scope other child (first_to k cs) same)
    (port_items_so f scope other child cs (suc k) ps same)

child_so : (f : NameId → NameId) (scope other : Scope) (child : ℕ) (s : ChildShape) (x : ModuleInstance) → KeepsApart f → MeansSame f scope other
    → child_items other child (shape_as f s) (instance_as f x) ≡ map (placed_as f) (child_items scope child s x)
child_so f scope other child s x apart same =
    ap (λ (cs : List Connected). port_items other child cs 0 (map (port_shape_as f) s.ports)) (connected_so f s x.connections apart)
    ∙ port_items_so f scope other child (connected_to s x.connections) 0 s.ports same

pub same_instance_items : (f : NameId → NameId) (scope other : Scope) (first : ℕ) (ss : List ChildShape) (xs : List ModuleInstance) → KeepsApart f
    → MeansSame f scope other
    → instance_items other first (map (shape_as f) ss) (map (instance_as f) xs) ≡ map (placed_as f) (instance_items scope first ss xs)
same_instance_items f scope other first [] xs apart same = refl
same_instance_items f scope other first (s ∷ ss) [] apart same = refl
same_instance_items f scope other first (s ∷ ss) (x ∷ xs) apart same =
    append_so (placed_as f) _ _ _ _ (child_so f scope other first s x apart same) (same_instance_items f scope other (suc first) ss xs apart same)
