-- The nodes of a walk are the module's own and those of connections.
use Rattle.std.proofs.Common.{◌≡◌, ℕ, ◌+◌, Bool, true, false, List, [], ◌∷◌, ◌++◌, map, cond, refl, sym, ◌∙◌, ap, true≢false, subst, arith}
use Rattle.typed_ir.specs.Nodes.{FlatNode}
use Rattle.typed_ir.specs.Orders.{Each}
use Rattle.typed_ir.proofs.Lists.{each_append}
use Rattle.typed_ir.specs.declared.child_shape.ChildShape.{ChildShape}
use Rattle.typed_ir.specs.Items.{PlacedItem, Clocked, node_in, nodes_in}
use Rattle.typed_ir.specs.Trees.{UnitNode, Own, count}
use Rattle.typed_ir.proofs.Counted.{count_append, count_none}
use Rattle.verilog_ast.specs.Items as i
use Rattle.verilog_ast.specs.Items.{ModuleItem, ContinuousAssignment}
use Rattle.width_rules.specs.Scopes.{Scope}
use Rattle.gen_unroll.specs.Steps.{ModuleStep, Listed, Port, Parameter, Item, Labelled, Opened, Closed}
use Rattle.unit_build.specs.Instances.{instance_items}
use Rattle.unit_build.proofs.StandingConnections.{nodes_append}
use Rattle.statement_rules.specs.declared.value_kind.ValueKind.TheVariants as kind
use Rattle.statement_rules.specs.DeclaredValues.{DeclaredValue, kind_of_net, as_assignment, is_net_value, values_of, reg_values_of, port_values}
use Rattle.statement_rules.specs.SizedItems.{drive_item, initial_item, value_item, plain_items}
use Rattle.unit_build.specs.Walks.{instances_in, shapes_of, step_items}

-- what the nodes of both have, all have
pub each_items : (P : UnitNode → Type 0) (xs ys : List PlacedItem) → Each P (nodes_in xs) → Each P (nodes_in ys) → Each P (nodes_in (xs ++ ys))
each_items P xs ys h k =
    subst (λ (ns : List UnitNode). Each P ns) (sym (nodes_append xs ys)) (each_append P (nodes_in xs) (nodes_in ys) h k)

-- ---- nodes that aren't connections are the module's own

values_own : (P : UnitNode → Type 0) → ((n : FlatNode) → P (Own n)) → (scope : Scope) (xs : List DeclaredValue) → Each P (nodes_in (map (value_item scope) xs))
values_own P own scope [] = tt
values_own P own scope (x ∷ xs) = by_kind (is_net_value scope x) (values_own P own scope xs)
  where
    by_kind : (b : Bool) → Each P (nodes_in (map (value_item scope) xs))
        → Each P (node_in (cond b (drive_item scope (as_assignment x)) (initial_item scope x)).body ++ nodes_in (map (value_item scope) xs))
    by_kind true h = (own _, h)
    by_kind false h = h

drives_own : (P : UnitNode → Type 0) → ((n : FlatNode) → P (Own n)) → (scope : Scope) (xs : List ContinuousAssignment) → Each P (nodes_in (map (drive_item scope) xs))
drives_own P own scope [] = tt
drives_own P own scope (x ∷ xs) = (own _, drives_own P own scope xs)

plain_own : (P : UnitNode → Type 0) → ((n : FlatNode) → P (Own n)) → (scope : Scope) (x : ModuleItem) → Each P (nodes_in (plain_items scope x))
plain_own P own scope (i.Outputs at n k xs) = values_own P own scope (values_of (kind_of_net n) xs)
plain_own P own scope (i.Wires at k xs) = values_own P own scope (values_of kind.Net xs)
plain_own P own scope (i.Regs at k xs) = values_own P own scope (reg_values_of xs)
plain_own P own scope (i.Assigns at xs) = drives_own P own scope xs
plain_own P own scope (i.Combinational at body) = (own _, tt)
plain_own P own scope (i.Clocked at n body) = tt
plain_own P own scope other = tt

-- ---- those of a step

abbrev pub connected_items : Scope → (child : ℕ) → (left : List ChildShape) → ModuleStep → List PlacedItem
connected_items scope child left (Item x) = instance_items scope child (shapes_of left x) (instances_in x)
connected_items scope child left other = []

pub step_each : (P : UnitNode → Type 0) → ((n : FlatNode) → P (Own n)) → (scope : Scope) (child : ℕ) (left : List ChildShape) (s : ModuleStep)
    → Each P (nodes_in (connected_items scope child left s)) → Each P (nodes_in (step_items scope child left s))
step_each P own scope child left (Port p) h = values_own P own scope (port_values p)
step_each P own scope child left (Item x) h =
    each_items P (plain_items scope x) (instance_items scope child (shapes_of left x) (instances_in x)) (plain_own P own scope x) h
step_each P own scope child left other h = tt

none_counted : (f : UnitNode → Bool) (ns : List UnitNode) → Each (λ n. f n ≡ false) ns → count f ns ≡ 0
none_counted f ns h = count_none (λ n. f n ≡ false) f ns h (λ n a b. true≢false (sym b ∙ a))

count_items : (f : UnitNode → Bool) (xs ys : List PlacedItem) → count f (nodes_in (xs ++ ys)) ≡ count f (nodes_in xs) + count f (nodes_in ys)
count_items f xs ys = ap (λ (ns : List UnitNode). count f ns) (nodes_append xs ys) ∙ count_append f (nodes_in xs) (nodes_in ys)

-- of what no own node counts for, connections alone count
step_count : (f : UnitNode → Bool) → ((n : FlatNode) → f (Own n) ≡ false) → (scope : Scope) (child : ℕ) (left : List ChildShape) (s : ModuleStep)
    → count f (nodes_in (step_items scope child left s)) ≡ count f (nodes_in (connected_items scope child left s))
step_count f own scope child left (Listed n) = refl
step_count f own scope child left (Port p) =
    none_counted f (nodes_in (map (value_item scope) (port_values p))) (values_own (λ n. f n ≡ false) own scope (port_values p))
step_count f own scope child left (Parameter s n v) = refl
step_count f own scope child left (Item x) =
    let connected = instance_items scope child (shapes_of left x) (instances_in x) in
    let none = none_counted f (nodes_in (plain_items scope x)) (plain_own (λ n. f n ≡ false) own scope x) in
    omega (arith, count_items f (plain_items scope x) connected, none)
step_count f own scope child left (Labelled n) = refl
step_count f own scope child left (Opened b items) = refl
step_count f own scope child left Closed = refl

-- one step and all behind it
pub walk_count : (f : UnitNode → Bool) → ((n : FlatNode) → f (Own n) ≡ false) → (scope : Scope) (child : ℕ) (left : List ChildShape) (s : ModuleStep) (after : List PlacedItem)
    → count f (nodes_in (step_items scope child left s ++ after)) ≡ count f (nodes_in (connected_items scope child left s)) + count f (nodes_in after)
walk_count f own scope child left s after =
    count_items f (step_items scope child left s) after ∙ ap (λ n. n + count f (nodes_in after)) (step_count f own scope child left s)
