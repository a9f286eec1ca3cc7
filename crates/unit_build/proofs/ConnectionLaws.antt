-- What the connections of a module keep, all along its steps: of which instances they are, into which of their ports they go, that no bit
-- of a port has two, and that their widths agree.
use Rattle.std.proofs.Common.{◌≡◌, ◌≤◌, ◌<◌, ℕ, ◌+◌, ◌⊎◌, inl, inr, true, List, [], ◌∷◌, ◌++◌, length, refl, ◌∙◌, ap, subst, arith}
use Rattle.std.proofs.lemmas.Bool.{cases_lt}
use Rattle.typed_ir.specs.Nodes.{FlatNode}
use Rattle.typed_ir.specs.Orders.{Each}
use Rattle.typed_ir.specs.declared.child_shape.ChildShape.{ChildShape}
use Rattle.typed_ir.specs.Items.{nodes_in}
use Rattle.typed_ir.specs.OwnWidths.{names_child, child_widths}
use Rattle.typed_ir.specs.Shapes.{goes_into_input}
use Rattle.typed_ir.specs.Trees.{UnitNode, Own, count, port_drives, is_legal_unit_node}
use Rattle.verilog_ast.specs.Items.{ModuleItem}
use Rattle.width_rules.specs.declared.writer.Writer.{Writer}
use Rattle.width_rules.specs.Scopes.{Scope}
use Rattle.gen_unroll.specs.Steps.{ModuleStep, Item}
use Rattle.gen_unroll.specs.Signals.{NamedSignal}
use Rattle.statement_rules.specs.Fitting.{FitsScope}
use Rattle.unit_build.specs.Instances.{instance_items, item_faults}
use Rattle.unit_build.proofs.StandingConnections.{once, none_before, none_behind, children_so, into_among}
use Rattle.unit_build.specs.Walks.{Walk, instances_in, shapes_of, shapes_behind, step_items, passed, behind, walk_items}
use Rattle.unit_build.proofs.ConnectedItems.{connected_items, each_items, step_each, walk_count}
use Rattle.unit_build.proofs.ConnectedNumbers.{IsWalkOver, goes_over, item_shapes, item_within}
use Rattle.unit_build.proofs.ConnectedNodes.{instances_legal}
use Rattle.unit_build.proofs.ConnectedTexts.{AreInstancesWritten}

-- ---- what holds of own nodes, and of the connections of each item wherever the walk stands

item_each : (P : UnitNode → Type 0) (all : List ChildShape)
    → ((k : Walk) (x : ModuleItem) → IsWalkOver all k → Each P (nodes_in (instance_items k.here.scope k.child (shapes_of k.left x) (instances_in x))))
    → (k : Walk) (s : ModuleStep) → IsWalkOver all k → Each P (nodes_in (connected_items k.here.scope k.child k.left s))
item_each P all connected k (Item x) is = connected k x is
item_each P all connected k other is = tt

walk_each : (P : UnitNode → Type 0) → ((n : FlatNode) → P (Own n)) → (all : List ChildShape)
    → ((k : Walk) (x : ModuleItem) → IsWalkOver all k → Each P (nodes_in (instance_items k.here.scope k.child (shapes_of k.left x) (instances_in x))))
    → (w : ℕ → Writer) (xs : List NamedSignal) (k : Walk) (steps : List ModuleStep) → IsWalkOver all k → Each P (nodes_in (walk_items w xs k steps))
walk_each P own all connected w xs k [] is = tt
walk_each P own all connected w xs k (s ∷ ss) is =
    each_items P (step_items k.here.scope k.child k.left s) (walk_items w xs (behind w xs s k) ss)
    (step_each P own k.here.scope k.child k.left s (item_each P all connected k s is))
    (walk_each P own all connected w xs (behind w xs s k) ss (goes_over w xs all s k is))

-- ---- of these instances

pub walk_children : (all : List ChildShape) (w : ℕ → Writer) (xs : List NamedSignal) (k : Walk) (steps : List ModuleStep) → IsWalkOver all k
    → Each (λ n. names_child (length all) n ≡ true) (nodes_in (walk_items w xs k steps))
walk_children all =
    walk_each (λ n. names_child (length all) n ≡ true) (λ n. refl) all
    (λ k x is. children_so (length all) k.child k.here.scope (shapes_of k.left x) (instances_in x) (item_within all k x is))

-- ---- into data inputs

into_one : (all : List ChildShape) (k : Walk) (x : ModuleItem) → IsWalkOver all k
    → Each (λ n. goes_into_input all n ≡ true) (nodes_in (instance_items k.here.scope k.child (shapes_of k.left x) (instances_in x)))
into_one all k x is =
    subst (λ (shapes : List ChildShape). Each (λ n. goes_into_input shapes n ≡ true) (nodes_in (instance_items k.here.scope k.child (shapes_of k.left x) (instances_in x))))
    (ap (λ (l : List ChildShape). is.before ++ l) (item_shapes k.left x) ∙ is.all_are)
    (into_among is.before (shapes_behind k.left x) k.child k.here.scope (shapes_of k.left x) (instances_in x) is.many)

pub walk_into : (all : List ChildShape) (w : ℕ → Writer) (xs : List NamedSignal) (k : Walk) (steps : List ModuleStep) → IsWalkOver all k
    → Each (λ n. goes_into_input all n ≡ true) (nodes_in (walk_items w xs k steps))
walk_into all = walk_each (λ n. goes_into_input all n ≡ true) (λ n. refl) all (into_one all)

-- ---- at most one to each bit of a port

step_once : (c s i : ℕ) (scope : Scope) (child : ℕ) (left : List ChildShape) (st : ModuleStep) → count (port_drives c s i) (nodes_in (connected_items scope child left st)) ≤ 1
step_once c s i scope child left (Item x) = once c s i child scope (shapes_of left x) (instances_in x)
step_once c s i scope child left other = omega arith

step_before : (c s i : ℕ) (scope : Scope) (child : ℕ) (left : List ChildShape) (st : ModuleStep) → c < child
    → count (port_drives c s i) (nodes_in (connected_items scope child left st)) ≡ 0
step_before c s i scope child left (Item x) h = none_before c s i child scope (shapes_of left x) (instances_in x) h
step_before c s i scope child left other h = refl

step_behind : (c s i : ℕ) (scope : Scope) (child : ℕ) (left : List ChildShape) (st : ModuleStep) → child + length (passed left st) ≤ c
    → count (port_drives c s i) (nodes_in (connected_items scope child left st)) ≡ 0
step_behind c s i scope child left (Item x) h = none_behind c s i child scope (shapes_of left x) (instances_in x) h
step_behind c s i scope child left other h = refl

-- no connection of what comes is to an instance that was passed
walk_before : (c s i : ℕ) (w : ℕ → Writer) (xs : List NamedSignal) (k : Walk) (steps : List ModuleStep) → c < k.child
    → count (port_drives c s i) (nodes_in (walk_items w xs k steps)) ≡ 0
walk_before c s i w xs k [] h = refl
walk_before c s i w xs k (st ∷ ss) h =
    omega (
      arith,
      walk_count (port_drives c s i) (λ n. refl) k.here.scope k.child k.left st (walk_items w xs (behind w xs st k) ss),
      step_before c s i k.here.scope k.child k.left st h,
      walk_before c s i w xs (behind w xs st k) ss (omega (arith, h)),
    )

pub walk_ports : (w : ℕ → Writer) (xs : List NamedSignal) (k : Walk) (steps : List ModuleStep) (c s i : ℕ) → count (port_drives c s i) (nodes_in (walk_items w xs k steps)) ≤ 1
walk_ports w xs k [] c s i = omega arith
walk_ports w xs k (st ∷ ss) c s i = by_place (cases_lt c (k.child + length (passed k.left st))) (walk_ports w xs (behind w xs st k) ss c s i)
  where
    sum : count (port_drives c s i) (nodes_in (walk_items w xs k (st ∷ ss)))
        ≡ count (port_drives c s i) (nodes_in (connected_items k.here.scope k.child k.left st)) + count (port_drives c s i) (nodes_in (walk_items w xs (behind w xs st k) ss))
    sum = walk_count (port_drives c s i) (λ n. refl) k.here.scope k.child k.left st (walk_items w xs (behind w xs st k) ss)

    by_place : (c < k.child + length (passed k.left st)) ⊎ (k.child + length (passed k.left st) ≤ c)
        → count (port_drives c s i) (nodes_in (walk_items w xs (behind w xs st k) ss)) ≤ 1 → count (port_drives c s i) (nodes_in (walk_items w xs k (st ∷ ss))) ≤ 1
    by_place (inl h) few =
        omega (arith, sum, step_once c s i k.here.scope k.child k.left st, walk_before c s i w xs (behind w xs st k) ss h)
    by_place (inr h) few = omega (arith, sum, step_behind c s i k.here.scope k.child k.left st h, few)

-- ---- and their widths

-- of an item without a fault they agree with those of the signals in reach and of the ports
pub connections_legal : (scope : Scope) (widths : List ℕ) (all : List ChildShape) (k : Walk) (x : ModuleItem) → IsWalkOver all k → FitsScope scope widths
    → AreInstancesWritten (instances_in x) → item_faults scope (shapes_of k.left x) (instances_in x) ≡ []
    → Each (λ n. is_legal_unit_node widths (child_widths all) n ≡ true) (nodes_in (instance_items scope k.child (shapes_of k.left x) (instances_in x)))
connections_legal scope widths all k x is ok written none =
    subst (λ (shapes : List ChildShape). Each (λ n. is_legal_unit_node widths (child_widths shapes) n ≡ true) (nodes_in (instance_items scope k.child (shapes_of k.left x) (instances_in x))))
    (ap (λ (l : List ChildShape). is.before ++ l) (item_shapes k.left x) ∙ is.all_are)
    (instances_legal scope widths is.before (shapes_of k.left x) (shapes_behind k.left x) k.child (instances_in x) ok is.many written none)
