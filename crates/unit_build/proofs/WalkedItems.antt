-- The items of a walk without a fault have widths that agree.
use Rattle.std.proofs.Common.{◌≡◌, ℕ, suc, true, List, [], ◌∷◌, ◌++◌, map}
use Rattle.std.specs.Prelude.{⊤, Option, Some, None}
use Rattle.typed_ir.specs.Orders.{Each}
use Rattle.typed_ir.proofs.Lists.{each_append}
use Rattle.typed_ir.specs.declared.child_shape.ChildShape.{ChildShape}
use Rattle.typed_ir.specs.declared.port_shape.PortShape.{PortShape}
use Rattle.typed_ir.specs.Items.{SizedBody, Node, Clocked, Initial, PlacedItem, node_in, nodes_in}
use Rattle.typed_ir.specs.OwnWidths.{child_widths}
use Rattle.typed_ir.specs.Trees.{UnitNode, is_legal_unit_node}
use Rattle.verilog_ast.specs.Items.{ModuleInstance}
use Rattle.width_rules.specs.declared.writer.Writer.{Writer}
use Rattle.width_rules.specs.Scopes.{Scope}
use Rattle.width_rules.proofs.Reading.{left_none, right_none}
use Rattle.statement_rules.specs.Fitting.{FitsScope}
use Rattle.gen_unroll.specs.declared.step.Step.{Step}
use Rattle.gen_unroll.specs.Steps.{ModuleStep, Listed, Port, Parameter, Item, Labelled, Opened, Closed}
use Rattle.gen_unroll.specs.Views.{step_of}
use Rattle.gen_unroll.specs.declared.signal_table.ModuleSignals.{ModuleSignals}
use Rattle.gen_unroll.specs.ModuleViews.{signals_in}
use Rattle.gen_unroll.specs.Sound.{widths_of}
use Rattle.unit_build.specs.Connections.{Connected, connected_to}
use Rattle.unit_build.specs.Instances.{item_faults, first_to, item_if, port_items, child_items, instance_items}
use Rattle.statement_rules.specs.DeclaredValues.{port_values}
use Rattle.statement_rules.specs.SizedItems.{plain_items, plain_faults}
use Rattle.unit_build.specs.Walks.{Walk, instances_in, shapes_of, step_faults, step_items, behind, walk_faults, walk_items}
use Rattle.unit_build.proofs.ConnectedNumbers.{IsWalkOver, goes_over}
use Rattle.unit_build.proofs.ConnectedTexts.{HasWrittenInstances, step_written as instances_are_written}
use Rattle.unit_build.proofs.ConnectionLaws.{connections_legal}
use Rattle.unit_build.proofs.Fits.{FitsReach, step_fits, followed}
use Rattle.unit_build.proofs.ItemLaws.{IsStepWritten, step_written, IsLegalBody, IsLegalItem, AreLegalItems, values_legal, plain_legal}

-- ---- items of connections are nodes

abbrev IsNodeBody : SizedBody → Type 0
IsNodeBody (Node node) = ⊤
IsNodeBody (Clocked st) = ⊥
IsNodeBody (Initial s) = ⊥

abbrev AreNodes : List PlacedItem → Type 0
AreNodes xs = Each (λ (x : PlacedItem). IsNodeBody x.body) xs

ports_nodes : (scope : Scope) (child : ℕ) (cs : List Connected) (k : ℕ) (ps : List PortShape) → AreNodes (port_items scope child cs k ps)
ports_nodes scope child cs k [] = tt
ports_nodes scope child cs k (p ∷ ps) = by (first_to k cs) (ports_nodes scope child cs (suc k) ps)
  where
    by : (c : Option Connected) → AreNodes (port_items scope child cs (suc k) ps) → AreNodes (item_if scope child c ++ port_items scope child cs (suc k) ps)
    by None rest = rest
    by (Some c) rest = (tt, rest)

instances_nodes : (scope : Scope) (first : ℕ) (ss : List ChildShape) (xs : List ModuleInstance) → AreNodes (instance_items scope first ss xs)
instances_nodes scope first [] xs = tt
instances_nodes scope first (s ∷ ss) [] = tt
instances_nodes scope first (s ∷ ss) (x ∷ xs) =
    each_append (λ (y : PlacedItem). IsNodeBody y.body) (child_items scope first s x) (instance_items scope (suc first) ss xs)
    (ports_nodes scope first (connected_to s x.connections) 0 s.ports) (instances_nodes scope (suc first) ss xs)

nodes_enough : (widths : List ℕ) (kids : ℕ → List ℕ) (xs : List PlacedItem) → AreNodes xs → Each (λ (n : UnitNode). is_legal_unit_node widths kids n ≡ true) (nodes_in xs)
    → AreLegalItems widths kids xs
nodes_enough widths kids [] are h = tt
nodes_enough widths kids (x ∷ xs) are h = by x.body are.0 (nodes_enough widths kids xs are.1) h
  where
    by : (b : SizedBody) → IsNodeBody b → (Each (λ (n : UnitNode). is_legal_unit_node widths kids n ≡ true) (nodes_in xs) → AreLegalItems widths kids xs)
        → Each (λ (n : UnitNode). is_legal_unit_node widths kids n ≡ true) (node_in b ++ nodes_in xs) → IsLegalBody widths kids b × AreLegalItems widths kids xs
    by (Node node) one rest all = (all.0, rest all.1)
    by (Clocked st) one rest all = absurd one
    by (Initial s) one rest all = absurd one

-- ---- a step without a fault

step_legal : (scope : Scope) (widths : List ℕ) (all : List ChildShape) (k : Walk) (s : ModuleStep) → IsWalkOver all k → FitsScope scope widths → IsStepWritten s
    → HasWrittenInstances s → step_faults scope k.left s ≡ [] → AreLegalItems widths (child_widths all) (step_items scope k.child k.left s)
step_legal scope widths all k (Listed n) over ok w v none = tt
step_legal scope widths all k (Port p) over ok w v none = values_legal scope widths (child_widths all) (port_values p) ok w none
step_legal scope widths all k (Parameter s n value) over ok w v none = tt
step_legal scope widths all k (Item x) over ok w v none =
    let plain = plain_faults scope x in
    let others = item_faults scope (shapes_of k.left x) (instances_in x) in
    let items = instance_items scope k.child (shapes_of k.left x) (instances_in x) in
    each_append (IsLegalItem widths (child_widths all)) (plain_items scope x) items
    (plain_legal scope widths (child_widths all) x ok w (left_none plain others none))
    (nodes_enough widths (child_widths all) items (instances_nodes scope k.child (shapes_of k.left x) (instances_in x))
    (connections_legal scope widths all k x over ok v (right_none plain others none)))
step_legal scope widths all k (Labelled n) over ok w v none = tt
step_legal scope widths all k (Opened b items) over ok w v none = tt
step_legal scope widths all k Closed over ok w v none = tt

-- ---- all steps of the code

pub walk_legal : (m : ModuleSignals) (w : ℕ → Writer) (all : List ChildShape) (steps : List Step) (k : Walk) → IsWalkOver all k
    → FitsReach k.here (widths_of (signals_in m)) → walk_faults w (signals_in m) k (map step_of steps) ≡ []
    → AreLegalItems (widths_of (signals_in m)) (child_widths all) (walk_items w (signals_in m) k (map step_of steps))
walk_legal m w all [] k over ok none = tt
walk_legal m w all (s ∷ ss) k over ok none =
    let widths = widths_of (signals_in m) in
    let after = behind w (signals_in m) (step_of s) k in
    let first = step_faults k.here.scope k.left (step_of s) in
    let rest = walk_faults w (signals_in m) after (map step_of ss) in
    each_append (IsLegalItem widths (child_widths all)) (step_items k.here.scope k.child k.left (step_of s)) (walk_items w (signals_in m) after (map step_of ss))
    (step_legal k.here.scope widths all k (step_of s) over ok.here (step_written s) (instances_are_written s) (left_none first rest none))
    (walk_legal m w all ss after (goes_over w (signals_in m) all (step_of s) k over) (followed m w (step_of s) k.here (step_fits s) ok) (right_none first rest none))
