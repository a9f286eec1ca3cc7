-- The connections of a module name ports of its instances alone.
use Rattle.std.proofs.Common.{◌≡◌, ℕ, zero, suc, ◌+◌, ◌<◌, ◌≤◌, Bool, true, false, cond, List, [], ◌∷◌, ◌++◌, length, map, append_assoc, refl, ◌∙◌, ap, subst, arith}
use Rattle.std.specs.Prelude.{Option, Some, None}
use Rattle.std.proofs.lemmas.List.{length-append}
use Rattle.typed_ir.specs.Orders.{Each, at_or}
use Rattle.typed_ir.specs.Sized.{Name, Resized}
use Rattle.typed_ir.specs.declared.child_shape.ChildShape.{ChildShape}
use Rattle.typed_ir.specs.declared.port_shape.PortShape.{PortShape}
use Rattle.typed_ir.specs.Items.{nodes_in}
use Rattle.typed_ir.specs.Shifts.{shifted, shifted_lane}
use Rattle.typed_ir.specs.Trees.{UnitNode, Own, Into, From}
use Rattle.verilog_ast.specs.Items.{ModuleInstance}
use Rattle.width_rules.specs.declared.writer.Writer.{Writer}
use Rattle.width_rules.specs.Scopes.{Scope}
use Rattle.statement_rules.specs.Renumbering.{numbered_as, lane_as}
use Rattle.gen_unroll.specs.Steps.{ModuleStep, Item}
use Rattle.gen_unroll.specs.Signals.{NamedSignal}
use Rattle.unit_build.specs.Connections.{Connected, connected_to}
use Rattle.unit_build.specs.ConnectionNodes.{input_node, output_node, connection_node, driven_by}
use Rattle.unit_build.specs.Instances.{first_to, item_if, port_items, instance_items}
use Rattle.unit_build.proofs.StandingConnections.{first_port}
use Rattle.unit_build.specs.Walks.{Walk, instances_in, shapes_of, shapes_behind, step_items, behind, walk_items}
use Rattle.unit_build.proofs.ConnectedItems.{connected_items, each_items, step_each}
use Rattle.unit_build.proofs.ConnectedNumbers.{IsWalkOver, goes_over, item_shapes}
use Rattle.version_swap.proofs.Below.{Agree}
use Rattle.version_swap.proofs.ShiftedForms.{behind_first}

-- how many ports the c-th of these has
abbrev pub ports_of : List ChildShape → ℕ → ℕ
ports_of children c = at_or (λ (child : ChildShape). length child.ports) 0 children c

-- what is by the numbers of an instance is the same wherever two numberings agree on its ports
abbrev pub NamesPorts : List ChildShape → UnitNode → Type 0
NamesPorts children (Own node) = Unit {0}
NamesPorts children (Into c form lanes e) =
    (g : ℕ → ℕ) (first : ℕ) → Agree (ports_of children c) g (behind_first first) → map (lane_as g) lanes ≡ map (shifted_lane first) lanes
NamesPorts children (From c form lanes e) =
    (g : ℕ → ℕ) (first : ℕ) → Agree (ports_of children c) g (behind_first first) → numbered_as g e ≡ shifted first e

-- ---- one connection

node_ports : (all : List ChildShape) (scope : Scope) (child : ℕ) (x : Connected) → x.port < ports_of all child
    → NamesPorts all (connection_node scope child x)
node_ports all scope child x h = by_input x.shape.input
  where
    value_so : (g : ℕ → ℕ) (first n : ℕ) (b : Bool) → g x.port ≡ first + x.port
        → numbered_as g (cond b (Name x.port x.shape.width) (Resized (Name x.port x.shape.width) n x.shape.signed))
        ≡ shifted first (cond b (Name x.port x.shape.width) (Resized (Name x.port x.shape.width) n x.shape.signed))
    value_so g first n true same = ap (λ s. Name s x.shape.width) same
    value_so g first n false same = ap (λ s. Resized (Name s x.shape.width) n x.shape.signed) same

    by_input : (b : Bool) → NamesPorts all (cond b (input_node scope child x) (output_node scope child x (driven_by x)))
    by_input true = λ g first same. ap (λ s. record { shift = 0; span = record { signal = s; low = 0; width = x.shape.width } } ∷ []) (same x.port h)
    by_input false = λ g first same. value_so g first _ _ (same x.port h)

-- ---- the connections of an instance, port by port

items_ports : (all : List ChildShape) (scope : Scope) (child : ℕ) (cs : List Connected) (k : ℕ) (ps : List PortShape)
    → k + length ps ≤ ports_of all child
    → Each (NamesPorts all) (nodes_in (port_items scope child cs k ps))
items_ports all scope child cs k [] h = tt
items_ports all scope child cs k (p ∷ ps) h = by (first_to k cs) refl (items_ports all scope child cs (suc k) ps (omega (arith, h)))
  where
    by : (o : Option Connected) → first_to k cs ≡ o → Each (NamesPorts all) (nodes_in (port_items scope child cs (suc k) ps))
        → Each (NamesPorts all) (nodes_in (item_if scope child o ++ port_items scope child cs (suc k) ps))
    by None is rest = rest
    by (Some c) is rest = (node_ports all scope child c (let same = first_port k cs c is in omega (arith, same, h)), rest)

-- ---- instances, of which the first has as its number how many shapes stand before its own

ports_there : (before : List ChildShape) (s : ChildShape) (after : List ChildShape) (c : ℕ) → length before ≡ c
    → ports_of (before ++ s ∷ after) c ≡ length s.ports
ports_there [] s after zero h = refl
ports_there [] s after (suc c) h = absurd (omega (arith, h))
ports_there (b ∷ before) s after zero h = absurd (omega (arith, h))
ports_there (b ∷ before) s after (suc c) h = ports_there before s after c (omega (arith, h))

instances_ports : (before ss after : List ChildShape) (scope : Scope) (child : ℕ) (xs : List ModuleInstance) → length before ≡ child
    → Each (NamesPorts (before ++ (ss ++ after))) (nodes_in (instance_items scope child ss xs))
instances_ports before [] after scope child xs many = tt
instances_ports before (s ∷ ss) after scope child [] many = tt
instances_ports before (s ∷ ss) after scope child (x ∷ xs) many =
    let all = before ++ (s ∷ ss ++ after) in
    let here = ports_there before s (ss ++ after) child many in
    let longer : length (before ++ s ∷ []) ≡ suc child = (let more = length-append before (s ∷ []) in omega (arith, more, many)) in
    each_items (NamesPorts all) (port_items scope child (connected_to s x.connections) 0 s.ports) (instance_items scope (suc child) ss xs)
    (items_ports all scope child (connected_to s x.connections) 0 s.ports (omega (arith, here)))
    (subst (λ (shapes : List ChildShape). Each (NamesPorts shapes) (nodes_in (instance_items scope (suc child) ss xs)))
    (append_assoc before (s ∷ []) (ss ++ after))
    (instances_ports (before ++ s ∷ []) ss after scope (suc child) xs longer))

-- ---- all nodes of a walk

step_ports : (all : List ChildShape) (k : Walk) (s : ModuleStep) → IsWalkOver all k
    → Each (NamesPorts all) (nodes_in (connected_items k.here.scope k.child k.left s))
step_ports all k (Item x) is =
    let items = instance_items k.here.scope k.child (shapes_of k.left x) (instances_in x) in
    subst (λ (shapes : List ChildShape). Each (NamesPorts shapes) (nodes_in items))
    (ap (λ (l : List ChildShape). is.before ++ l) (item_shapes k.left x) ∙ is.all_are)
    (instances_ports is.before (shapes_of k.left x) (shapes_behind k.left x) k.here.scope k.child (instances_in x) is.many)
step_ports all k other is = tt

pub walk_ports : (all : List ChildShape) (w : ℕ → Writer) (xs : List NamedSignal) (k : Walk) (steps : List ModuleStep) → IsWalkOver all k
    → Each (NamesPorts all) (nodes_in (walk_items w xs k steps))
walk_ports all w xs k [] is = tt
walk_ports all w xs k (s ∷ ss) is =
    each_items (NamesPorts all) (step_items k.here.scope k.child k.left s) (walk_items w xs (behind w xs s k) ss)
    (step_each (NamesPorts all) (λ n. tt) k.here.scope k.child k.left s (step_ports all k s is))
    (walk_ports all w xs (behind w xs s k) ss (goes_over w xs all s k is))
