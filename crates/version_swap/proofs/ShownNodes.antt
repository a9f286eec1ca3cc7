-- Each node of the flat design of built units is named by a target of its own.
use Rattle.std.proofs.Common.{◌≡◌, ◌<◌, ℕ, suc, ◌+◌, Bool, true, false, if◌then◌else◌, List, [], ◌∷◌, ◌++◌, length, map, Option, Some, None, slice_index, sym, ◌∙◌, ap, subst, true≢false, arith}
use Rattle.std.proofs.lemmas.List.{length-map}
use Rattle.typed_ir.specs.declared.span.Span.{Span}
use Rattle.typed_ir.specs.Cycles.{Flat}
use Rattle.typed_ir.specs.Nodes.{FlatNode, Drive, Block}
use Rattle.typed_ir.specs.Orders.{Each}
use Rattle.typed_ir.specs.Stmts.{SizedStmt, targets}
use Rattle.typed_ir.specs.Valuations.{any_within}
use Rattle.typed_ir.proofs.Lists.{each_append}
use Rattle.typed_ir.specs.declared.child_shape.ChildShape.{ChildShape}
use Rattle.typed_ir.specs.declared.port_shape.PortShape.{PortShape}
use Rattle.typed_ir.specs.Items.{SizedBody, Node, Clocked, Initial, PlacedItem, node_in, nodes_in}
use Rattle.typed_ir.specs.Shifts.{shifted_span, shifted_stmt, shifted_node}
use Rattle.typed_ir.specs.Trees as t
use Rattle.typed_ir.specs.Trees.{UnitNode, Own, Into, From, SizedUnit, Instances, firsts, signals_in, copied_out, node_there, nodes_at, flat_of_tree}
use Rattle.typed_ir.proofs.Pulled.{targets_shifted}
use Rattle.verilog_ast.specs.Items as i
use Rattle.verilog_ast.specs.Items.{ContinuousAssignment, ModuleItem, ModuleInstance}
use Rattle.width_rules.specs.declared.writer.Writer.{Writer}
use Rattle.width_rules.specs.Scopes.{Scope}
use Rattle.width_rules.proofs.Reading.{left_none, right_none}
use Rattle.gen_unroll.specs.Steps.{ModuleStep, Listed, Port, Parameter, Item, Labelled, Opened, Closed}
use Rattle.mention_laws.proofs.ShownTargets.{is_own}
use Rattle.unit_build.specs.Connections.{Connected, connected_to}
use Rattle.unit_build.specs.ConnectionNodes.{input_node, output_node, driven_by, connection_node}
use Rattle.unit_build.specs.Instances.{item_faults, first_to, item_if, port_items, child_items, instance_items}
use Rattle.statement_rules.specs.DeclaredValues.{DeclaredValue, kind_of_net, values_of, reg_values_of, port_values, as_assignment, is_net_value}
use Rattle.statement_rules.specs.declared.value_kind.ValueKind.TheVariants as kind
use Rattle.statement_rules.specs.SizedItems.{drive_item, initial_item, value_item, plain_items, plain_faults}
use Rattle.gen_unroll.specs.Signals.{NamedSignal}
use Rattle.unit_build.specs.Walks.{instances_in, shapes_of, step_faults, step_items, Walk, behind, walk_faults, walk_items}
use Rattle.unit_build.proofs.ItemLaws.{IsItemWritten}
use Rattle.link.specs.Names.{IsShown}
use Rattle.version_swap.specs.BuiltCopies.{IsBuilt, AreBuilt}
use Rattle.version_swap.specs.Copies.{ModuleCopy, Copies, Nothing, One}
use Rattle.version_swap.specs.Flat.{writers_in, beginning_of, own_items, flat}
use Rattle.version_swap.proofs.BuiltUnits.{job_written, built_unit, built_is_flat}
use Rattle.version_swap.proofs.WrittenSteps.{IsItemPlaced, AreWritten}

-- ---- a node of a unit, and what it is where its unit stands

-- a block tells one of its own targets, where it has any
abbrev IsOwn : FlatNode → Type 0
IsOwn (Drive form lanes e) = Unit {0}
IsOwn (Block shown body) = 0 < length (targets body) → shown.number < length (targets body)

abbrev IsOwnNode : UnitNode → Type 0
IsOwnNode (Own node) = IsOwn node
IsOwnNode (Into c form lanes e) = Unit {0}
IsOwnNode (From c form lanes e) = Unit {0}

some_span : (ps : List Span) (s i : ℕ) → any_within ps s i ≡ true → 0 < length ps
some_span [] s i h = absurd (true≢false (sym h))
some_span (p ∷ ps) s i h = omega arith

as_many : (first : ℕ) (st : SizedStmt) → length (targets (shifted_stmt first st)) ≡ length (targets st)
as_many first st = ap length (targets_shifted first st) ∙ length-map (targets st) (shifted_span first)

own_shifted : (first : ℕ) (n : FlatNode) → IsOwn n → IsShown (shifted_node first n)
own_shifted first (Drive form lanes e) own = tt
own_shifted first (Block shown body) own = λ s i h.
    let some : 0 < length (targets body) = subst (λ n. 0 < n) (as_many first body) (some_span (targets (shifted_stmt first body)) s i h) in
    subst (λ n. shown.number < n) (sym (as_many first body)) (own some)

node_shown : (first : ℕ) (kid : ℕ → ℕ) (n : UnitNode) → IsOwnNode n → IsShown (node_there first kid n)
node_shown first kid (Own node) own = own_shifted first node own
node_shown first kid (Into c form lanes e) own = tt
node_shown first kid (From c form lanes e) own = tt

nodes_shown : (first : ℕ) (kid : ℕ → ℕ) (ns : List UnitNode) → Each IsOwnNode ns → Each IsShown (map (node_there first kid) ns)
nodes_shown first kid [] own = tt
nodes_shown first kid (n ∷ ns) own = (node_shown first kid n own.0, nodes_shown first kid ns own.1)

-- ---- items

abbrev IsOwnBody : SizedBody → Type 0
IsOwnBody (Node n) = IsOwnNode n
IsOwnBody (Clocked st) = Unit {0}
IsOwnBody (Initial s) = Unit {0}

abbrev AreOwn : List PlacedItem → Type 0
AreOwn xs = Each (λ (x : PlacedItem). IsOwnBody x.body) xs

both_own : (xs ys : List PlacedItem) → AreOwn xs → AreOwn ys → AreOwn (xs ++ ys)
both_own xs ys = each_append (λ (x : PlacedItem). IsOwnBody x.body) xs ys

nodes_own : (xs : List PlacedItem) → AreOwn xs → Each IsOwnNode (nodes_in xs)
nodes_own [] own = tt
nodes_own (x ∷ xs) own = by x.body own.0 (nodes_own xs own.1)
  where
    by : (b : SizedBody) → IsOwnBody b → Each IsOwnNode (nodes_in xs) → Each IsOwnNode (node_in b ++ nodes_in xs)
    by (Node n) first rest = (first, rest)
    by (Clocked st) first rest = rest
    by (Initial s) first rest = rest

-- ---- items without instances

value_own : (scope : Scope) (x : DeclaredValue) → IsOwnBody (value_item scope x).body
value_own scope x = by (is_net_value scope x)
  where
    by : (b : Bool) → IsOwnBody (if b then drive_item scope (as_assignment x) else initial_item scope x).body
    by true = tt
    by false = tt

values_own : (scope : Scope) (xs : List DeclaredValue) → AreOwn (map (value_item scope) xs)
values_own scope [] = tt
values_own scope (x ∷ xs) = (value_own scope x, values_own scope xs)

drives_own : (scope : Scope) (xs : List ContinuousAssignment) → AreOwn (map (drive_item scope) xs)
drives_own scope [] = tt
drives_own scope (x ∷ xs) = (tt, drives_own scope xs)

plain_own : (scope : Scope) (x : ModuleItem) → IsItemWritten x → IsItemPlaced x → plain_faults scope x ≡ [] → AreOwn (plain_items scope x)
plain_own scope (i.Outputs at n k xs) w p none = values_own scope (values_of (kind_of_net n) xs)
plain_own scope (i.Wires at k xs) w p none = values_own scope (values_of kind.Net xs)
plain_own scope (i.Regs at k xs) w p none = values_own scope (reg_values_of xs)
plain_own scope (i.Assigns at xs) w p none = drives_own scope xs
plain_own scope (i.Combinational at body) w p none = (is_own scope body p w none, tt)
plain_own scope (i.Clocked at n body) w p none = (tt, tt)
plain_own scope other w p none = tt

-- ---- instances: their connections are assignments

connection_own : (scope : Scope) (child : ℕ) (c : Connected) → IsOwnNode (connection_node scope child c)
connection_own scope child c = by c.shape.input
  where
    by : (b : Bool) → IsOwnNode (if b then input_node scope child c else output_node scope child c (driven_by c))
    by true = tt
    by false = tt

port_own : (scope : Scope) (child : ℕ) (o : Option Connected) → AreOwn (item_if scope child o)
port_own scope child None = tt
port_own scope child (Some c) = (connection_own scope child c, tt)

ports_own : (scope : Scope) (child : ℕ) (cs : List Connected) (k : ℕ) (ps : List PortShape) → AreOwn (port_items scope child cs k ps)
ports_own scope child cs k [] = tt
ports_own scope child cs k (p ∷ ps) =
    both_own (item_if scope child (first_to k cs)) (port_items scope child cs (suc k) ps) (port_own scope child (first_to k cs))
    (ports_own scope child cs (suc k) ps)

instances_own : (scope : Scope) (first : ℕ) (ss : List ChildShape) (xs : List ModuleInstance) → AreOwn (instance_items scope first ss xs)
instances_own scope first [] xs = tt
instances_own scope first (s ∷ ss) [] = tt
instances_own scope first (s ∷ ss) (x ∷ xs) =
    both_own (child_items scope first s x) (instance_items scope (suc first) ss xs) (ports_own scope first (connected_to s x.connections) 0 s.ports)
    (instances_own scope (suc first) ss xs)

-- ---- steps

step_own : (scope : Scope) (child : ℕ) (left : List ChildShape) (s : ModuleStep) → AreWritten (s ∷ []) → step_faults scope left s ≡ []
    → AreOwn (step_items scope child left s)
step_own scope child left (Listed n) w none = tt
step_own scope child left (Port p) w none = values_own scope (port_values p)
step_own scope child left (Parameter s n v) w none = tt
step_own scope child left (Item x) w none =
    both_own (plain_items scope x) (instance_items scope child (shapes_of left x) (instances_in x))
    (plain_own scope x w.0.0 w.0.1.1 (left_none (plain_faults scope x) (item_faults scope (shapes_of left x) (instances_in x)) none))
    (instances_own scope child (shapes_of left x) (instances_in x))
step_own scope child left (Labelled n) w none = tt
step_own scope child left (Opened b items) w none = tt
step_own scope child left Closed w none = tt

walk_own : (w : ℕ → Writer) (xs : List NamedSignal) (k : Walk) (ss : List ModuleStep) → AreWritten ss → walk_faults w xs k ss ≡ []
    → AreOwn (walk_items w xs k ss)
walk_own w xs k [] written none = tt
walk_own w xs k (s ∷ ss) written none =
    let first = step_faults k.here.scope k.left s in
    let rest = walk_faults w xs (behind w xs s k) ss in
    both_own (step_items k.here.scope k.child k.left s) (walk_items w xs (behind w xs s k) ss)
    (step_own k.here.scope k.child k.left s (written.0, tt) (left_none first rest none))
    (walk_own w xs (behind w xs s k) ss written.1 (right_none first rest none))

-- ---- copies beside their units

unit_own : (c : ModuleCopy) (within : Copies) (name : ℕ) (u : SizedUnit) → IsBuilt c within name u → Each IsOwnNode u.nodes
unit_own c within name u is =
    let unit = built_unit c within name u is in
    let own = walk_own (writers_in c) c.table.signals (beginning_of c) c.steps (job_written is.job c.steps is.steps) unit.no_fault in
    subst (λ (v : SizedUnit). Each IsOwnNode v.nodes) (sym unit.made) (nodes_own (own_items c) own)

copied_shown : (path : List ℕ) (first : ℕ) (copies : Copies) (tree : Instances) → AreBuilt copies tree
    → Each IsShown (copied_out nodes_at path first tree)
copied_shown path first Nothing t.Nothing are = tt
copied_shown path first Nothing (t.One name u inner later) are = absurd are
copied_shown path first (One c within after) t.Nothing are = absurd are
copied_shown path first (One c within after) (t.One name u inner later) are =
    let here = path ++ name ∷ [] in
    let second = first + length u.signals in
    let kid = slice_index (firsts second inner) in
    let in_it = copied_out nodes_at here second inner in
    let behind_it = copied_out nodes_at path (second + signals_in inner) later in
    each_append IsShown (map (node_there first kid) u.nodes) (in_it ++ behind_it)
    (nodes_shown first kid u.nodes (unit_own c within name u are.0))
    (each_append IsShown in_it behind_it (copied_shown here second within inner are.1.0)
    (copied_shown path (second + signals_in inner) after later are.1.1))

pub tree_shown : (copies : Copies) (tree : Instances) → AreBuilt copies tree → Each IsShown (flat_of_tree tree).nodes
tree_shown copies tree are = copied_shown [] 0 copies tree are

pub flat_shown : (copies : Copies) (tree : Instances) → AreBuilt copies tree → Each IsShown (flat copies).nodes
flat_shown copies tree are = subst (λ (d : Flat). Each IsShown d.nodes) (built_is_flat copies tree are) (tree_shown copies tree are)
