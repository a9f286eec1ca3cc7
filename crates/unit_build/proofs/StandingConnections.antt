-- Where the nodes of connections stand: of which child, in which of its ports, and that no port has two.
use Rattle.std.proofs.Common.{◌≡◌, ◌<◌, ◌≤◌, ℕ, zero, suc, ◌+◌, ◌==◌, Bool, true, false, ◌&&◌, ◌||◌, nat_le, nat_lt, List, [], ◌∷◌, ◌++◌, length, cond, not, refl, sym, ◌∙◌, ap, ap₂, arith, subst}
use Rattle.std.specs.Prelude.{Option, Some, None, slice_get}
use Rattle.std.proofs.lemmas.Bool.{lt-ltb, ne_eqb, eqb-true, eqb-false, cond-true, cond-false}
use Rattle.std.proofs.lemmas.Option.{same_Some, none-some}
use Rattle.std.proofs.Math.Bool.{and-false}
use Rattle.typed_ir.specs.Orders.{Each, at_or}
use Rattle.typed_ir.proofs.Cases.{by_cases}
use Rattle.typed_ir.proofs.Lists.{each_append}
use Rattle.typed_ir.specs.declared.child_shape.ChildShape.{ChildShape}
use Rattle.typed_ir.specs.declared.port_shape.PortShape.{PortShape}
use Rattle.typed_ir.specs.Items.{PlacedItem, SizedBody, Node, Clocked, Initial, node_in, nodes_in}
use Rattle.typed_ir.specs.OwnWidths.{names_child}
use Rattle.typed_ir.specs.Shapes.{is_clock, is_data_input, are_inputs_of, goes_into_input}
use Rattle.typed_ir.specs.Trees.{UnitNode, count, port_drives}
use Rattle.typed_ir.proofs.Counted.{count_append, one_at_most}
use Rattle.verilog_ast.specs.Expressions.{Expression}
use Rattle.verilog_ast.specs.Items.{ConnectionByName, ConnectionByOrder, ConnectionList, ByName, ByOrder, ModuleInstance}
use Rattle.width_rules.specs.Scopes.{Scope}
use Rattle.unit_build.specs.Connections.{Connected, port_number, connection_if, connection_at, to_port, to_found, connected_by_name, connected_by_order, connected_to}
use Rattle.unit_build.specs.ConnectionNodes.{port_lane, input_node, output_node, connection_node, driven_by}
use Rattle.unit_build.specs.Instances.{first_to, item_if, port_items, child_items, instance_items}

-- ---- lists

pub nodes_append : (xs ys : List PlacedItem) → nodes_in (xs ++ ys) ≡ nodes_in xs ++ nodes_in ys
nodes_append [] ys = refl
nodes_append (x ∷ xs) ys = nodes_behind x.body (nodes_append xs ys)
  where
    nodes_behind : (b : SizedBody) → nodes_in (xs ++ ys) ≡ nodes_in xs ++ nodes_in ys → node_in b ++ nodes_in (xs ++ ys) ≡ (node_in b ++ nodes_in xs) ++ nodes_in ys
    nodes_behind (Node n) e = ap (λ (ns : List UnitNode). n ∷ ns) e
    nodes_behind (Clocked st) e = e
    nodes_behind (Initial s) e = e

-- ---- the first connection of a port is one to it

pub first_port : (k : ℕ) (cs : List Connected) (c : Connected) → first_to k cs ≡ Some c → c.port ≡ k
first_port k [] c h = absurd (none-some c h)
first_port k (d ∷ ds) c h = by_cases (d.port == k)
    (λ t. sym (ap (λ (x : Connected). x.port) (same_Some d c (sym (cond-true (d.port == k) (Some d) (first_to k ds) t) ∙ h))) ∙ eqb-true d.port k t)
    (λ f. first_port k ds c (sym (cond-false (d.port == k) (Some d) (first_to k ds) f) ∙ h))

pub first_is : (P : Connected → Type 0) (k : ℕ) (cs : List Connected) (c : Connected) → Each P cs → first_to k cs ≡ Some c → P c
first_is P k [] c all h = absurd (none-some c h)
first_is P k (d ∷ ds) c all h = by_cases (d.port == k)
    (λ t. subst P (same_Some d c (sym (cond-true (d.port == k) (Some d) (first_to k ds) t) ∙ h)) all.0)
    (λ f. first_is P k ds c all.1 (sym (cond-false (d.port == k) (Some d) (first_to k ds) f) ∙ h))

-- ---- each child, port and bit has at most one node

-- what drives no such port
other_child : (c s i d : ℕ) (scope : Scope) (x : Connected) → (d ≡ c → ⊥) → port_drives c s i (connection_node scope d x) ≡ false
other_child c s i d scope x h = by_input x.shape.input
  where
    by_input : (b : Bool) → port_drives c s i (cond b (input_node scope d x) (output_node scope d x (driven_by x))) ≡ false
    by_input true = ap (λ b. b && ((s == x.port) && (nat_le 0 i && nat_lt i (0 + x.shape.width)) || false)) (ne_eqb d c h)
    by_input false = refl

other_port : (c s i d : ℕ) (scope : Scope) (x : Connected) → (s ≡ x.port → ⊥) → port_drives c s i (connection_node scope d x) ≡ false
other_port c s i d scope x h = by_input x.shape.input
  where
    by_input : (b : Bool) → port_drives c s i (cond b (input_node scope d x) (output_node scope d x (driven_by x))) ≡ false
    by_input true =
        ap (λ b. (d == c) && (b && (nat_le 0 i && nat_lt i (0 + x.shape.width)) || false)) (ne_eqb s x.port h) ∙ and-false (d == c)
    by_input false = refl

one_of : (c s i d : ℕ) (scope : Scope) (o : Option Connected) → count (port_drives c s i) (nodes_in (item_if scope d o)) ≤ 1
one_of c s i d scope None = omega arith
one_of c s i d scope (Some x) = one_at_most (port_drives c s i (connection_node scope d x))

none_of : (c s i d : ℕ) (scope : Scope) (o : Option Connected) → ((x : Connected) → o ≡ Some x → port_drives c s i (connection_node scope d x) ≡ false)
    → count (port_drives c s i) (nodes_in (item_if scope d o)) ≡ 0
none_of c s i d scope None h = refl
none_of c s i d scope (Some x) h = ap (λ b. cond b 1 0 + 0) (h x refl)

-- of the ports from k on
split : (c s i d k : ℕ) (scope : Scope) (cs : List Connected) (p : PortShape) (ps : List PortShape)
    → count (port_drives c s i) (nodes_in (port_items scope d cs k (p ∷ ps)))
    ≡ count (port_drives c s i) (nodes_in (item_if scope d (first_to k cs))) + count (port_drives c s i) (nodes_in (port_items scope d cs (suc k) ps))
split c s i d k scope cs p ps =
    ap (λ (ns : List UnitNode). count (port_drives c s i) ns) (nodes_append (item_if scope d (first_to k cs)) (port_items scope d cs (suc k) ps))
    ∙ count_append (port_drives c s i) (nodes_in (item_if scope d (first_to k cs))) (nodes_in (port_items scope d cs (suc k) ps))

both_none : (a b n : ℕ) → n ≡ a + b → a ≡ 0 → b ≡ 0 → n ≡ 0
both_none a b n e h k = omega (arith, e, h, k)

left_one : (a b n : ℕ) → n ≡ a + b → a ≤ 1 → b ≡ 0 → n ≤ 1
left_one a b n e h k = omega (arith, e, h, k)

right_one : (a b n : ℕ) → n ≡ a + b → a ≡ 0 → b ≤ 1 → n ≤ 1
right_one a b n e h k = omega (arith, e, h, k)

before_port : (c s i d k : ℕ) (scope : Scope) (cs : List Connected) (ps : List PortShape) → s < k
    → count (port_drives c s i) (nodes_in (port_items scope d cs k ps)) ≡ 0
before_port c s i d k scope cs [] h = refl
before_port c s i d k scope cs (p ∷ ps) h =
    both_none _ _ _ (split c s i d k scope cs p ps)
    (none_of c s i d scope (first_to k cs) (λ x e. other_port c s i d scope x (λ q. omega (arith, h, q, first_port k cs x e))))
    (before_port c s i d (suc k) scope cs ps (omega (arith, h)))

once_from : (c s i d k : ℕ) (scope : Scope) (cs : List Connected) (ps : List PortShape) → count (port_drives c s i) (nodes_in (port_items scope d cs k ps)) ≤ 1
once_from c s i d k scope cs [] = omega arith
once_from c s i d k scope cs (p ∷ ps) = by_cases (s == k)
    (λ t. left_one _ _ _ (split c s i d k scope cs p ps) (one_of c s i d scope (first_to k cs))
    (before_port c s i d (suc k) scope cs ps (omega (arith, eqb-true s k t))))
    (λ f. right_one _ _ _ (split c s i d k scope cs p ps)
    (none_of c s i d scope (first_to k cs) (λ x e. other_port c s i d scope x (λ q. eqb-false s k f (q ∙ first_port k cs x e))))
    (once_from c s i d (suc k) scope cs ps))

other_from : (c s i d k : ℕ) (scope : Scope) (cs : List Connected) (ps : List PortShape) → (d ≡ c → ⊥)
    → count (port_drives c s i) (nodes_in (port_items scope d cs k ps)) ≡ 0
other_from c s i d k scope cs [] h = refl
other_from c s i d k scope cs (p ∷ ps) h =
    both_none _ _ _ (split c s i d k scope cs p ps) (none_of c s i d scope (first_to k cs) (λ x e. other_child c s i d scope x h))
    (other_from c s i d (suc k) scope cs ps h)

-- of the instances from the number `first` on
halves : (c s i first : ℕ) (scope : Scope) (shape : ChildShape) (ss : List ChildShape) (x : ModuleInstance) (xs : List ModuleInstance)
    → count (port_drives c s i) (nodes_in (instance_items scope first (shape ∷ ss) (x ∷ xs)))
    ≡ count (port_drives c s i) (nodes_in (child_items scope first shape x)) + count (port_drives c s i) (nodes_in (instance_items scope (suc first) ss xs))
halves c s i first scope shape ss x xs =
    ap (λ (ns : List UnitNode). count (port_drives c s i) ns) (nodes_append (child_items scope first shape x) (instance_items scope (suc first) ss xs))
    ∙ count_append (port_drives c s i) (nodes_in (child_items scope first shape x)) (nodes_in (instance_items scope (suc first) ss xs))

pub none_before : (c s i first : ℕ) (scope : Scope) (ss : List ChildShape) (xs : List ModuleInstance) → c < first
    → count (port_drives c s i) (nodes_in (instance_items scope first ss xs)) ≡ 0
none_before c s i first scope [] xs h = refl
none_before c s i first scope (shape ∷ ss) [] h = refl
none_before c s i first scope (shape ∷ ss) (x ∷ xs) h =
    both_none _ _ _ (halves c s i first scope shape ss x xs)
    (other_from c s i first 0 scope (connected_to shape x.connections) shape.ports (λ e. omega (arith, h, e)))
    (none_before c s i (suc first) scope ss xs (omega (arith, h)))

pub none_behind : (c s i first : ℕ) (scope : Scope) (ss : List ChildShape) (xs : List ModuleInstance) → first + length ss ≤ c
    → count (port_drives c s i) (nodes_in (instance_items scope first ss xs)) ≡ 0
none_behind c s i first scope [] xs h = refl
none_behind c s i first scope (shape ∷ ss) [] h = refl
none_behind c s i first scope (shape ∷ ss) (x ∷ xs) h =
    both_none _ _ _ (halves c s i first scope shape ss x xs)
    (other_from c s i first 0 scope (connected_to shape x.connections) shape.ports (λ e. omega (arith, h, e)))
    (none_behind c s i (suc first) scope ss xs (omega (arith, h)))

pub once : (c s i first : ℕ) (scope : Scope) (ss : List ChildShape) (xs : List ModuleInstance)
    → count (port_drives c s i) (nodes_in (instance_items scope first ss xs)) ≤ 1
once c s i first scope [] xs = omega arith
once c s i first scope (shape ∷ ss) [] = omega arith
once c s i first scope (shape ∷ ss) (x ∷ xs) = by_cases (first == c)
    (λ t. left_one _ _ _ (halves c s i first scope shape ss x xs)
    (once_from c s i first 0 scope (connected_to shape x.connections) shape.ports)
    (none_before c s i (suc first) scope ss xs (omega (arith, eqb-true first c t))))
    (λ f. right_one _ _ _ (halves c s i first scope shape ss x xs)
    (other_from c s i first 0 scope (connected_to shape x.connections) shape.ports (eqb-false first c f))
    (once c s i (suc first) scope ss xs))

-- ---- all nodes of an instance

pub each_port : (P : UnitNode → Type 0) (Q : Connected → Type 0) (scope : Scope) (d : ℕ) → ((x : Connected) → Q x → P (connection_node scope d x))
    → (cs : List Connected) → Each Q cs → (k : ℕ) (ps : List PortShape) → Each P (nodes_in (port_items scope d cs k ps))
each_port P Q scope d node cs all k [] = tt
each_port P Q scope d node cs all k (p ∷ ps) =
    subst (λ (ns : List UnitNode). Each P ns) (sym (nodes_append (item_if scope d (first_to k cs)) (port_items scope d cs (suc k) ps)))
    (each_append P (nodes_in (item_if scope d (first_to k cs))) (nodes_in (port_items scope d cs (suc k) ps))
    (at_item (first_to k cs) (λ x e. first_is Q k cs x all e)) (each_port P Q scope d node cs all (suc k) ps))
  where
    at_item : (o : Option Connected) → ((x : Connected) → o ≡ Some x → Q x) → Each P (nodes_in (item_if scope d o))
    at_item None h = tt
    at_item (Some x) h = (node x (h x refl), tt)

-- ---- each is of a child that there is

any_connection : (cs : List Connected) → Each (λ (x : Connected). Unit {0}) cs
any_connection [] = tt
any_connection (c ∷ cs) = (tt, any_connection cs)

child_so : (total d : ℕ) (scope : Scope) (x : Connected) → d < total → names_child total (connection_node scope d x) ≡ true
child_so total d scope x h = by_input x.shape.input
  where
    by_input : (b : Bool) → names_child total (cond b (input_node scope d x) (output_node scope d x (driven_by x))) ≡ true
    by_input true = lt-ltb d total h
    by_input false = lt-ltb d total h

pub children_so : (total first : ℕ) (scope : Scope) (ss : List ChildShape) (xs : List ModuleInstance) → first + length ss ≤ total
    → Each (λ n. names_child total n ≡ true) (nodes_in (instance_items scope first ss xs))
children_so total first scope [] xs h = tt
children_so total first scope (shape ∷ ss) [] h = tt
children_so total first scope (shape ∷ ss) (x ∷ xs) h =
    subst (λ (ns : List UnitNode). Each (λ n. names_child total n ≡ true) ns)
    (sym (nodes_append (child_items scope first shape x) (instance_items scope (suc first) ss xs)))
    (each_append (λ n. names_child total n ≡ true) (nodes_in (child_items scope first shape x)) (nodes_in (instance_items scope (suc first) ss xs))
    (each_port (λ n. names_child total n ≡ true) (λ c. Unit {0}) scope first (λ c u. child_so total first scope c (omega (arith, h)))
    (connected_to shape x.connections) (any_connection (connected_to shape x.connections)) 0 shape.ports)
    (children_so total (suc first) scope ss xs (omega (arith, h))))

-- ---- inputs go into data inputs

-- a connection is to a port that there is, and not to the clock
pub record IsPort (child : ChildShape) (c : Connected) : Type 0 where
  pub there : slice_get child.ports c.port ≡ Some c.shape
  pub free : is_clock child.clock c.shape.name ≡ false

port_if : (child : ChildShape) (k : ℕ) (p : PortShape) → slice_get child.ports k ≡ Some p → (x : Option Expression)
    → Each (IsPort child) (connection_if child.clock k p x)
port_if child k p e None = tt
port_if child k p e (Some x) = by_clock (is_clock child.clock p.name) refl
  where
    by_clock : (b : Bool) → is_clock child.clock p.name ≡ b → Each (IsPort child) (cond b [] (record { port = k; shape = p; value = x } ∷ []))
    by_clock true f = tt
    by_clock false f = (record { there = e; free = f }, tt)

port_at : (child : ChildShape) (k : ℕ) (o : Option PortShape) → slice_get child.ports k ≡ o → (x : Option Expression)
    → Each (IsPort child) (connection_at child.clock k o x)
port_at child k None e x = tt
port_at child k (Some p) e x = port_if child k p e x

port_found : (child : ChildShape) (o : Option ℕ) (x : Option Expression) → Each (IsPort child) (to_found child o x)
port_found child None x = tt
port_found child (Some k) x = port_at child k (slice_get child.ports k) refl x

by_names : (child : ChildShape) (xs : List ConnectionByName) → Each (IsPort child) (connected_by_name child xs)
by_names child [] = tt
by_names child (x ∷ xs) =
    each_append (IsPort child) (to_found child (port_number x.name.name.0 0 child.ports) x.value) (connected_by_name child xs)
    (port_found child (port_number x.name.name.0 0 child.ports) x.value) (by_names child xs)

by_orders : (child : ChildShape) (k : ℕ) (xs : List ConnectionByOrder) → Each (IsPort child) (connected_by_order child k xs)
by_orders child k [] = tt
by_orders child k (x ∷ xs) =
    each_append (IsPort child) (to_port child k x.value) (connected_by_order child (suc k) xs)
    (port_at child k (slice_get child.ports k) refl x.value) (by_orders child (suc k) xs)

pub ports_so : (child : ChildShape) (l : ConnectionList) → Each (IsPort child) (connected_to child l)
ports_so child (ByName xs) = by_names child xs
ports_so child (ByOrder xs) = by_orders child 0 xs

at_found : {N A : Type 0} (f : N → A) (d : A) (xs : List N) (k : ℕ) (x : N) → slice_get xs k ≡ Some x → at_or f d xs k ≡ f x
at_found f d [] k x h = absurd (none-some x h)
at_found f d (y ∷ ys) zero x h = ap f (same_Some y x h)
at_found f d (y ∷ ys) (suc k) x h = at_found f d ys k x h

input_so : (all : List ChildShape) (child : ChildShape) (d : ℕ) (scope : Scope) (x : Connected) → slice_get all d ≡ Some child → IsPort child x
    → goes_into_input all (connection_node scope d x) ≡ true
input_so all child d scope x e is = by_input x.shape.input refl
  where
    data_so : x.shape.input ≡ true → (x.shape.input && not (is_clock child.clock x.shape.name)) ≡ true
    data_so t = ap₂ (λ (a b : Bool). a && not b) t is.free

    by_input : (b : Bool) → x.shape.input ≡ b → goes_into_input all (cond b (input_node scope d x) (output_node scope d x (driven_by x))) ≡ true
    by_input true t =
        at_found (λ (c : ChildShape). are_inputs_of c (port_lane x ∷ [])) false all d child e
        ∙ ap (λ (b : Bool). b && true) (at_found (is_data_input child.clock) false child.ports x.port x.shape is.there ∙ data_so t)
    by_input false t = refl

-- the shapes stand among all from the number `first` on
pub into_so : (all : List ChildShape) (first : ℕ) (scope : Scope) (ss : List ChildShape) (xs : List ModuleInstance)
    → ((j : ℕ) (s : ChildShape) → slice_get ss j ≡ Some s → slice_get all (j + first) ≡ Some s)
    → Each (λ n. goes_into_input all n ≡ true) (nodes_in (instance_items scope first ss xs))
into_so all first scope [] xs h = tt
into_so all first scope (shape ∷ ss) [] h = tt
into_so all first scope (shape ∷ ss) (x ∷ xs) h =
    let here : 0 + first ≡ first = omega arith in
    subst (λ (ns : List UnitNode). Each (λ n. goes_into_input all n ≡ true) ns)
    (sym (nodes_append (child_items scope first shape x) (instance_items scope (suc first) ss xs)))
    (each_append (λ n. goes_into_input all n ≡ true) (nodes_in (child_items scope first shape x)) (nodes_in (instance_items scope (suc first) ss xs))
    (each_port (λ n. goes_into_input all n ≡ true) (IsPort shape) scope first
    (λ c is. input_so all shape first scope c (ap (slice_get all) (sym here) ∙ h 0 shape refl) is)
    (connected_to shape x.connections) (ports_so shape x.connections) 0 shape.ports)
    (into_so all (suc first) scope ss xs (λ j s e. ap (slice_get all) (next_to j) ∙ h (suc j) s e)))
  where
    next_to : (j : ℕ) → j + suc first ≡ suc j + first
    next_to j = omega arith

in_front : (ss after : List ChildShape) (j : ℕ) (s : ChildShape) → slice_get ss j ≡ Some s → slice_get (ss ++ after) j ≡ Some s
in_front [] after j s h = absurd (none-some s h)
in_front (x ∷ xs) after zero s h = h
in_front (x ∷ xs) after (suc j) s h = in_front xs after j s h

behind_these : (before ys : List ChildShape) (first j : ℕ) → length before ≡ first → slice_get (before ++ ys) (j + first) ≡ slice_get ys j
behind_these [] ys first j h =
    let none : j + first ≡ j = omega (arith, h) in
    ap (slice_get ys) none
behind_these (b ∷ bs) ys first j h =
    let more : j + first ≡ suc (j + length bs) = omega (arith, h) in
    ap (slice_get (b ∷ (bs ++ ys))) more ∙ behind_these bs ys (length bs) j refl

pub into_among : (before after : List ChildShape) (first : ℕ) (scope : Scope) (ss : List ChildShape) (xs : List ModuleInstance) → length before ≡ first
    → Each (λ n. goes_into_input (before ++ (ss ++ after)) n ≡ true) (nodes_in (instance_items scope first ss xs))
into_among before after first scope ss xs h =
    into_so (before ++ (ss ++ after)) first scope ss xs (λ j s e. behind_these before (ss ++ after) first j h ∙ in_front ss after j s e)
