-- What a copy gives is what its unit gives where it stands.
use Rattle.std.proofs.Common.{◌≡◌, ℕ, suc, ◌+◌, ◌<◌, Bool, true, false, cond, List, [], ◌∷◌, ◌++◌, length, map, filter, slice_index, refl, sym, ◌∙◌, ap, ap₂, arith}
use Rattle.std.proofs.lemmas.Simd.{map-map}
use Rattle.std.specs.Prelude.{Option}
use Rattle.ls_text.specs.declared.name_id.NameId.{NameId}
use Rattle.ls_text.proofs.Lists.{same_map}
use Rattle.typed_ir.specs.Nodes.{Drive}
use Rattle.typed_ir.specs.Orders.{Each}
use Rattle.typed_ir.specs.declared.child_shape.ChildShape.{ChildShape}
use Rattle.typed_ir.specs.Items.{SizedBody, Node, Clocked, Initial, PlacedItem, node_in, block_in, nodes_in, blocks_in}
use Rattle.typed_ir.specs.Shifts.{shifted_stmt}
use Rattle.typed_ir.specs.Trees.{UnitNode, Own, Into, From, SizedUnit, Instances, Standing, firsts, node_there, signal_there, signals_at, registers_at, nodes_at, blocks_at}
use Rattle.driver_rules.specs.Targets.{is_settled}
use Rattle.statement_rules.specs.Renumbering.{statement_as}
use Rattle.gen_unroll.specs.Signals.{NamedSignal}
use Rattle.gen_unroll.specs.Numbers.{SignalTable}
use Rattle.gen_unroll.specs.UnitLists.{is_data_input, data_inputs_from, is_register, registers}
use Rattle.unit_build.proofs.ConnectedNumbers.{begins_over}
use Rattle.unit_build.proofs.Roles.{register_there}
use Rattle.version_swap.specs.CopiedWalks.{copied_items}
use Rattle.version_swap.specs.Copies.{ModuleCopy, Copies, Nothing, One, Where, inside, SignalPlace, place_in}
use Rattle.version_swap.specs.Flat.{writers_in, beginning_of, own_items, items_at, joined, signals_of, registers_of, nodes_of, blocks_of}
use Rattle.version_swap.specs.RenumberedItems.{node_as, body_as, placed_as}
use Rattle.version_swap.specs.Units.{IsUnitOf, AreUnitsOf}
use Rattle.version_swap.proofs.Below.{Agree, begins_below, same_items}
use Rattle.version_swap.proofs.Kids.{kid_places, unit_inside}
use Rattle.version_swap.proofs.Places.{IsStanding, stands_at}
use Rattle.version_swap.proofs.Ported.{ports_of, NamesPorts, walk_ports}
use Rattle.version_swap.proofs.ShiftedForms.{behind_first, form_shifted, lanes_shifted, statement_shifted, node_shifted}

-- under other numbers, the items of a copy are its items with other numbers
abbrev pub IsRenumbered : ModuleCopy → Type 0
IsRenumbered c =
    (g : ℕ → ℕ) → copied_items g (writers_in c) c.table.signals (beginning_of c) c.steps ≡ map (placed_as g) (own_items c)

abbrev pub AreRenumbered : Copies → Type 0
AreRenumbered Nothing = Unit {0}
AreRenumbered (One c within after) = IsRenumbered c × (AreRenumbered within × AreRenumbered after)

-- ---- lists

each_same : {A B : Type 0} (P : A → Type 0) (f h : A → B) → ((x : A) → P x → f x ≡ h x) → (xs : List A) → Each P xs → map f xs ≡ map h xs
each_same P f h same [] each = refl
each_same P f h same (x ∷ xs) each = ap₂ (λ y ys. y ∷ ys) (same x each.0) (each_same P f h same xs each.1)

-- ---- nodes and blocks of items with other numbers

nodes_as : (g : ℕ → ℕ) (xs : List PlacedItem) → nodes_in (map (placed_as g) xs) ≡ map (node_as g) (nodes_in xs)
nodes_as g [] = refl
nodes_as g (x ∷ xs) = by x.body (nodes_as g xs)
  where
    by : (b : SizedBody) → nodes_in (map (placed_as g) xs) ≡ map (node_as g) (nodes_in xs)
        → node_in (body_as g b) ++ nodes_in (map (placed_as g) xs) ≡ map (node_as g) (node_in b ++ nodes_in xs)
    by (Node node) rest = ap (λ ns. node_as g node ∷ ns) rest
    by (Clocked st) rest = rest
    by (Initial s) rest = rest

blocks_as : (g : ℕ → ℕ) (xs : List PlacedItem) → blocks_in (map (placed_as g) xs) ≡ map (statement_as g) (blocks_in xs)
blocks_as g [] = refl
blocks_as g (x ∷ xs) = by x.body (blocks_as g xs)
  where
    by : (b : SizedBody) → blocks_in (map (placed_as g) xs) ≡ map (statement_as g) (blocks_in xs)
        → block_in (body_as g b) ++ blocks_in (map (placed_as g) xs) ≡ map (statement_as g) (block_in b ++ blocks_in xs)
    by (Node node) rest = rest
    by (Clocked st) rest = ap (λ sts. statement_as g st ∷ sts) rest
    by (Initial s) rest = rest

-- ---- registers and data inputs are numbers of signals

abbrev AreBelow : ℕ → List ℕ → Type 0
AreBelow n ks = Each (λ k. k < n) ks

inputs_below : (n k : ℕ) (clock : Option NameId) (xs : List NamedSignal) → k + length xs ≡ n → AreBelow n (data_inputs_from k clock xs)
inputs_below n k clock [] is = tt
inputs_below n k clock (x ∷ xs) is = by (is_data_input clock x) (inputs_below n (suc k) clock xs (omega (arith, is)))
  where
    by : (b : Bool) → AreBelow n (data_inputs_from (suc k) clock xs)
        → AreBelow n (cond b (k ∷ data_inputs_from (suc k) clock xs) (data_inputs_from (suc k) clock xs))
    by true rest = (omega (arith, is), rest)
    by false rest = rest

registers_below : (settled : ℕ → Bool) (xs : List NamedSignal) (ks : List ℕ) → AreBelow (length xs) (filter (is_register settled xs) ks)
registers_below settled xs [] = tt
registers_below settled xs (k ∷ ks) = by (is_register settled xs k) refl (registers_below settled xs ks)
  where
    by : (b : Bool) → is_register settled xs k ≡ b → AreBelow (length xs) (filter (is_register settled xs) ks)
        → AreBelow (length xs) (cond b (k ∷ filter (is_register settled xs) ks) (filter (is_register settled xs) ks))
    by true is rest = (register_there xs k (settled k) is, rest)
    by false is rest = rest

pub inputs_same : (clock : Option NameId) (xs : List NamedSignal) (g h : ℕ → ℕ) → Agree (length xs) g h
    → map g (data_inputs_from 0 clock xs) ≡ map h (data_inputs_from 0 clock xs)
inputs_same clock xs g h same =
    each_same (λ k. k < length xs) g h same (data_inputs_from 0 clock xs) (inputs_below (length xs) 0 clock xs (omega arith))

registers_same : (settled : ℕ → Bool) (t : SignalTable) (g h : ℕ → ℕ) → Agree (length t.signals) g h
    → map g (registers settled t) ≡ map h (registers settled t)
registers_same settled t g h same =
    each_same (λ k. k < length t.signals) g h same (registers settled t) (registers_below settled t.signals t.declared)

-- ---- a node that is joined with the instances

node_joined : (all : List SignalPlace) (w : Where) (children : List ChildShape) (first : ℕ) (kid : ℕ → ℕ)
    → ((c : ℕ) → Agree (ports_of children c) (place_in all (w.at ++ c ∷ [])) (behind_first (kid c)))
    → (n : UnitNode) → NamesPorts children n → joined all w (node_as (behind_first first) n) ≡ node_there first kid n
node_joined all w children first kid there (Own node) h = node_shifted first node
node_joined all w children first kid there (Into c form lanes e) h =
    ap₂ (Drive form) (h (place_in all (w.at ++ c ∷ [])) (kid c) (there c)) (form_shifted first e)
node_joined all w children first kid there (From c form lanes e) h =
    ap₂ (Drive form) (lanes_shifted first lanes) (h (place_in all (w.at ++ c ∷ [])) (kid c) (there c))

-- ---- a copy, and its unit

items_are : (all : List SignalPlace) (w : Where) (k first : ℕ) (c : ModuleCopy) (within after : Copies) → IsRenumbered c
    → IsStanding all w k first (One c within after) → items_at all (inside w k c) c ≡ map (placed_as (behind_first first)) (own_items c)
items_are all w k first c within after law stands =
    same_items (place_in all (w.at ++ k ∷ [])) (behind_first first) (writers_in c) c.table.signals (beginning_of c) c.steps
    (stands_at all w k first c within after stands) (begins_below (writers_in c) c.table.signals c.declaration)
    ∙ law (behind_first first)

-- where the unit of a copy stands
abbrev pub standing : Where → (first name : ℕ) → SizedUnit → Instances → Standing
standing w first name u inner = record { path = w.path ++ name ∷ []; first = first; kids = firsts (first + length u.signals) inner }

-- each copy gives what its unit gives
abbrev pub AreGiven : {A : Type 0} → (Where → ModuleCopy → List A) → (Standing → SizedUnit → List A) → List SignalPlace → Type 0
AreGiven own there all =
    (w : Where) (k first : ℕ) (c : ModuleCopy) (within after : Copies) (name : ℕ) (u : SizedUnit) (inner : Instances) → IsRenumbered c
    → IsUnitOf c within name u
    → AreUnitsOf within inner → IsStanding all w k first (One c within after) → own (inside w k c) c ≡ there (standing w first name u inner) u

pub signals_given : (all : List SignalPlace) → AreGiven signals_of signals_at all
signals_given all w k first c within after name u inner law is are stands =
    ap₂ (λ n (v : SizedUnit). map (signal_there (w.path ++ n ∷ [])) v.signals) (sym is.called) (sym is.made)

pub registers_given : (all : List SignalPlace) → AreGiven (registers_of all) registers_at all
registers_given all w k first c within after name u inner law is are stands =
    registers_same (is_settled (own_items c)) c.table (place_in all (w.at ++ k ∷ [])) (behind_first first)
    (stands_at all w k first c within after stands)
    ∙ ap (λ (v : SizedUnit). map (behind_first first) v.registers) (sym is.made)

pub blocks_given : (all : List SignalPlace) → AreGiven (blocks_of all) blocks_at all
blocks_given all w k first c within after name u inner law is are stands =
    ap blocks_in (items_are all w k first c within after law stands)
    ∙ blocks_as (behind_first first) (own_items c)
    ∙ same_map (statement_as (behind_first first)) (shifted_stmt first) (statement_shifted first) (blocks_in (own_items c))
    ∙ ap (λ (v : SizedUnit). map (shifted_stmt first) v.clocked) (sym is.made)

pub nodes_given : (all : List SignalPlace) → AreGiven (nodes_of all) nodes_at all
nodes_given all w k first c within after name u inner law is are stands =
    let here = inside w k c in
    let own = nodes_in (own_items c) in
    let kids = firsts (first + length u.signals) inner in
    let there : (m : ℕ) → Agree (ports_of c.children m) (place_in all (here.at ++ m ∷ [])) (behind_first (slice_index kids m)) =
    λ m s few.
    let same : 0 + m ≡ m = omega arith in
    ap (λ n. place_in all (here.at ++ n ∷ []) s) (sym same)
    ∙ kid_places all here 0 (first + length u.signals) c.children within inner is.ports are
    (unit_inside all w k first c within after name u is stands) m s few in
    ap (λ xs. map (joined all here) (nodes_in xs)) (items_are all w k first c within after law stands)
    ∙ ap (map (joined all here)) (nodes_as (behind_first first) (own_items c))
    ∙ map-map (joined all here) (node_as (behind_first first)) own
    ∙ each_same (NamesPorts c.children) (λ n. joined all here (node_as (behind_first first) n)) (node_there first (slice_index kids))
    (node_joined all here c.children first (slice_index kids) there) own
    (walk_ports c.children (writers_in c) c.table.signals (beginning_of c) c.steps (begins_over c.children (beginning_of c).here))
    ∙ ap (λ (v : SizedUnit). map (node_there first (slice_index kids)) v.nodes) (sym is.made)
