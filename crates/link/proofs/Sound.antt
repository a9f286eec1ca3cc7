-- Units that stand in a tree of instances are sound and legal there.
use Rattle.std.proofs.Common.{◌≡◌, ℕ, zero, suc, ◌+◌, ◌<◌, ◌≤◌, Bool, true, false, List, [], ◌∷◌, ◌++◌, map, length, slice_index, take, cond, Option, Some, None, Global, append_assoc, append-nil, refl, sym, ◌∙◌, ap, subst, true≢false, arith}
use Rattle.std.specs.declared.sync.Arc.{Arc}
use Rattle.std.proofs.Math.Logic.{∥∥₁_elim, ∥∥₁_prop}
use Rattle.std.proofs.lemmas.Bool.{and_from}
use Rattle.std.proofs.lemmas.List.{length-map}
use Rattle.typed_ir.specs.declared.lane.Lane.{Lane}
use Rattle.typed_ir.specs.declared.target_form.TargetForm.{TargetForm}
use Rattle.typed_ir.specs.Cycles.{Signal}
use Rattle.typed_ir.specs.Orders.{Each, Member, at_or}
use Rattle.typed_ir.specs.Sized.{Constant}
use Rattle.typed_ir.specs.Stmts.{is_sized}
use Rattle.typed_ir.specs.Nodes.{Drive, node_drives, lane_spans, are_lanes, is_legal_node}
use Rattle.typed_ir.specs.Valuations.{any_within}
use Rattle.typed_ir.proofs.Cases.{and_left, and_right}
use Rattle.typed_ir.proofs.Mentions.{drives_small}
use Rattle.typed_ir.specs.declared.child_shape.ChildShape.{ChildShape}
use Rattle.typed_ir.specs.declared.instance.Instance.{Instance}
use Rattle.typed_ir.specs.declared.unit.Unit.{Unit as Unit'}
use Rattle.typed_ir.specs.declared.unit_parts.UnitParts.{UnitParts}
use Rattle.typed_ir.specs.declared.unit_signal.UnitSignal.{UnitSignal}
use Rattle.typed_ir.specs.OwnWidths.{IsSized, child_widths, port_widths}
use Rattle.typed_ir.specs.Shapes.{AreOf, none, more, HasPorts, children_of, goes_into_input, are_inputs_of, shape_of, stands_in}
use Rattle.typed_ir.specs.Trees.{UnitNode, Own, Into, From, SizedUnit, Instances, Nothing, One, signals_in, IsUnit, IsFit, IsSoundUnit, IsLegalUnit, AreSound, AreLegal, unit_widths, kid_widths, is_kid_input, is_legal_unit_node}
use Rattle.typed_ir.specs.Units.{sized_unit, signal_within}
use Rattle.link.specs.Copies.{all_sized}
use Rattle.link.specs.Listings.{Entry, entry_of, entries_of, instances_in, listed, all_parts}
use Rattle.link.proofs.Copied.{unit_of, units_within, units_listed}
use Rattle.link.proofs.Listed.{HasKids, kids_by, tops_by, has_kids}
use Rattle.link.proofs.Reaching.{Extends, extends_take, extends_none, sized_reaches, lanes_reach, driven_input}

pub entry_alone : ℕ → Entry → Entry
entry_alone first x = x

-- ---- the instances that stand in one, with their units

data Match : List Entry → List Instance → Type 0 where
  no_kids : Match [] []
  kid : {e : Entry} {es : List Entry} {x : Instance} {xs : List Instance} (p : UnitParts) → HasPorts p x.clock x.ports → sized_unit p ≡ e.unit → Match es xs
      → Match (e ∷ es) (x ∷ xs)

one_more : (b : Bool) (e : Entry) (es : List Entry) (x : Instance) (xs : List Instance) (p : UnitParts) → HasPorts p x.clock x.ports → sized_unit p ≡ e.unit
    → Match es xs → Match (cond b (e ∷ []) [] ++ es) (cond b (x ∷ xs) xs)
one_more true e es x xs p ports is rest = kid p ports is rest
one_more false e es x xs p ports is rest = rest

kids_match : (all : List Instance) (k first j : ℕ) (xs : List Instance) (us : List UnitParts) → AreOf all j xs us
    → Match (kids_by entry_alone k first (entries_of xs us)) (children_of k xs)
unfolding entry_alone
kids_match all k first j [] [] none = no_kids
kids_match all k first j [] (u ∷ us) are = elim are [ ]
kids_match all k first j (x ∷ xs) [] are = elim are [ ]
kids_match all k first j (x ∷ xs) (u ∷ us) (more ports shapes rest) =
    one_more (stands_in k x.place.parent) (entry_of x u) _ x (children_of k xs) u ports refl
    (kids_match all k (first + length (sized_unit u).signals) (suc j) xs us rest)

-- ---- a unit, and what its instance's children have

record Fine (xs : List Instance) (k : ℕ) (u : SizedUnit) : Type 0 where
  parts : UnitParts
  is : sized_unit parts ≡ u
  shapes : parts.shapes ≡ map shape_of (children_of k xs)
  unit : IsUnit (sized_unit parts)
  sized : IsSized parts

AllFine : List Instance → ℕ → List SizedUnit → Type 0
AllFine xs k [] = Unit {0}
AllFine xs k (u ∷ us) = Fine xs k u × AllFine xs (suc k) us

abbrev pub IsGood : UnitParts → Type 0
IsGood p = IsUnit (sized_unit p) × IsSized p

all_fine : (all : List Instance) (k : ℕ) (xs : List Instance) (us : List UnitParts) → AreOf all k xs us → Each IsGood us → AllFine all k (all_sized us)
unfolding AllFine
all_fine all k [] [] none good = tt
all_fine all k [] (u ∷ us) are good = elim are [ ]
all_fine all k (x ∷ xs) [] are good = elim are [ ]
all_fine all k (x ∷ xs) (u ∷ us) (more ports shapes rest) good =
    (record { parts = u; is = refl; shapes = shapes; unit = good.0.0; sized = good.0.1 }, all_fine all (suc k) xs us rest good.1)

AlongFine : List Instance → ℕ → Instances → Type 0
AlongFine xs k Nothing = Unit {0}
AlongFine xs k (One name u within after) = Fine xs k u × AlongFine xs (suc k) within × AlongFine xs (suc k + instances_in within) after

record Split (xs : List Instance) (k : ℕ) (tree : Instances) (rest : List SizedUnit) : Type 0 where
  along : AlongFine xs k tree
  left : AllFine xs (k + instances_in tree) rest

split : (xs : List Instance) (k : ℕ) (tree : Instances) (rest : List SizedUnit) → AllFine xs k (units_within tree ++ rest) → Split xs k tree rest
unfolding AllFine AlongFine
split xs k Nothing rest all = record { along = tt; left = subst (λ n. AllFine xs n rest) (omega arith) all }
split xs k (One name u within after) rest all =
    let inner = split xs (suc k) within (units_within after ++ rest) (subst (AllFine xs (suc k)) (append_assoc (units_within within) (units_within after) rest) all.1) in
    let later = split xs (suc k + instances_in within) after rest inner.left in
    record { along = (all.0, inner.along, later.along); left = subst (λ n. AllFine xs n rest) (omega arith) later.left }

-- ---- a child's signals

child_extends : (p : UnitParts) (x : Instance) → HasPorts p x.clock x.ports → Extends (unit_widths (sized_unit p)) (port_widths (shape_of x))
child_extends p x ports = extends_take (length x.ports) (unit_widths (sized_unit p)) (port_widths (shape_of x)) (ap (take (length x.ports)) (same p.signals.items) ∙ ports.widths)
  where
    same : (xs : List UnitSignal) → map (λ (y : Signal). y.width) (map signal_within xs) ≡ map (λ (y : UnitSignal). y.width) xs
    same [] = refl
    same (y ∷ ys) = ap (λ ws. y.width ∷ ws) (same ys)

kid_extends : (parent : Option ℕ) (first : ℕ) (within : Instances) (ys : List Instance) (c : ℕ) → Match (tops_by entry_alone parent first within) ys
    → Extends (kid_widths within c) (child_widths (map shape_of ys) c)
unfolding entry_alone
kid_extends parent first Nothing [] c no_kids = extends_none []
kid_extends parent first Nothing (y ∷ ys) c kids = elim kids [ ]
kid_extends parent first (One name u within after) [] c kids = elim kids [ ]
kid_extends parent first (One name u within after) (y ∷ ys) zero (kid p ports is rest) =
    subst (λ v. Extends (unit_widths v) (port_widths (shape_of y))) is (child_extends p y ports)
kid_extends parent first (One name u within after) (y ∷ ys) (suc c) (kid p ports is rest) =
    kid_extends parent (first + length u.signals + signals_in within) after ys c rest

kid_driven : (parent : Option ℕ) (first : ℕ) (within : Instances) (ys : List Instance) (c : ℕ) (lanes : List Lane) (s i : ℕ)
    → Match (tops_by entry_alone parent first within) ys
    → at_or (λ (child : ChildShape). are_inputs_of child lanes) false (map shape_of ys) c ≡ true → any_within (lane_spans lanes) s i ≡ true → is_kid_input within c s
unfolding entry_alone
kid_driven parent first Nothing [] c lanes s i no_kids into h = true≢false (sym into)
kid_driven parent first Nothing (y ∷ ys) c lanes s i kids into h = elim kids [ ]
kid_driven parent first (One name u within after) [] c lanes s i kids into h = elim kids [ ]
kid_driven parent first (One name u within after) (y ∷ ys) zero lanes s i (kid p ports is rest) into h =
    subst (λ v. Member s v.inputs) is (subst (Member s) (sym ports.inputs) (driven_input (shape_of y) lanes s i into h))
kid_driven parent first (One name u within after) (y ∷ ys) (suc c) lanes s i (kid p ports is rest) into h =
    kid_driven parent (first + length u.signals + signals_in within) after ys c lanes s i rest into h

-- ---- nodes

narrow : (xs : List UnitSignal) (k : ℕ) → slice_index (map (λ (y : Signal). y.width) (map signal_within xs)) k ≤ 128
narrow [] k = omega arith
narrow (x ∷ xs) zero = x.at_most_128
narrow (x ∷ xs) (suc k) = narrow xs k

widths_long : (u : SizedUnit) → length (unit_widths u) ≡ length u.signals
widths_long u = length-map u.signals (λ (y : Signal). y.width)

lanes_below : (form : TargetForm) (lanes : List Lane) (widths : List ℕ) (s i : ℕ) → ((k : ℕ) → slice_index widths k ≤ 128) → are_lanes lanes widths ≡ true
    → any_within (lane_spans lanes) s i ≡ true → s < length widths
unfolding node_drives is_legal_node
lanes_below form lanes widths s i most legal h = (drives_small (Drive form lanes (Constant 1 0)) widths s i most (and_from (are_lanes lanes widths) true legal refl) h).0

-- all that is known of one unit where it stands
record Known (p : UnitParts) (within : Instances) (ys : List Instance) : Type 0 where
  parent : Option ℕ
  first : ℕ
  kids : Match (tops_by entry_alone parent first within) ys
  shapes : p.shapes ≡ map shape_of ys

node_fit : (p : UnitParts) (within : Instances) (ys : List Instance) → Known p within ys → (x : UnitNode)
    → is_legal_unit_node (unit_widths (sized_unit p)) (child_widths p.shapes) x ≡ true → goes_into_input p.shapes x ≡ true
    → IsFit (length (sized_unit p).signals) within x
node_fit p within ys known (Own node) legal into = λ s i h.
    let below = (drives_small node (unit_widths (sized_unit p)) s i (narrow p.signals.items) legal h).0 in
    omega (arith, below, widths_long (sized_unit p))
node_fit p within ys known (Into c form lanes e) legal into = λ s i h.
    kid_driven known.parent known.first within ys c lanes s i known.kids
    (ap (λ zs. at_or (λ (child : ChildShape). are_inputs_of child lanes) false zs c) (sym known.shapes) ∙ into) h
node_fit p within ys known (From c form lanes e) legal into = λ s i h.
    let below = lanes_below form lanes (unit_widths (sized_unit p)) s i (narrow p.signals.items)
    (and_left (are_lanes lanes (unit_widths (sized_unit p))) (is_sized e (child_widths p.shapes c)) legal) h in
    omega (arith, below, widths_long (sized_unit p))

node_legal : (p : UnitParts) (within : Instances) (ys : List Instance) → Known p within ys → (x : UnitNode)
    → is_legal_unit_node (unit_widths (sized_unit p)) (child_widths p.shapes) x ≡ true
    → is_legal_unit_node (unit_widths (sized_unit p)) (kid_widths within) x ≡ true
node_legal p within ys known (Own node) legal = legal
node_legal p within ys known (Into c form lanes e) legal =
    let own = unit_widths (sized_unit p) in
    let extends = subst (λ zs. Extends (kid_widths within c) (child_widths zs c)) (sym known.shapes) (kid_extends known.parent known.first within ys c known.kids) in
    and_from (are_lanes lanes (kid_widths within c)) (is_sized e own)
    (lanes_reach (kid_widths within c) (child_widths p.shapes c) extends lanes (and_left (are_lanes lanes (child_widths p.shapes c)) (is_sized e own) legal))
    (and_right (are_lanes lanes (child_widths p.shapes c)) (is_sized e own) legal)
node_legal p within ys known (From c form lanes e) legal =
    let own = unit_widths (sized_unit p) in
    let extends = subst (λ zs. Extends (kid_widths within c) (child_widths zs c)) (sym known.shapes) (kid_extends known.parent known.first within ys c known.kids) in
    and_from (are_lanes lanes own) (is_sized e (kid_widths within c)) (and_left (are_lanes lanes own) (is_sized e (child_widths p.shapes c)) legal)
    (sized_reaches (kid_widths within c) (child_widths p.shapes c) extends e (and_right (are_lanes lanes own) (is_sized e (child_widths p.shapes c)) legal))

each_two : {A : Type 0} (P Q R : A → Type 0) (xs : List A) → ((x : A) → P x → Q x → R x) → Each P xs → Each Q xs → Each R xs
each_two P Q R [] f p q = tt
each_two P Q R (x ∷ xs) f p q = (f x p.0 q.0, each_two P Q R xs f p.1 q.1)

-- ---- the tree

abbrev pub IsWell : SizedUnit → Instances → Type 0
IsWell u within = IsSoundUnit u within × IsLegalUnit u within

unit_well : (p : UnitParts) (within : Instances) (ys : List Instance) → Known p within ys → IsUnit (sized_unit p) → IsSized p → IsWell (sized_unit p) within
unit_well p within ys known unit sized = (
  record {
    unit = unit;
    fit = each_two _ _ (IsFit (length (sized_unit p).signals) within) (sized_unit p).nodes (node_fit p within ys known) sized.nodes sized.into;
  },
  record {
    nodes = each_two _ _ (λ x. is_legal_unit_node (unit_widths (sized_unit p)) (kid_widths within) x ≡ true) (sized_unit p).nodes
        (λ x legal into. node_legal p within ys known x legal) sized.nodes sized.into;
    blocks = sized.blocks;
  },
)

well : (xs : List Instance) (us : List UnitParts) (index first : ℕ) (tree : Instances) → AreOf xs 0 xs us
    → HasKids entry_alone (entries_of xs us) index first tree → AlongFine xs index tree → AreSound tree × AreLegal tree
unfolding AlongFine
well xs us index first Nothing are kids fine = (tt, tt)
well xs us index first (One name u within after) are kids fine =
    let f = fine.0 in
    let known : Known f.parts within (children_of index xs) = record {
      parent = Some index;
      first = first + length u.signals;
      kids = subst (λ es. Match es (children_of index xs)) kids.0 (kids_match xs index 0 0 xs us are);
      shapes = f.shapes;
    } in
    let mine = subst (λ v. IsWell v within) f.is (unit_well f.parts within (children_of index xs) known f.unit f.sized) in
    let inner = well xs us (suc index) (first + length u.signals) within are kids.1 fine.1 in
    let later = well xs us (suc index + instances_in within) (first + length u.signals + signals_in within) after are kids.2 fine.2 in
    ((mine.0, inner.0, later.0), (mine.1, inner.1, later.1))

-- ---- the table's units are those of the tree

pub same_long : (all : List Instance) (k : ℕ) (xs : List Instance) (us : List UnitParts) → AreOf all k xs us → length us ≡ length xs
same_long all k [] [] none = refl
same_long all k [] (u ∷ us) are = elim are [ ]
same_long all k (x ∷ xs) [] are = elim are [ ]
same_long all k (x ∷ xs) (u ∷ us) (more ports shapes rest) = ap suc (same_long all (suc k) xs us rest)

units_are : (xs : List Instance) (us : List UnitParts) → length us ≡ length xs → map unit_of (entries_of xs us) ≡ all_sized us
units_are [] [] h = refl
units_are [] (u ∷ us) h = absurd (omega (arith, h))
units_are (x ∷ xs) [] h = absurd (omega (arith, h))
units_are (x ∷ xs) (u ∷ us) h = ap (λ zs. sized_unit u ∷ zs) (units_are xs us (omega (arith, h)))

pub tree_units : (xs : List Instance) (us : List UnitParts) (tree : Instances) → length us ≡ length xs → listed None 0 tree ≡ entries_of xs us
    → units_within tree ≡ all_sized us
tree_units xs us tree long is = sym (units_listed None 0 tree) ∙ ap (map unit_of) is ∙ units_are xs us long

pub tree_well : (xs : List Instance) (us : List UnitParts) (tree : Instances) → AreOf xs 0 xs us → Each IsGood us → listed None 0 tree ≡ entries_of xs us
    → AreSound tree × AreLegal tree
tree_well xs us tree are good is =
    well xs us 0 0 tree are (subst (λ es. HasKids entry_alone es 0 0 tree) is (has_kids entry_alone tree))
    (split xs 0 tree [] (subst (AllFine xs 0) (sym (append-nil (units_within tree) ∙ tree_units xs us tree (same_long xs 0 xs us are) is)) (all_fine xs 0 xs us are good))).along

-- what the types of the units keep, of all together
pub all_good : (us : List (Arc Unit' Global)) → ∥ Each IsGood (all_parts us) ∥₁
all_good [] = ∣ tt ∣₁
all_good (u ∷ us) =
    ∥∥₁_elim u.value.sound ∥∥₁_prop (λ sound.
    ∥∥₁_elim u.value.sized ∥∥₁_prop (λ sized.
    ∥∥₁_elim (all_good us) ∥∥₁_prop (λ rest. ∣ ((sound, sized), rest) ∣₁)))
