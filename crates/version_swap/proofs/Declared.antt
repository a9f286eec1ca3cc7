-- Declarations with values where signals have other numbers: the same faults, and the items and values at the beginning under these numbers.
use Rattle.std.proofs.Common.{◌≡◌, ℕ, ◌%◌, ◌^◌, Bool, true, false, cond, List, [], ◌∷◌, ◌++◌, map, refl, sym, ◌∙◌, ap, ap₂}
use Rattle.std.proofs.lemmas.List.{map-append}
use Rattle.ls_text.proofs.Lists.{some_is_none, joined_so}
use Rattle.typed_ir.specs.declared.lane.Lane.{Lane}
use Rattle.typed_ir.specs.declared.target_form.TargetForm.{TargetForm}
use Rattle.typed_ir.specs.Nodes.{Drive, known_lanes}
use Rattle.typed_ir.specs.Sized.{Sized, value_of}
use Rattle.typed_ir.specs.Stmts.{SizedTarget, Fixed, Moving}
use Rattle.typed_ir.specs.Trees.{Own}
use Rattle.typed_ir.specs.Items.{PlacedItem, Node, Initial}
use Rattle.verilog_ast.specs.declared.identifier.Identifier.{Identifier}
use Rattle.verilog_ast.specs.Items.{ContinuousAssignment}
use Rattle.verilog_ast.specs.Places.{target_place}
use Rattle.width_rules.specs.declared.due.Due.TheVariants.{ConstantOnly}
use Rattle.width_rules.specs.declared.writer.Writer.{Writer}
use Rattle.width_rules.specs.declared.writer.Writer.TheVariants as writer
use Rattle.width_rules.specs.Faults.{faults, fault_at}
use Rattle.width_rules.specs.Scopes.{Meaning, Signal, Constant, Turn, Genvar, Unknown, Scope}
use Rattle.width_rules.specs.Sizes.{no_signals}
use Rattle.width_rules.proofs.Reading.{left_none, right_none}
use Rattle.statement_rules.specs.Drives.{SizedDrive, sized_drive, all_kind_faults}
use Rattle.statement_rules.specs.Statements.{assigned}
use Rattle.statement_rules.specs.Targets.{target_length, kind_faults, parts}
use Rattle.statement_rules.specs.Renumbering.{meaning_as, renumbered, lane_as, target_as, drive_as}
use Rattle.statement_rules.specs.Written.{IsTargetWritten, AreAssignsWritten}
use Rattle.statement_rules.proofs.RenumberedFaults.{faults_as, target_long_as, target_faults_as, kinds_as}
use Rattle.statement_rules.proofs.RenumberedForms.{known_as}
use Rattle.statement_rules.proofs.RenumberedStatements.{assigned_as, same_drive}
use Rattle.statement_rules.proofs.Targets.{wrong_kind}
use Rattle.width_rules.specs.Forms.{target_form}
use Rattle.width_rules.specs.Mentions.{numbered}
use Rattle.width_rules.specs.Names.{target_names}
use Rattle.statement_rules.specs.DeclaredValues.{DeclaredValue, InitialValue, name_of, as_assignment, is_net, is_net_by, is_net_value, signal_in, due_by, writer_by, value_faults, value_kinds, all_value_faults, all_value_kinds, declaration_faults, initial_value, declaration_initials}
use Rattle.statement_rules.specs.SizedItems.{drive_item, initial_item, value_item}
use Rattle.version_swap.specs.RenumberedItems.{placed_as, initial_as}
use Rattle.version_swap.proofs.Mentioned.{target_form_as}

-- ---- continuous assignments

pub known_lanes_as : (g : ℕ → ℕ) (ts : List SizedTarget) → known_lanes (map (target_as g) ts) ≡ map (lane_as g) (known_lanes ts)
known_lanes_as g [] = refl
known_lanes_as g (Fixed lane ∷ ts) = ap (λ (ls : List Lane). lane_as g lane ∷ ls) (known_lanes_as g ts)
known_lanes_as g (Moving reach index ∷ ts) = known_lanes_as g ts

abbrev driving : ContinuousAssignment → TargetForm → List Lane → Sized → PlacedItem
driving x form lanes e = record {
  body = Node (Own (Drive form lanes e));
  at = target_place x.target;
  targets = numbered 0 (target_names x.target);
  reads = [];
}

pub drive_item_as : (g : ℕ → ℕ) (scope : Scope) (x : ContinuousAssignment) → IsTargetWritten x.target
    → kind_faults scope writer.Continuous x.target ≡ []
    → drive_item (renumbered g scope) x ≡ placed_as g (drive_item scope x)
drive_item_as g scope x w h =
    ap₂ (λ (f : TargetForm) (d : SizedDrive). driving x f (known_lanes d.parts) d.value) (target_form_as g scope x.target) (same_drive g scope x w h)
    ∙ ap (λ (ls : List Lane). driving x (target_form scope x.target) ls (drive_as g (sized_drive scope x)).value)
    (known_lanes_as g (parts scope 0 x.target))

pub drive_items_as : (g : ℕ → ℕ) (scope : Scope) (xs : List ContinuousAssignment) → AreAssignsWritten xs → all_kind_faults scope xs ≡ []
    → map (drive_item (renumbered g scope)) xs ≡ map (placed_as g) (map (drive_item scope) xs)
drive_items_as g scope [] w h = refl
drive_items_as g scope (x ∷ xs) w h =
    ap₂ (λ (p : PlacedItem) (ps : List PlacedItem). p ∷ ps)
    (drive_item_as g scope x w.0.0 (left_none (kind_faults scope writer.Continuous x.target) (all_kind_faults scope xs) h))
    (drive_items_as g scope xs w.1 (right_none (kind_faults scope writer.Continuous x.target) (all_kind_faults scope xs) h))

-- ---- which declaration it is

net_as : (g : ℕ → ℕ) (m : Meaning) → is_net (meaning_as g m) ≡ is_net m
net_as g (Signal signal width lsb signed writer) = refl
net_as g (Constant width value signed) = refl
net_as g (Turn width value signed) = refl
net_as g Genvar = refl
net_as g Unknown = refl

pub net_value_as : (g : ℕ → ℕ) (scope : Scope) (x : DeclaredValue) → is_net_value (renumbered g scope) x ≡ is_net_value scope x
net_value_as g scope x = ap (is_net_by x.kind) (net_as g (scope x.name.name.0))

-- ---- faults

value_faults_as : (g : ℕ → ℕ) (scope : Scope) (x : DeclaredValue) → value_faults (renumbered g scope) x ≡ value_faults scope x
value_faults_as g scope x =
    joined_so (target_faults_as g scope ConstantOnly (name_of x))
    (ap (λ (b : Bool). faults (renumbered g scope) (due_by b) x.value) (net_value_as g scope x)
    ∙ faults_as g scope (due_by (is_net_value scope x)) x.value)

value_kinds_as : (g : ℕ → ℕ) (scope : Scope) (x : DeclaredValue) → value_kinds (renumbered g scope) x ≡ value_kinds scope x
value_kinds_as g scope x =
    ap (λ (b : Bool). kind_faults (renumbered g scope) (writer_by b) (name_of x)) (net_value_as g scope x)
    ∙ kinds_as g scope (writer_by (is_net_value scope x)) (name_of x)

all_faults_as : (g : ℕ → ℕ) (scope : Scope) (xs : List DeclaredValue) → all_value_faults (renumbered g scope) xs ≡ all_value_faults scope xs
all_faults_as g scope [] = refl
all_faults_as g scope (x ∷ xs) = joined_so (value_faults_as g scope x) (all_faults_as g scope xs)

all_kinds_as : (g : ℕ → ℕ) (scope : Scope) (xs : List DeclaredValue) → all_value_kinds (renumbered g scope) xs ≡ all_value_kinds scope xs
all_kinds_as g scope [] = refl
all_kinds_as g scope (x ∷ xs) = joined_so (value_kinds_as g scope x) (all_kinds_as g scope xs)

pub declaration_faults_as : (g : ℕ → ℕ) (scope : Scope) (xs : List DeclaredValue)
    → declaration_faults (renumbered g scope) xs ≡ declaration_faults scope xs
declaration_faults_as g scope xs = joined_so (all_faults_as g scope xs) (all_kinds_as g scope xs)

-- ---- a name that may be written is a signal

signal_in_as : (g : ℕ → ℕ) (m : Meaning) (by : Writer) (n : Identifier) → wrong_kind by m n ≡ [] → signal_in (meaning_as g m) ≡ g (signal_in m)
signal_in_as g (Signal signal width lsb signed writer) by n h = refl
signal_in_as g (Constant width value signed) by n h = some_is_none (fault_at 33 n) [] h
signal_in_as g (Turn width value signed) by n h = some_is_none (fault_at 33 n) [] h
signal_in_as g Genvar by n h = some_is_none (fault_at 33 n) [] h
signal_in_as g Unknown by n h = some_is_none (fault_at 33 n) [] h

-- ---- items

abbrev beginning : DeclaredValue → ℕ → PlacedItem
beginning x signal = record { body = Initial signal; at = x.name.at; targets = numbered 0 (x.name ∷ []); reads = [] }

initial_item_as : (g : ℕ → ℕ) (scope : Scope) (x : DeclaredValue) (by : Writer) → kind_faults scope by (name_of x) ≡ []
    → initial_item (renumbered g scope) x ≡ placed_as g (initial_item scope x)
initial_item_as g scope x by h = ap (beginning x) (signal_in_as g (scope x.name.name.0) by x.name h)

pub value_item_as : (g : ℕ → ℕ) (scope : Scope) (x : DeclaredValue) → value_kinds scope x ≡ []
    → value_item (renumbered g scope) x ≡ placed_as g (value_item scope x)
value_item_as g scope x h =
    ap (λ (b : Bool). cond b (drive_item (renumbered g scope) (as_assignment x)) (initial_item (renumbered g scope) x)) (net_value_as g scope x)
    ∙ by_net (is_net_value scope x) h
  where
    by_net : (b : Bool) → kind_faults scope (writer_by b) (name_of x) ≡ []
        → cond b (drive_item (renumbered g scope) (as_assignment x)) (initial_item (renumbered g scope) x)
        ≡ placed_as g (cond b (drive_item scope (as_assignment x)) (initial_item scope x))
    by_net true k = drive_item_as g scope (as_assignment x) tt k
    by_net false k = initial_item_as g scope x writer.Clocked k

value_items_so : (g : ℕ → ℕ) (scope : Scope) (xs : List DeclaredValue) → all_value_kinds scope xs ≡ []
    → map (value_item (renumbered g scope)) xs ≡ map (placed_as g) (map (value_item scope) xs)
value_items_so g scope [] h = refl
value_items_so g scope (x ∷ xs) h =
    ap₂ (λ (p : PlacedItem) (ps : List PlacedItem). p ∷ ps)
    (value_item_as g scope x (left_none (value_kinds scope x) (all_value_kinds scope xs) h))
    (value_items_so g scope xs (right_none (value_kinds scope x) (all_value_kinds scope xs) h))

pub value_items_as : (g : ℕ → ℕ) (scope : Scope) (xs : List DeclaredValue) → declaration_faults scope xs ≡ []
    → map (value_item (renumbered g scope)) xs ≡ map (placed_as g) (map (value_item scope) xs)
value_items_as g scope xs h = value_items_so g scope xs (right_none (all_value_faults scope xs) (all_value_kinds scope xs) h)

-- ---- values at the beginning

worth_as : (g : ℕ → ℕ) (scope : Scope) (x : DeclaredValue) → (initial_value (renumbered g scope) x).value ≡ (initial_value scope x).value
worth_as g scope x =
    let long = target_long_as g scope (name_of x) in
    ap₂ (λ (e : Sized) (n : ℕ). value_of e no_signals % 2 ^ n)
    (assigned_as g scope (target_length (renumbered g scope) (name_of x)) (target_length scope (name_of x)) x.value long) long
    ∙ ap (λ (v : ℕ). v % 2 ^ target_length scope (name_of x)) (known_as g (assigned scope (target_length scope (name_of x)) x.value))

initial_value_as : (g : ℕ → ℕ) (scope : Scope) (x : DeclaredValue) (by : Writer) → kind_faults scope by (name_of x) ≡ []
    → initial_value (renumbered g scope) x ≡ initial_as g (initial_value scope x)
initial_value_as g scope x by h =
    ap₂ (λ (s v : ℕ). record { signal = s; value = v }) (signal_in_as g (scope x.name.name.0) by x.name h) (worth_as g scope x)

abbrev at_first : Scope → DeclaredValue → Bool → List InitialValue
at_first scope x net = cond net [] (initial_value scope x ∷ [])

at_first_as : (g : ℕ → ℕ) (scope : Scope) (x : DeclaredValue) → value_kinds scope x ≡ []
    → at_first (renumbered g scope) x (is_net_value (renumbered g scope) x) ≡ map (initial_as g) (at_first scope x (is_net_value scope x))
at_first_as g scope x h = ap (at_first (renumbered g scope) x) (net_value_as g scope x) ∙ by_net (is_net_value scope x) h
  where
    by_net : (b : Bool) → kind_faults scope (writer_by b) (name_of x) ≡ []
        → at_first (renumbered g scope) x b ≡ map (initial_as g) (at_first scope x b)
    by_net true k = refl
    by_net false k = ap (λ (v : InitialValue). v ∷ []) (initial_value_as g scope x writer.Clocked k)

initials_so : (g : ℕ → ℕ) (scope : Scope) (xs : List DeclaredValue) → all_value_kinds scope xs ≡ []
    → declaration_initials (renumbered g scope) xs ≡ map (initial_as g) (declaration_initials scope xs)
initials_so g scope [] h = refl
initials_so g scope (x ∷ xs) h =
    ap₂ (λ (vs ws : List InitialValue). vs ++ ws)
    (at_first_as g scope x (left_none (value_kinds scope x) (all_value_kinds scope xs) h))
    (initials_so g scope xs (right_none (value_kinds scope x) (all_value_kinds scope xs) h))
    ∙ sym (map-append (initial_as g) (at_first scope x (is_net_value scope x)) (declaration_initials scope xs))

pub initials_as : (g : ℕ → ℕ) (scope : Scope) (xs : List DeclaredValue) → declaration_faults scope xs ≡ []
    → declaration_initials (renumbered g scope) xs ≡ map (initial_as g) (declaration_initials scope xs)
initials_as g scope xs h = initials_so g scope xs (right_none (all_value_faults scope xs) (all_value_kinds scope xs) h)
