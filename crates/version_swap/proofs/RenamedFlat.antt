-- The flat design of copies under other names is that of the copies under these names (IEEE 1364-2005, 12.1.2, 12.3.9 and 12.4).
use Rattle.std.proofs.Common.{◌≡◌, ℕ, suc, Bool, List, [], ◌∷◌, ◌++◌, map, refl, sym, ◌∙◌, ap, ap₂}
use Rattle.std.proofs.Math.Path.{fun_ext}
use Rattle.std.proofs.lemmas.List.{map-append}
use Rattle.ls_text.specs.declared.name_id.NameId.{NameId}
use Rattle.typed_ir.specs.Cycles.{Signal, Flat}
use Rattle.typed_ir.specs.Nodes.{FlatNode}
use Rattle.typed_ir.specs.Stmts.{SizedStmt}
use Rattle.typed_ir.specs.Items.{PlacedItem, nodes_in, blocks_in}
use Rattle.typed_ir.specs.Trees.{UnitNode, Own, Into, From, signal_there}
use Rattle.driver_rules.specs.Targets.{is_settled as is_settled_by}
use Rattle.statement_rules.specs.DeclaredValues.{InitialValue}
use Rattle.gen_unroll.specs.Signals.{NamedSignal}
use Rattle.gen_unroll.specs.UnitLists.{unit_signals, registers}
use Rattle.unit_build.specs.Building.{with_initials}
use Rattle.elaborate.specs.Renaming.{KeepsApart, number_as}
use Rattle.gen_unroll.proofs.MovedLists.{append_so}
use Rattle.version_swap.specs.RenamedFindings.{signal_as, table_as, placed_as, unit_signal_as}
use Rattle.version_swap.proofs.RenamedBuilt.{same_begun}
use Rattle.version_swap.proofs.RenamedDrivers.{same_settled_by, nodes_so, blocks_so}
use Rattle.version_swap.proofs.RenamedTables.{same_inputs, same_registers}
use Rattle.version_swap.specs.Copies.{ModuleCopy, Copies, Nothing, One, Where, inside, outside, from_each, SignalPlace, places_from, own_places, all_places, place_in}
use Rattle.version_swap.specs.Flat.{own_items, items_at, joined, signals_of, registers_of, nodes_of, blocks_of, inputs_of, flat_with, flat}
use Rattle.version_swap.specs.FlatRenaming.{copy_as, copies_as, flat_as}
use Rattle.version_swap.proofs.RenamedCopiedItems.{where_as, same_own_items, initials_in, same_initials_in, same_items_at}

-- ---- what each copy gives

inside_so : (f : NameId → NameId) (w : Where) (k : ℕ) (c : ModuleCopy)
    → inside (where_as (number_as f) w) k (copy_as f c) ≡ where_as (number_as f) (inside w k c)
inside_so f w k c =
    ap (λ (path : List ℕ). record { at = w.at ++ k ∷ []; path = path }) (sym (map-append (number_as f) w.path (c.name ∷ [])))

each_so : {A : Type 0} (f : NameId → NameId) (moved : A → A) (own : Where → ModuleCopy → List A)
    → ((w : Where) (c : ModuleCopy) → own (where_as (number_as f) w) (copy_as f c) ≡ map moved (own w c)) → (w : Where) (k : ℕ) (copies : Copies)
    → from_each own (where_as (number_as f) w) k (copies_as f copies) ≡ map moved (from_each own w k copies)
each_so f moved own is w k Nothing = refl
each_so f moved own is w k (One c within after) =
    ap (λ (v : Where). own v (copy_as f c)
    ++ (from_each own v 0 (copies_as f within) ++ from_each own (where_as (number_as f) w) (suc k) (copies_as f after))) (inside_so f w k c)
    ∙ append_so moved _ _ _ _ (is (inside w k c) c)
    (append_so moved _ _ _ _ (each_so f moved own is (inside w k c) 0 within) (each_so f moved own is w (suc k) after))

-- what has no names
plain_so : {A : Type 0} (f : NameId → NameId) (own : Where → ModuleCopy → List A)
    → ((w : Where) (c : ModuleCopy) → own (where_as (number_as f) w) (copy_as f c) ≡ own w c) → (w : Where) (k : ℕ) (copies : Copies)
    → from_each own (where_as (number_as f) w) k (copies_as f copies) ≡ from_each own w k copies
plain_so f own is w k Nothing = refl
plain_so {A} f own is w k (One c within after) =
    ap (λ (v : Where). own v (copy_as f c)
    ++ (from_each own v 0 (copies_as f within) ++ from_each own (where_as (number_as f) w) (suc k) (copies_as f after))) (inside_so f w k c)
    ∙ ap₂ (λ (xs ys : List A). xs ++ ys) (is (inside w k c) c)
    (ap₂ (λ (xs ys : List A). xs ++ ys) (plain_so f own is (inside w k c) 0 within) (plain_so f own is w (suc k) after))

-- ---- the places of signals

places_so : (f : NameId → NameId) (at : List ℕ) (k : ℕ) (xs : List NamedSignal) → places_from at k (map (signal_as f) xs) ≡ places_from at k xs
places_so f at k [] = refl
places_so f at k (x ∷ xs) = ap (λ (ps : List SignalPlace). record { at = at; signal = k } ∷ ps) (places_so f at (suc k) xs)

all_places_so : (f : NameId → NameId) (copies : Copies) → all_places (copies_as f copies) ≡ all_places copies
all_places_so f copies = plain_so f own_places (λ w c. places_so f w.at 0 c.table.signals) outside 0 copies

-- ---- signals, each with the path of its copy

signal_so : (f : NameId → NameId) (path : List ℕ) (x : Signal)
    → signal_there (map (number_as f) path) (unit_signal_as f x) ≡ unit_signal_as f (signal_there path x)
signal_so f path x =
    ap (λ (p : List ℕ). record {
      in_module = number_as f x.in_module;
      path = p;
      lsb = x.lsb;
      signed = x.signed;
      width = x.width;
      initial = x.initial;
    }) (sym (map-append (number_as f) path x.path))

there_so : (f : NameId → NameId) (path : List ℕ) (xs : List Signal)
    → map (signal_there (map (number_as f) path)) (map (unit_signal_as f) xs) ≡ map (unit_signal_as f) (map (signal_there path) xs)
there_so f path [] = refl
there_so f path (x ∷ xs) = ap₂ (λ (y : Signal) (ys : List Signal). y ∷ ys) (signal_so f path x) (there_so f path xs)

signals_so : (f : NameId → NameId) (w : Where) (c : ModuleCopy) → KeepsApart f
    → signals_of (where_as (number_as f) w) (copy_as f c) ≡ map (unit_signal_as f) (signals_of w c)
signals_so f w c apart =
    ap (λ (vs : List InitialValue). map (signal_there (map (number_as f) w.path))
    (with_initials vs (unit_signals (number_as f c.declaration.name.name.0) (map f c.names) (map (signal_as f) c.table.signals))))
    (same_initials_in f c apart)
    ∙ ap (map (signal_there (map (number_as f) w.path)))
    (same_begun f c.declaration.name.name.0 c.names c.table.signals (initials_in c))
    ∙ there_so f w.path (with_initials (initials_in c) (unit_signals c.declaration.name.name.0 c.names c.table.signals))

-- ---- registers, nodes and blocks have numbers alone

registers_so : (f : NameId → NameId) (all : List SignalPlace) (w : Where) (c : ModuleCopy) → KeepsApart f
    → registers_of all (where_as (number_as f) w) (copy_as f c) ≡ registers_of all w c
registers_so f all w c apart =
    ap (map (place_in all w.at))
    (ap (λ (settled : ℕ → Bool). registers settled (table_as f c.table))
    (ap is_settled_by (same_own_items f c apart) ∙ same_settled_by f (own_items c))
    ∙ same_registers f (is_settled_by (own_items c)) c.table)

joined_so : (number : ℕ → ℕ) (all : List SignalPlace) (w : Where) (n : UnitNode) → joined all (where_as number w) n ≡ joined all w n
joined_so number all w (Own node) = refl
joined_so number all w (Into k form lanes e) = refl
joined_so number all w (From k form lanes e) = refl

of_nodes_so : (f : NameId → NameId) (all : List SignalPlace) (w : Where) (c : ModuleCopy) → KeepsApart f
    → nodes_of all (where_as (number_as f) w) (copy_as f c) ≡ nodes_of all w c
of_nodes_so f all w c apart =
    ap₂ (λ (join : UnitNode → FlatNode) (ns : List UnitNode). map join ns) (fun_ext (joined_so (number_as f) all w))
    (ap nodes_in (same_items_at f all (number_as f) w c apart) ∙ nodes_so f (items_at all w c))

of_blocks_so : (f : NameId → NameId) (all : List SignalPlace) (w : Where) (c : ModuleCopy) → KeepsApart f
    → blocks_of all (where_as (number_as f) w) (copy_as f c) ≡ blocks_of all w c
of_blocks_so f all w c apart = ap blocks_in (same_items_at f all (number_as f) w c apart) ∙ blocks_so f (items_at all w c)

inputs_so : (f : NameId → NameId) (all : List SignalPlace) (copies : Copies) → KeepsApart f
    → inputs_of all (copies_as f copies) ≡ inputs_of all copies
inputs_so f all Nothing apart = refl
inputs_so f all (One c within after) apart = ap (map (place_in all (0 ∷ []))) (same_inputs f c.clock c.table.signals apart)

-- ---- all of it

abbrev flat_made : List Signal → List ℕ → List ℕ → List FlatNode → List SizedStmt → Flat
flat_made signals registers inputs nodes clocked =
    record { signals = signals; registers = registers; inputs = inputs; nodes = nodes; clocked = clocked }

made_so : (a b : Flat) → a.signals ≡ b.signals → a.registers ≡ b.registers → a.inputs ≡ b.inputs → a.nodes ≡ b.nodes → a.clocked ≡ b.clocked → a ≡ b
made_so a b signals registers inputs nodes clocked =
    ap₂ (λ (ss : List Signal) (rs : List ℕ). flat_made ss rs a.inputs a.nodes a.clocked) signals registers
    ∙ ap₂ (λ (is : List ℕ) (ns : List FlatNode). flat_made b.signals b.registers is ns a.clocked) inputs nodes
    ∙ ap (flat_made b.signals b.registers b.inputs b.nodes) clocked

with_so : (f : NameId → NameId) (all : List SignalPlace) (copies : Copies) → KeepsApart f
    → flat_with all (copies_as f copies) ≡ flat_as f (flat_with all copies)
with_so f all copies apart =
    made_so (flat_with all (copies_as f copies)) (flat_as f (flat_with all copies))
    (each_so f (unit_signal_as f) signals_of (λ w c. signals_so f w c apart) outside 0 copies)
    (plain_so f (registers_of all) (λ w c. registers_so f all w c apart) outside 0 copies)
    (inputs_so f all copies apart)
    (plain_so f (nodes_of all) (λ w c. of_nodes_so f all w c apart) outside 0 copies)
    (plain_so f (blocks_of all) (λ w c. of_blocks_so f all w c apart) outside 0 copies)

pub same_flat : (f : NameId → NameId) (copies : Copies) → KeepsApart f → flat (copies_as f copies) ≡ flat_as f (flat copies)
unfolding flat
same_flat f copies apart =
    ap (λ (all : List SignalPlace). flat_with all (copies_as f copies)) (all_places_so f copies) ∙ with_so f (all_places copies) copies apart
