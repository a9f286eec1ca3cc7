-- What all units give where they stand makes the flat design of their tree, and such a design keeps what it has to.
use Rattle.std.proofs.Common.{◌≡◌, ℕ, suc, ◌-◌, ◌<◌, ◌^◌, true, ◌&&◌, nat_lt, nat_le, List, [], ◌∷◌, ◌++◌, map, length, None, Global, Vec, refl, sym, ◌∙◌, ap, subst, lt-ltb, leb-true, arith}
use Rattle.std.specs.declared.sync.Arc.{Arc}
use Rattle.std.proofs.Math.Logic.{∥∥₁_elim, ∥∥₁_prop}
use Rattle.std.proofs.lemmas.Bool.{and_from}
use Rattle.std.proofs.lemmas.List.{length-map}
use Rattle.typed_ir.specs.declared.instance_name.InstanceName.{InstanceName}
use Rattle.typed_ir.specs.declared.signal.Signal.{Signal as Signal'}
use Rattle.typed_ir.specs.declared.node.Node.{Node}
use Rattle.typed_ir.specs.declared.stmt.Stmt.{Stmt}
use Rattle.typed_ir.specs.Cycles.{Signal, Flat}
use Rattle.typed_ir.specs.FlatNodes.{node_of}
use Rattle.typed_ir.specs.Flats.{signal_of, signal_widths, flat_from, are_clocked, are_below, are_within, IsFlat}
use Rattle.typed_ir.specs.Nodes.{FlatNode, are_legal}
use Rattle.typed_ir.specs.Orders.{Each}
use Rattle.typed_ir.specs.Statements.{stmt_of}
use Rattle.typed_ir.specs.Stmts.{SizedStmt, is_legal, is_clocked}
use Rattle.typed_ir.specs.Rows.{row_in}
use Rattle.typed_ir.proofs.Widths.{widths_stay}
use Rattle.typed_ir.specs.declared.instance.Instance.{Instance}
use Rattle.typed_ir.specs.declared.unit.Unit.{Unit as Unit'}
use Rattle.typed_ir.specs.declared.unit_parts.UnitParts.{UnitParts}
use Rattle.typed_ir.specs.Instances.{parent_of, is_depth_first}
use Rattle.typed_ir.specs.Shapes.{AreOf}
use Rattle.typed_ir.specs.Trees.{Instances, Nothing, One, is_legal_block, flat_of_tree, top_inputs, copied_out, signals_at, registers_at, nodes_at, blocks_at}
use Rattle.typed_ir.proofs.Linking.{flat_sound}
use Rattle.typed_ir.proofs.UnitWidths.{flat_legal, flat_clocked, flat_registers, flat_inputs}
use Rattle.link.specs.Copies.{all_sized, copied_from, first_inputs, kids_in, nodes_in, path_at, places_of}
use Rattle.link.specs.Listings.{Entry, entries_of, instances_in, IsTreeOf, all_parts}
use Rattle.link.proofs.Copied.{units_within, listed_long, copied_all, nodes_counted}
use Rattle.link.proofs.Forests.{tree_of}
use Rattle.link.proofs.Paths.{HasPaths, has_paths, row_of}
use Rattle.link.proofs.Sound.{IsGood, all_good, same_long, tree_units, tree_well}

-- ---- signals name instances that are there

pub within_more : (old : List Signal') (x : Signal') (count : ℕ) → x.instance < count → are_within (old ++ x ∷ []) count ≡ are_within old count
within_more [] x count h = ap (λ b. b && true) (lt-ltb x.instance count h)
within_more (y ∷ ys) x count h = ap (λ b. nat_lt y.instance count && b) (within_more ys x count h)

-- ---- the rows of the table

rows_are : (xs : List Instance) (us : List UnitParts) → length us ≡ length xs → map row_of (entries_of xs us) ≡ places_of xs
rows_are [] us h = refl
rows_are (x ∷ xs) [] h = absurd (omega (arith, h))
rows_are (x ∷ xs) (u ∷ us) h = ap (λ zs. x.place ∷ zs) (rows_are xs us (omega (arith, h)))

entries_long : (xs : List Instance) (us : List UnitParts) → length us ≡ length xs → length (entries_of xs us) ≡ length xs
entries_long [] us h = refl
entries_long (x ∷ xs) [] h = absurd (omega (arith, h))
entries_long (x ∷ xs) (u ∷ us) h = ap suc (entries_long xs us (omega (arith, h)))

tree_long : (xs : List Instance) (us : List UnitParts) (t : Instances) → length us ≡ length xs → IsTreeOf xs us t → instances_in t ≡ length xs
tree_long xs us t long is = sym (listed_long None 0 t) ∙ ap (λ (es : List Entry). length es) is ∙ entries_long xs us long

tree_paths : (xs : List Instance) (us : List UnitParts) (t : Instances) (rows : List InstanceName) → length us ≡ length xs → IsTreeOf xs us t → rows ≡ places_of xs
    → HasPaths (path_at rows) [] 0 t
tree_paths xs us t rows long is rows_is =
    subst (λ (zs : List InstanceName). HasPaths (path_at zs) [] 0 t) (ap (map row_of) is ∙ rows_are xs us long ∙ sym rows_is) (has_paths t)

inputs_are : (t : Instances) → first_inputs (units_within t) ≡ top_inputs t
inputs_are Nothing = refl
inputs_are (One name u within after) = refl

-- ---- what is there at the end

-- what the code has made of the instances and their units
pub record Given (xs : List Instance) (units : List (Arc Unit' Global)) (rows : List InstanceName) (kids : List (Vec ℕ Global))
    (signals : List Signal') (registers inputs : List ℕ) (nodes : List Node) (clocked : List Stmt) : Type 0 where
  pub are : AreOf xs 0 xs (all_parts units)
  pub first : is_depth_first (map parent_of xs) ≡ true
  pub rows_is : rows ≡ places_of xs
  pub kids_is : (k : ℕ) → k < length xs → row_in kids k ≡ kids_in k 0 (entries_of xs (all_parts units))
  pub few : nat_le (nodes_in (all_sized (all_parts units))) (2 ^ 32 - 1) ≡ true
  pub signals_is : (rows : List InstanceName) → map (signal_of rows) signals ≡ copied_from signals_at (path_at rows) (row_in kids) 0 0 (all_sized (all_parts units))
  pub there : are_within signals (length units) ≡ true
  pub registers_is : (path : ℕ → List ℕ) → registers ≡ copied_from registers_at path (row_in kids) 0 0 (all_sized (all_parts units))
  pub inputs_is : inputs ≡ first_inputs (all_sized (all_parts units))
  pub nodes_is : (path : ℕ → List ℕ) → map node_of nodes ≡ copied_from nodes_at path (row_in kids) 0 0 (all_sized (all_parts units))
  pub clocked_is : (path : ℕ → List ℕ) → map stmt_of clocked ≡ copied_from blocks_at path (row_in kids) 0 0 (all_sized (all_parts units))

abbrev flat_with : List Signal → List ℕ → List ℕ → List FlatNode → List SizedStmt → Flat
flat_with signals registers inputs nodes clocked = record { signals = signals; registers = registers; inputs = inputs; nodes = nodes; clocked = clocked }

-- ---- one tree

module _ {xs : List Instance} {units : List (Arc Unit' Global)} {rows : List InstanceName} {kids : List (Vec ℕ Global)}
    {signals : List Signal'} {registers inputs : List ℕ} {nodes : List Node} {clocked : List Stmt} where
  pub long : Given xs units rows kids signals registers inputs nodes clocked → length (all_parts units) ≡ length xs
  long g = same_long xs 0 xs (all_parts units) g.are

  from_units : Given xs units rows kids signals registers inputs nodes clocked → (t : Instances) → IsTreeOf xs (all_parts units) t
      → {A : Type 0} (own : _) (zs : List A) → zs ≡ copied_from own (path_at rows) (row_in kids) 0 0 (all_sized (all_parts units)) → zs ≡ copied_out own [] 0 t
  from_units g t is own zs e =
      e ∙ ap (copied_from own (path_at rows) (row_in kids) 0 0) (sym (tree_units xs (all_parts units) t (long g) is))
      ∙ copied_all own (path_at rows) (row_in kids) t (tree_paths xs (all_parts units) t rows (long g) is g.rows_is)
      (λ i h. g.kids_is i (omega (arith, h, tree_long xs (all_parts units) t (long g) is)) ∙ ap (kids_in i 0) (sym is))

  pub flat_is : Given xs units rows kids signals registers inputs nodes clocked → (t : Instances) → IsTreeOf xs (all_parts units) t
      → flat_from rows signals registers inputs nodes clocked ≡ flat_of_tree t
  flat_is g t is =
      ap (λ zs. flat_with zs registers inputs (map node_of nodes) (map stmt_of clocked)) (from_units g t is signals_at (map (signal_of rows) signals) (g.signals_is rows))
      ∙ ap (λ zs. flat_with (copied_out signals_at [] 0 t) zs inputs (map node_of nodes) (map stmt_of clocked)) (from_units g t is registers_at registers (g.registers_is (path_at rows)))
      ∙ ap (λ zs. flat_with (copied_out signals_at [] 0 t) (copied_out registers_at [] 0 t) zs (map node_of nodes) (map stmt_of clocked))
      (g.inputs_is ∙ ap first_inputs (sym (tree_units xs (all_parts units) t (long g) is)) ∙ inputs_are t)
      ∙ ap (λ zs. flat_with (copied_out signals_at [] 0 t) (copied_out registers_at [] 0 t) (top_inputs t) zs (map stmt_of clocked))
      (from_units g t is nodes_at (map node_of nodes) (g.nodes_is (path_at rows)))
      ∙ ap (λ zs. flat_with (copied_out signals_at [] 0 t) (copied_out registers_at [] 0 t) (top_inputs t) (copied_out nodes_at [] 0 t) zs)
      (from_units g t is blocks_at (map stmt_of clocked) (g.clocked_is (path_at rows)))

-- how many nodes the design of a tree has
pub nodes_of_tree : (xs : List Instance) (us : List UnitParts) (t : Instances) → length us ≡ length xs → IsTreeOf xs us t
    → length (flat_of_tree t).nodes ≡ nodes_in (all_sized us)
nodes_of_tree xs us t long is = nodes_counted t ∙ ap nodes_in (tree_units xs us t long is)

-- ---- tests of lists

clocked_all : (ws : List ℕ) (sts : List Stmt) → Each (λ st. is_legal_block ws st ≡ true) (map stmt_of sts) → are_clocked sts ws ≡ true
clocked_all ws [] all = refl
clocked_all ws (st ∷ sts) all = and_from (is_legal (stmt_of st) ws && is_clocked (stmt_of st)) (are_clocked sts ws) all.0 (clocked_all ws sts all.1)

below_all : (n : ℕ) (ss : List ℕ) → Each (λ s. s < n) ss → are_below ss n ≡ true
below_all n [] all = refl
below_all n (s ∷ ss) all = and_from (nat_lt s n) (are_below ss n) (lt-ltb s n all.0) (below_all n ss all.1)

-- ---- what the design keeps

pub record Keeps (rows : List InstanceName) (signals : List Signal') (registers inputs : List ℕ) (nodes : List Node) (clocked : List Stmt) : Type 0 where
  pub legal : are_legal (map node_of nodes) (signal_widths signals) ≡ true
  pub blocks : are_clocked clocked (signal_widths signals) ≡ true
  pub registers_there : are_below registers (length signals) ≡ true
  pub inputs_there : are_below inputs (length signals) ≡ true
  pub sound : IsFlat (flat_from rows signals registers inputs nodes clocked)

keeps_by : (xs : List Instance) (units : List (Arc Unit' Global)) (rows : List InstanceName) (kids : List (Vec ℕ Global))
    (signals : List Signal') (registers inputs : List ℕ) (nodes : List Node) (clocked : List Stmt)
    → Given xs units rows kids signals registers inputs nodes clocked → Each IsGood (all_parts units) → Keeps rows signals registers inputs nodes clocked
keeps_by xs units rows kids signals registers inputs nodes clocked g good =
    let us = all_parts units in
    let found = tree_of xs us g.first (long g) in
    let t = found.tree in
    let well = tree_well xs us t g.are good found.is in
    let is : flat_from rows signals registers inputs nodes clocked ≡ flat_of_tree t = flat_is g t found.is in
    let count : length (map (signal_of rows) signals) ≡ length signals = length-map signals (signal_of rows) in
    record {
      legal = subst (λ ws. are_legal (map node_of nodes) ws ≡ true) (widths_stay rows signals)
          (subst (λ (d : Flat). are_legal d.nodes (map (λ (x : Signal). x.width) d.signals) ≡ true) (sym is) (flat_legal t well.1));
      blocks = clocked_all (signal_widths signals) clocked
          (subst (λ ws. Each (λ st. is_legal_block ws st ≡ true) (map stmt_of clocked)) (widths_stay rows signals)
          (subst (λ (d : Flat). Each (λ st. is_legal_block (map (λ (x : Signal). x.width) d.signals) st ≡ true) d.clocked) (sym is) (flat_clocked t well.1)));
      registers_there = below_all (length signals) registers (subst (λ n. Each (λ s. s < n) registers) count
          (subst (λ (d : Flat). Each (λ s. s < length d.signals) d.registers) (sym is) (flat_registers t well.0)));
      inputs_there = below_all (length signals) inputs (subst (λ n. Each (λ s. s < n) inputs) count
          (subst (λ (d : Flat). Each (λ s. s < length d.signals) d.inputs) (sym is) (flat_inputs t well.0)));
      sound = subst IsFlat (sym is) (flat_sound t well.0);
    }

pub keeps : {xs : List Instance} {units : List (Arc Unit' Global)} {rows : List InstanceName} {kids : List (Vec ℕ Global)}
    {signals : List Signal'} {registers inputs : List ℕ} {nodes : List Node} {clocked : List Stmt}
    → Given xs units rows kids signals registers inputs nodes clocked → ∥ Keeps rows signals registers inputs nodes clocked ∥₁
keeps {xs = xs} {units = units} {rows = rows} {kids = kids} {signals = signals} {registers = registers} {inputs = inputs} {nodes = nodes} {clocked = clocked} g =
    ∥∥₁_elim (all_good units) ∥∥₁_prop (λ good. ∣ keeps_by xs units rows kids signals registers inputs nodes clocked g good ∣₁)

pub few_nodes : {xs : List Instance} {units : List (Arc Unit' Global)} {rows : List InstanceName} {kids : List (Vec ℕ Global)}
    {signals : List Signal'} {registers inputs : List ℕ} {nodes : List Node} {clocked : List Stmt}
    → Given xs units rows kids signals registers inputs nodes clocked → length nodes < 2 ^ 32
few_nodes {xs = xs} {units = units} {rows = rows} {signals = signals} {registers = registers} {inputs = inputs} {nodes = nodes} {clocked = clocked} g =
    let found = tree_of xs (all_parts units) g.first (long g) in
    let t = found.tree in
    let same : length (map node_of nodes) ≡ nodes_in (all_sized (all_parts units)) =
    ap (λ (d : Flat). length d.nodes) (flat_is g t found.is) ∙ nodes_of_tree xs (all_parts units) t (long g) found.is in
    omega (arith, same, length-map nodes node_of, leb-true (nodes_in (all_sized (all_parts units))) (2 ^ 32 - 1) g.few)

pub signals_there : {xs : List Instance} {units : List (Arc Unit' Global)} {rows : List InstanceName} {kids : List (Vec ℕ Global)}
    {signals : List Signal'} {registers inputs : List ℕ} {nodes : List Node} {clocked : List Stmt}
    → Given xs units rows kids signals registers inputs nodes clocked → are_within signals (length rows) ≡ true
signals_there {xs = xs} {units = units} {rows = rows} {signals = signals} g =
    let same : length units ≡ length rows =
    sym (length-map units _) ∙ long g ∙ sym (length-map xs _) ∙ ap (λ (zs : List InstanceName). length zs) (sym g.rows_is) in
    ap (are_within signals) (sym same) ∙ g.there
