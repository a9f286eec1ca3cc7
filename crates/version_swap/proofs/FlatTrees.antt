-- What is linked from the units of modules is the flat design of the modules.
use Rattle.std.proofs.Common.{◌≡◌, ℕ, suc, ◌+◌, List, [], ◌∷◌, ◌++◌, length, refl, sym, ◌∙◌, ap, ap₂, arith}
use Rattle.std.proofs.lemmas.List.{append-nil, map-id}
use Rattle.ls_text.proofs.Lists.{same_map}
use Rattle.typed_ir.specs.Cycles.{Signal, Flat}
use Rattle.typed_ir.specs.Nodes.{FlatNode}
use Rattle.typed_ir.specs.Stmts.{SizedStmt}
use Rattle.typed_ir.specs.Trees as t
use Rattle.typed_ir.specs.Trees.{SizedUnit, Instances, Standing, signals_in, copied_out, signals_at, registers_at, nodes_at, blocks_at, top_inputs, flat_of_tree}
use Rattle.gen_unroll.specs.UnitLists.{data_inputs}
use Rattle.version_swap.specs.Copies.{ModuleCopy, Copies, Nothing, One, Where, inside, outside, from_each, SignalPlace, all_places, place_in}
use Rattle.version_swap.specs.Flat.{signals_of, registers_of, nodes_of, blocks_of, inputs_of, flat}
use Rattle.version_swap.specs.Units.{AreUnitsOf}
use Rattle.version_swap.proofs.Copied.{AreRenumbered, AreGiven, signals_given, registers_given, nodes_given, blocks_given, inputs_same}
use Rattle.version_swap.proofs.Kids.{unit_inside, unit_behind}
use Rattle.version_swap.proofs.Places.{IsStanding, stands_at}

-- ---- what all copies give, side by side with what all units give

each_given : {A : Type 0} (own : Where → ModuleCopy → List A) (there : Standing → SizedUnit → List A) (all : List SignalPlace)
    → AreGiven own there all
    → (w : Where) (k first : ℕ) (copies : Copies) (tree : Instances) → AreRenumbered copies → AreUnitsOf copies tree → IsStanding all w k first copies
    → from_each own w k copies ≡ copied_out there w.path first tree
each_given own there all given w k first Nothing t.Nothing laws are stands = refl
each_given own there all given w k first Nothing (t.One name u inner later) laws are stands = absurd are
each_given own there all given w k first (One c within after) t.Nothing laws are stands = absurd are
each_given own there all given w k first (One c within after) (t.One name u inner later) laws are stands =
    let second = first + length u.signals in
    ap₂ (λ xs ys. xs ++ ys) (given w k first c within after name u inner laws.0 are.0 are.1.0 stands)
    (ap₂ (λ xs ys. xs ++ ys)
    (each_given own there all given (inside w k c) 0 second within inner laws.1.0 are.1.0
    (unit_inside all w k first c within after name u are.0 stands)
    ∙ ap (λ n. copied_out there (w.path ++ n ∷ []) second inner) (sym are.0.called))
    (each_given own there all given w (suc k) (second + signals_in inner) after later laws.1.1 are.1.1
    (unit_behind all w k first c within after name u inner are.0 are.1.0 stands)))

-- ---- the top

pub stands_all : (copies : Copies) → IsStanding (all_places copies) outside 0 0 copies
stands_all copies = record {
  before = [];
  behind = [];
  all_are = sym (append-nil (all_places copies));
  many = refl;
  free = λ j ys h. tt;
}

inputs_are : (all : List SignalPlace) (copies : Copies) (tree : Instances) → AreUnitsOf copies tree → IsStanding all outside 0 0 copies
    → inputs_of all copies ≡ top_inputs tree
inputs_are all Nothing t.Nothing are stands = refl
inputs_are all Nothing (t.One name u inner later) are stands = absurd are
inputs_are all (One c within after) t.Nothing are stands = absurd are
inputs_are all (One c within after) (t.One name u inner later) are stands =
    inputs_same c.clock c.table.signals (place_in all (0 ∷ [])) (λ s. 0 + s) (stands_at all outside 0 0 c within after stands)
    ∙ same_map (λ s. 0 + s) (λ s. s) (λ s. omega arith) (data_inputs c.clock c.table.signals)
    ∙ map-id (data_inputs c.clock c.table.signals)
    ∙ ap (λ (v : SizedUnit). v.inputs) (sym are.0.made)

-- ---- all of it

abbrev flat_of : List Signal → (registers inputs : List ℕ) → List FlatNode → List SizedStmt → Flat
flat_of signals registers inputs nodes clocked = record {
  signals = signals;
  registers = registers;
  inputs = inputs;
  nodes = nodes;
  clocked = clocked;
}

flats_same : (a b : Flat) → a.signals ≡ b.signals → a.registers ≡ b.registers → a.inputs ≡ b.inputs → a.nodes ≡ b.nodes → a.clocked ≡ b.clocked
    → a ≡ b
flats_same a b signals registers inputs nodes clocked =
    ap₂ (λ (x : List Signal) (y : List ℕ). flat_of x y a.inputs a.nodes a.clocked) signals registers
    ∙ ap₂ (λ (x : List ℕ) (y : List FlatNode). flat_of b.signals b.registers x y a.clocked) inputs nodes
    ∙ ap (λ (x : List SizedStmt). flat_of b.signals b.registers b.inputs b.nodes x) clocked

pub tree_is_flat : (copies : Copies) (tree : Instances) → AreRenumbered copies → AreUnitsOf copies tree → flat_of_tree tree ≡ flat copies
unfolding flat
tree_is_flat copies tree laws are =
    let all = all_places copies in
    let stands = stands_all copies in
    sym (flats_same (flat copies) (flat_of_tree tree)
    (each_given signals_of signals_at all (signals_given all) outside 0 0 copies tree laws are stands)
    (each_given (registers_of all) registers_at all (registers_given all) outside 0 0 copies tree laws are stands)
    (inputs_are all copies tree are stands)
    (each_given (nodes_of all) nodes_at all (nodes_given all) outside 0 0 copies tree laws are stands)
    (each_given (blocks_of all) blocks_at all (blocks_given all) outside 0 0 copies tree laws are stands))
