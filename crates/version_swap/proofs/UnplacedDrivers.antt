-- The drivers of bits without places: the same faults, and the same unit.
use Rattle.std.proofs.Common.{◌≡◌, ℕ, zero, suc, ◌||◌, nat_le, Bool, not, List, [], ◌∷◌, ◌++◌, map, length, Option, Some, None, refl, ◌∙◌, ap, ap₂}
use Rattle.std.proofs.Math.Path.{fun_ext}
use Rattle.std.specs.Option.{option_map}
use Rattle.ls_text.specs.declared.place.Place.{Place}
use Rattle.typed_ir.specs.Cycles.{Signal}
use Rattle.typed_ir.specs.Stmts.{SizedStmt}
use Rattle.typed_ir.specs.Valuations.{Places, nowhere}
use Rattle.typed_ir.specs.declared.mention.Mention.{Mention}
use Rattle.typed_ir.specs.declared.signal_declaration.SignalDeclaration.{SignalDeclaration}
use Rattle.typed_ir.specs.Items.{PlacedItem, PlacedItems, node_in, nodes_in, block_in, blocks_in, unit_of}
use Rattle.typed_ir.specs.Trees.{UnitNode, SizedUnit}
use Rattle.verilog_ast.specs.Places.{no_place}
use Rattle.block_rules.specs.Paths.{flags_of_block, unwritten, places_of_true}
use Rattle.driver_rules.specs.declared.shown.Shown.{Shown}
use Rattle.driver_rules.specs.Blocks.{first_declared, latched, path_faults, block_faults}
use Rattle.driver_rules.specs.Doubles.{doubles, double_faults}
use Rattle.driver_rules.specs.DriverFaults.{driver_faults}
use Rattle.driver_rules.specs.Mentioned.{shown_at, sooner, earliest, shown_faults}
use Rattle.driver_rules.specs.Targets.{block_names, is_settled, writer_of, may_write, all_target_faults}
use Rattle.driver_rules.specs.Writes.{spans_of, writes, written, blocks_of}
use Rattle.version_swap.specs.UnplacedFindings.{fault_unplaced, mention_unplaced, shown_unplaced, placed_unplaced, items_unplaced}
use Rattle.gen_unroll.proofs.MovedLists.{if_moved}
use Rattle.version_swap.proofs.UnplacedFaults.{both_so}

-- ---- the mention that is shown: the order of mentions is no place

shown_so : (at : Place) (ms : List Mention) (k : ℕ) → shown_at (map mention_unplaced ms) no_place k ≡ shown_unplaced (shown_at ms at k)
shown_so at [] k = refl
shown_so at (m ∷ ms) zero = refl
shown_so at (m ∷ ms) (suc k) = shown_so at ms k

sooner_so : (x y : Option Shown) → sooner (option_map shown_unplaced x) (option_map shown_unplaced y) ≡ option_map shown_unplaced (sooner x y)
sooner_so None y = refl
sooner_so (Some x) None = refl
sooner_so (Some x) (Some y) = if_moved (option_map shown_unplaced) (nat_le x.order y.order) (Some x) (Some y) _ _ refl refl

earliest_so : (ks : List ℕ) (ms : List Mention) (at : Place)
    → earliest ks (map mention_unplaced ms) no_place ≡ option_map shown_unplaced (earliest ks ms at)
earliest_so [] ms at = refl
earliest_so (k ∷ ks) ms at =
    ap₂ (λ (x : Shown) (y : Option Shown). sooner (Some x) y) (shown_so at ms k) (earliest_so ks ms at)
    ∙ sooner_so (Some (shown_at ms at k)) (earliest ks ms at)

shown_faults_so : (code : ℕ) (x : Option Shown) → shown_faults code (option_map shown_unplaced x) ≡ map fault_unplaced (shown_faults code x)
shown_faults_so code None = refl
shown_faults_so code (Some x) = refl

-- a fault at the earliest of some mentions
fault_so : (code : ℕ) (ks : List ℕ) (ms : List Mention) (at : Place)
    → shown_faults code (earliest ks (map mention_unplaced ms) no_place) ≡ map fault_unplaced (shown_faults code (earliest ks ms at))
fault_so code ks ms at = ap (shown_faults code) (earliest_so ks ms at) ∙ shown_faults_so code (earliest ks ms at)

-- ---- targets

settled_at : (items : List PlacedItem) (s : ℕ) → is_settled (map placed_unplaced items) s ≡ is_settled items s
settled_at [] s = refl
settled_at (x ∷ xs) s = ap (λ (b : Bool). block_names s (blocks_of x.body) || b) (settled_at xs s)

pub same_settled_by : (items : List PlacedItem) → is_settled (map placed_unplaced items) ≡ is_settled items
same_settled_by items = fun_ext (settled_at items)

target_faults_so : (ds : List SignalDeclaration) (settled : ℕ → Bool) (items : List PlacedItem)
    → all_target_faults ds settled (map placed_unplaced items) ≡ map fault_unplaced (all_target_faults ds settled items)
target_faults_so ds settled [] = refl
target_faults_so ds settled (x ∷ xs) =
    both_so _ _ _ _
    (fault_so 33 (places_of_true (map (λ s. not (may_write ds settled (writer_of x.body) s)) (written x.body))) x.targets x.at)
    (target_faults_so ds settled xs)

-- ---- bits that are driven twice

double_faults_so : (taken : Places) (items : List PlacedItem)
    → double_faults taken (map placed_unplaced items) ≡ map fault_unplaced (double_faults taken items)
double_faults_so taken [] = refl
double_faults_so taken (x ∷ xs) =
    both_so _ _ _ _ (fault_so 34 (places_of_true (doubles taken (writer_of x.body) (spans_of x.body))) x.targets x.at)
    (double_faults_so (λ s i. taken s i || writes x s i) xs)

-- ---- blocks

latched_so : (signals : List Signal) (at : Place) (s : Option ℕ) → latched signals no_place s ≡ map fault_unplaced (latched signals at s)
latched_so signals at None = refl
latched_so signals at (Some s) = refl

path_faults_so : (signals : List Signal) (ds : List SignalDeclaration) (x : PlacedItem) (sts : List SizedStmt)
    → path_faults signals ds (placed_unplaced x) sts ≡ map fault_unplaced (path_faults signals ds x sts)
path_faults_so signals ds x [] = refl
path_faults_so signals ds x (st ∷ sts) =
    both_so _ _ _ _
    (both_so _ _ _ _ (fault_so 36 (places_of_true (flags_of_block st)) x.reads x.at)
    (latched_so signals x.at (first_declared ds (unwritten st) (length ds))))
    (path_faults_so signals ds x sts)

block_faults_so : (signals : List Signal) (ds : List SignalDeclaration) (items : List PlacedItem)
    → block_faults signals ds (map placed_unplaced items) ≡ map fault_unplaced (block_faults signals ds items)
block_faults_so signals ds [] = refl
block_faults_so signals ds (x ∷ xs) = both_so _ _ _ _ (path_faults_so signals ds x (blocks_of x.body)) (block_faults_so signals ds xs)

-- ---- all of them

pub same_driver_faults : (p : PlacedItems) → driver_faults (items_unplaced p) ≡ map fault_unplaced (driver_faults p)
same_driver_faults p =
    both_so _ _ _ _
    (ap (λ (f : ℕ → Bool). all_target_faults p.declarations f (map placed_unplaced p.items)) (same_settled_by p.items)
    ∙ target_faults_so p.declarations (is_settled p.items) p.items)
    (both_so _ _ _ _ (double_faults_so nowhere p.items) (block_faults_so p.signals p.declarations p.items))

-- ---- the unit

nodes_so : (items : List PlacedItem) → nodes_in (map placed_unplaced items) ≡ nodes_in items
nodes_so [] = refl
nodes_so (x ∷ xs) = ap (λ (ns : List UnitNode). node_in x.body ++ ns) (nodes_so xs)

blocks_so : (items : List PlacedItem) → blocks_in (map placed_unplaced items) ≡ blocks_in items
blocks_so [] = refl
blocks_so (x ∷ xs) = ap (λ (bs : List SizedStmt). block_in x.body ++ bs) (blocks_so xs)

abbrev unit_with : PlacedItems → List UnitNode → List SizedStmt → SizedUnit
unit_with p nodes clocked = record { signals = p.signals; registers = p.registers; inputs = p.inputs; nodes = nodes; clocked = clocked }

pub same_unit : (p : PlacedItems) → unit_of (items_unplaced p) ≡ unit_of p
same_unit p =
    ap₂ (unit_with p) (nodes_so p.items) (blocks_so p.items)
