-- The drivers of bits under other names: the same faults with their other names, and the same unit.
use Rattle.std.proofs.Common.{◌≡◌, ℕ, zero, suc, ◌||◌, nat_le, Bool, not, List, [], ◌∷◌, ◌++◌, map, length, Option, Some, None, option_to_list, refl, ◌∙◌, ap, ap₂}
use Rattle.std.proofs.Math.Path.{fun_ext}
use Rattle.std.specs.Option.{option_map}
use Rattle.ls_text.specs.declared.name_id.NameId.{NameId}
use Rattle.ls_text.specs.declared.place.Place.{Place}
use Rattle.typed_ir.specs.Cycles.{Signal}
use Rattle.typed_ir.specs.Stmts.{SizedStmt}
use Rattle.typed_ir.specs.Valuations.{Places, nowhere}
use Rattle.typed_ir.specs.declared.mention.Mention.{Mention}
use Rattle.typed_ir.specs.declared.signal_declaration.SignalDeclaration.{SignalDeclaration}
use Rattle.typed_ir.specs.Items.{PlacedItem, PlacedItems, node_in, nodes_in, block_in, blocks_in, unit_of}
use Rattle.typed_ir.specs.Trees.{UnitNode, SizedUnit}
use Rattle.width_rules.specs.Faults.{fault}
use Rattle.width_rules.specs.Renaming.{fault_as}
use Rattle.width_rules.proofs.RenamedFaults.{both_so}
use Rattle.block_rules.specs.Paths.{flags_of_block, unwritten, places_of_true}
use Rattle.driver_rules.specs.declared.shown.Shown.{Shown}
use Rattle.driver_rules.specs.Blocks.{first_declared, first_of, name_at, latched, path_faults, block_faults}
use Rattle.driver_rules.specs.Doubles.{doubles, double_faults}
use Rattle.driver_rules.specs.DriverFaults.{driver_faults}
use Rattle.driver_rules.specs.Mentioned.{shown_at, sooner, earliest, shown_faults}
use Rattle.driver_rules.specs.Targets.{block_names, is_settled, writer_of, may_write, all_target_faults}
use Rattle.driver_rules.specs.Writes.{spans_of, writes, written, blocks_of}
use Rattle.elaborate.specs.Renaming.{number_as}
use Rattle.gen_unroll.proofs.MovedLists.{if_moved}
use Rattle.version_swap.specs.RenamedFindings.{mention_as, shown_as, placed_as, unit_signal_as, items_as, unit_as}

-- ---- the mention that is shown: the order of mentions is no name

shown_so : (f : NameId → NameId) (at : Place) (ms : List Mention) (k : ℕ) → shown_at (map (mention_as f) ms) at k ≡ shown_as f (shown_at ms at k)
shown_so f at [] k = refl
shown_so f at (m ∷ ms) zero = refl
shown_so f at (m ∷ ms) (suc k) = shown_so f at ms k

sooner_so : (f : NameId → NameId) (x y : Option Shown)
    → sooner (option_map (shown_as f) x) (option_map (shown_as f) y) ≡ option_map (shown_as f) (sooner x y)
sooner_so f None y = refl
sooner_so f (Some x) None = refl
sooner_so f (Some x) (Some y) = if_moved (option_map (shown_as f)) (nat_le x.order y.order) (Some x) (Some y) _ _ refl refl

earliest_so : (f : NameId → NameId) (ks : List ℕ) (ms : List Mention) (at : Place)
    → earliest ks (map (mention_as f) ms) at ≡ option_map (shown_as f) (earliest ks ms at)
earliest_so f [] ms at = refl
earliest_so f (k ∷ ks) ms at =
    ap₂ (λ (x : Shown) (y : Option Shown). sooner (Some x) y) (shown_so f at ms k) (earliest_so f ks ms at)
    ∙ sooner_so f (Some (shown_at ms at k)) (earliest ks ms at)

name_list_so : (f : NameId → NameId) (n : Option NameId) → option_to_list (option_map f n) ≡ map f (option_to_list n)
name_list_so f None = refl
name_list_so f (Some n) = refl

shown_faults_so : (f : NameId → NameId) (code : ℕ) (x : Option Shown)
    → shown_faults code (option_map (shown_as f) x) ≡ map (fault_as f) (shown_faults code x)
shown_faults_so f code None = refl
shown_faults_so f code (Some x) = ap (λ (ns : List NameId). fault code x.at ns ∷ []) (name_list_so f x.name)

-- a fault at the earliest of some mentions
fault_so : (f : NameId → NameId) (code : ℕ) (ks : List ℕ) (ms : List Mention) (at : Place)
    → shown_faults code (earliest ks (map (mention_as f) ms) at) ≡ map (fault_as f) (shown_faults code (earliest ks ms at))
fault_so f code ks ms at = ap (shown_faults code) (earliest_so f ks ms at) ∙ shown_faults_so f code (earliest ks ms at)

-- ---- targets

settled_at : (f : NameId → NameId) (items : List PlacedItem) (s : ℕ) → is_settled (map (placed_as f) items) s ≡ is_settled items s
settled_at f [] s = refl
settled_at f (x ∷ xs) s = ap (λ (b : Bool). block_names s (blocks_of x.body) || b) (settled_at f xs s)

pub same_settled_by : (f : NameId → NameId) (items : List PlacedItem) → is_settled (map (placed_as f) items) ≡ is_settled items
same_settled_by f items = fun_ext (settled_at f items)

target_faults_so : (f : NameId → NameId) (ds : List SignalDeclaration) (settled : ℕ → Bool) (items : List PlacedItem)
    → all_target_faults ds settled (map (placed_as f) items) ≡ map (fault_as f) (all_target_faults ds settled items)
target_faults_so f ds settled [] = refl
target_faults_so f ds settled (x ∷ xs) =
    both_so f _ _ _ _
    (fault_so f 33 (places_of_true (map (λ s. not (may_write ds settled (writer_of x.body) s)) (written x.body))) x.targets x.at)
    (target_faults_so f ds settled xs)

-- ---- bits that are driven twice

double_faults_so : (f : NameId → NameId) (taken : Places) (items : List PlacedItem)
    → double_faults taken (map (placed_as f) items) ≡ map (fault_as f) (double_faults taken items)
double_faults_so f taken [] = refl
double_faults_so f taken (x ∷ xs) =
    both_so f _ _ _ _ (fault_so f 34 (places_of_true (doubles taken (writer_of x.body) (spans_of x.body))) x.targets x.at)
    (double_faults_so f (λ s i. taken s i || writes x s i) xs)

-- ---- blocks

-- the name of a signal is the first of its path
first_of_so : (f : NameId → NameId) (path : List ℕ) → first_of (map (number_as f) path) ≡ option_map f (first_of path)
first_of_so f [] = refl
first_of_so f (n ∷ ns) = refl

name_at_so : (f : NameId → NameId) (signals : List Signal) (s : ℕ) → name_at (map (unit_signal_as f) signals) s ≡ option_map f (name_at signals s)
name_at_so f [] s = refl
name_at_so f (x ∷ xs) zero = first_of_so f x.path
name_at_so f (x ∷ xs) (suc s) = name_at_so f xs s

latched_so : (f : NameId → NameId) (signals : List Signal) (at : Place) (s : Option ℕ)
    → latched (map (unit_signal_as f) signals) at s ≡ map (fault_as f) (latched signals at s)
latched_so f signals at None = refl
latched_so f signals at (Some s) =
    ap (λ (ns : List NameId). fault 35 at ns ∷ []) (ap option_to_list (name_at_so f signals s) ∙ name_list_so f (name_at signals s))

path_faults_so : (f : NameId → NameId) (signals : List Signal) (ds : List SignalDeclaration) (x : PlacedItem) (sts : List SizedStmt)
    → path_faults (map (unit_signal_as f) signals) ds (placed_as f x) sts ≡ map (fault_as f) (path_faults signals ds x sts)
path_faults_so f signals ds x [] = refl
path_faults_so f signals ds x (st ∷ sts) =
    both_so f _ _ _ _
    (both_so f _ _ _ _ (fault_so f 36 (places_of_true (flags_of_block st)) x.reads x.at)
    (latched_so f signals x.at (first_declared ds (unwritten st) (length ds))))
    (path_faults_so f signals ds x sts)

block_faults_so : (f : NameId → NameId) (signals : List Signal) (ds : List SignalDeclaration) (items : List PlacedItem)
    → block_faults (map (unit_signal_as f) signals) ds (map (placed_as f) items) ≡ map (fault_as f) (block_faults signals ds items)
block_faults_so f signals ds [] = refl
block_faults_so f signals ds (x ∷ xs) =
    both_so f _ _ _ _ (path_faults_so f signals ds x (blocks_of x.body)) (block_faults_so f signals ds xs)

-- ---- all of them

pub same_driver_faults : (f : NameId → NameId) (p : PlacedItems) → driver_faults (items_as f p) ≡ map (fault_as f) (driver_faults p)
same_driver_faults f p =
    both_so f _ _ _ _
    (ap (λ (settled : ℕ → Bool). all_target_faults p.declarations settled (map (placed_as f) p.items)) (same_settled_by f p.items)
    ∙ target_faults_so f p.declarations (is_settled p.items) p.items)
    (both_so f _ _ _ _ (double_faults_so f nowhere p.items) (block_faults_so f p.signals p.declarations p.items))

-- ---- the unit

pub nodes_so : (f : NameId → NameId) (items : List PlacedItem) → nodes_in (map (placed_as f) items) ≡ nodes_in items
nodes_so f [] = refl
nodes_so f (x ∷ xs) = ap (λ (ns : List UnitNode). node_in x.body ++ ns) (nodes_so f xs)

pub blocks_so : (f : NameId → NameId) (items : List PlacedItem) → blocks_in (map (placed_as f) items) ≡ blocks_in items
blocks_so f [] = refl
blocks_so f (x ∷ xs) = ap (λ (bs : List SizedStmt). block_in x.body ++ bs) (blocks_so f xs)

abbrev unit_with : List Signal → PlacedItems → List UnitNode → List SizedStmt → SizedUnit
unit_with signals p nodes clocked =
    record { signals = signals; registers = p.registers; inputs = p.inputs; nodes = nodes; clocked = clocked }

pub same_unit : (f : NameId → NameId) (p : PlacedItems) → unit_of (items_as f p) ≡ unit_as f (unit_of p)
same_unit f p = ap₂ (unit_with (map (unit_signal_as f) p.signals) p) (nodes_so f p.items) (blocks_so f p.items)
