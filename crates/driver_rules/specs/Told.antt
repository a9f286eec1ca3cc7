-- Which item drives or writes a bit, as the list of drivers tells it.
use Rattle.std.specs.Prelude.{◌≡◌, ◌<◌, ◌≤◌, ℕ, ◌+◌, Bool, false, not, ◌&&◌, ◌||◌, ◌==◌, nat_le, nat_lt, List, slice_index, if◌then◌else◌}
use Rattle.typed_ir.specs.Valuations.{Places}
use Rattle.typed_ir.specs.Cycles.{block_writes}
use Rattle.typed_ir.specs.Touches.{has_bit}
use Rattle.typed_ir.specs.Orders.{at_or, Each}
use Rattle.typed_ir.specs.Trees.{count, own_drives}
use Rattle.typed_ir.specs.Items.{SizedBody, Node, Clocked, Initial, PlacedItem, PlacedItems, nodes_in, blocks_in}
use Rattle.driver_rules.specs.declared.driver.Driver.{Driver}
use Rattle.driver_rules.specs.declared.driver_id.DriverId.{DriverId}
use Rattle.driver_rules.specs.declared.driver_id.DriverId.TheVariants as id
use Rattle.driver_rules.specs.declared.numbers.Numbers.{Numbers}

abbrev pub is_by : DriverId → DriverId → Bool
is_by (id.Node a) (id.Node b) = a == b
is_by (id.Node a) (id.Clocked b) = false
is_by (id.Clocked a) (id.Node b) = false
is_by (id.Clocked a) (id.Clocked b) = a == b

-- bit i of signal s is one of these
abbrev pub covers : ℕ → ℕ → Driver → Bool
covers s i d = (s == d.signal) && (nat_le d.low i && nat_le i d.high)

-- the node or the clocked block with this number drives or writes the bit
abbrev pub drives_by : List PlacedItem → DriverId → Places
drives_by items (id.Node n) s i = at_or (own_drives s i) false (nodes_in items) n
drives_by items (id.Clocked n) s i = at_or (λ st. block_writes st s i) false (blocks_in items) n

abbrev pub IsRange : Driver → Type 0
IsRange d = (d.low ≤ d.high) × (d.high < 128)

-- of these items
pub record AreTold (items : List PlacedItem) (ds : List Driver) : Type 0 where
  -- a bit that an item drives or writes stands in one driver of this item, any other bit in none
  pub told : (by : DriverId) (s i : ℕ) → i < 128
      → count (λ (d : Driver). is_by by d.by && covers s i d) ds ≡ (if drives_by items by s i then 1 else 0)
  -- no bit stands in two
  pub once : (s i : ℕ) → i < 128 → count (covers s i) ds ≤ 1
  pub ranges : Each IsRange ds

abbrev pub IsTold : PlacedItems → List Driver → Type 0
IsTold p ds = AreTold p.items ds

-- ---- what the code keeps

-- the bits in a table of masks by signal
abbrev pub marked : List ℕ → Places
marked table s i = has_bit (slice_index table s) i

-- the number of an item after so many nodes and clocked blocks
abbrev pub driver_id : Numbers → SizedBody → DriverId
driver_id k (Node node) = id.Node k.nodes
driver_id k (Clocked st) = id.Clocked k.blocks
driver_id k (Initial signal) = id.Node k.nodes

abbrev pub numbers_after : Numbers → SizedBody → Numbers
numbers_after k (Node node) = record { nodes = k.nodes + 1; blocks = k.blocks }
numbers_after k (Clocked st) = record { nodes = k.nodes; blocks = k.blocks + 1 }
numbers_after k (Initial signal) = k

-- bits of a signal from one to before another, but for those of a mask
abbrev pub free_run : ℕ → ℕ → ℕ → ℕ → Places
free_run signal mask low end = λ s i. (s == signal) && ((nat_le low i && nat_lt i end) && not (has_bit mask i))

-- what was put to the list is by this one, and has just these bits, each once
pub record Puts (by : DriverId) (before after : List Driver) (places : Places) : Type 0 where
  pub told : (f : DriverId → Bool) (s i : ℕ) → i < 128
      → count (λ (d : Driver). f d.by && covers s i d) after
      ≡ count (λ (d : Driver). f d.by && covers s i d) before + (if f by && places s i then 1 else 0)
  pub ranges : Each IsRange before → Each IsRange after

-- the bits that joined a table
abbrev pub joined : List ℕ → List ℕ → Places
joined old new = λ s i. marked new s i && not (marked old s i)

-- these bits joined the table, and the new ones among them went to the list
pub record Grows (by : DriverId) (table new : List ℕ) (before after : List Driver) (places : Places) : Type 0 where
  pub taken : (s i : ℕ) → i < 128 → marked new s i ≡ (marked table s i || places s i)
  pub puts : Puts by before after (joined table new)
