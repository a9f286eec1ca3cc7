-- The nodes that drive bits of each signal, as the code keeps them, and the edges that they make.
use Rattle.std.specs.Prelude.{◌≡◌, ℕ, ◌+◌, ◌-◌, ◌<◌, ◌≤◌, ◌%◌, ◌^◌, ◌==◌, Bool, true, false, not, ◌&&◌, ◌||◌, nat_lt, List, [], ◌∷◌, length, bit_and, slice_index}
use Rattle.std.specs.declared.vec.Vec.{Vec}
use Rattle.std.specs.Global.{Global}
use Rattle.typed_ir.specs.declared.touch.Touch.{Touch}
use Rattle.typed_ir.specs.Valuations.{Places}
use Rattle.typed_ir.specs.Nodes.{FlatNode, drives_at, reads_at}
use Rattle.typed_ir.specs.Orders.{at_or, Precedes}
use Rattle.typed_ir.specs.Touches.{has_bit, is_block}
use Rattle.typed_ir.specs.Rows.{row_in}
use Rattle.comb_order.specs.declared.drivers.Driver.{Driver}
use Rattle.comb_order.specs.Graphs.{times, row_at, HasEdge}

-- among these drivers of a signal, node a drives its bit i
abbrev pub drives_in : List Driver → ℕ → ℕ → Bool
drives_in [] a i = false
drives_in (d ∷ ds) a i = ((a == d.item) && has_bit d.mask i) || drives_in ds a i

-- the nodes of these drivers rise, from low on, and stay below high; so none stands twice
abbrev pub Rises : ℕ → List Driver → ℕ → Type 0
Rises low [] high = low ≤ high
Rises low (d ∷ ds) high = (low ≤ d.item) × Rises (d.item + 1) ds high

-- so in each row
abbrev pub AllRise : List (Vec Driver Global) → ℕ → Type 0
AllRise table high = (s : ℕ) → Rises 0 (row_in table s) high

-- two masks of 128 bits have a bit in common
abbrev pub common : ℕ → ℕ → Bool
common m n = not (bit_and m n % 2 ^ 128 == 0)

-- among these drivers of a signal, node a drives a bit of the mask
abbrev pub drives_some : List Driver → ℕ → ℕ → Bool
drives_some [] mask a = false
drives_some (d ∷ ds) mask a = ((a == d.item) && common d.mask mask) || drives_some ds mask a

-- by the table of all signals, node a drives one of the bits
abbrev pub drives_any : List (Vec Driver Global) → List Touch → ℕ → Bool
drives_any table [] a = false
drives_any table (t ∷ ts) a = drives_some (row_in table t.signal) t.mask a || drives_any table ts a

abbrev pub edge : List (List ℕ) → ℕ → ℕ → Bool
edge rows a b = nat_lt 0 (times b (row_at rows a))

abbrev pub ends_with : List ℕ → ℕ → Bool
ends_with row b = nat_lt 0 (length row) && (slice_index row (length row - 1) == b)

-- a row in which no node stands twice, all up to b, and b last where it stands there
pub record IsRow (b : ℕ) (row : List ℕ) : Type 0 where
  pub once : (x : ℕ) → times x row ≤ 1
  pub up_to : (x : ℕ) → 0 < times x row → x ≤ b
  pub last : 0 < times b row → ends_with row b ≡ true

abbrev pub AreRows : ℕ → List (List ℕ) → Type 0
AreRows b rows = (a : ℕ) → IsRow b (row_at rows a)

-- the table has just what each drives, by its number, within signals of at most 128 bits
pub record IsTableOf (drives_at : ℕ → Places) (table : List (Vec Driver Global)) : Type 0 where
  pub inside : (a s i : ℕ) → drives_at a s i ≡ true → (s < length table) × (i < 128)
  pub drives : (a s i : ℕ) → s < length table → i < 128 → drives_in (row_in table s) a i ≡ drives_at a s i

-- what the nodes drive
abbrev pub IsTable : List FlatNode → List (Vec Driver Global) → Type 0
IsTable nodes table = IsTableOf (drives_at nodes) table

abbrev pub block_at : List FlatNode → ℕ → Bool
block_at nodes k = at_or is_block false nodes k

-- no bit has two drivers, and no block reads a bit that it drives
pub record IsPlain (nodes : List FlatNode) : Type 0 where
  pub one : (a b s i : ℕ) → drives_at nodes a s i ≡ true → drives_at nodes b s i ≡ true → a ≡ b
  pub apart : (b s i : ℕ) → block_at nodes b ≡ true → reads_at nodes b s i ≡ true → drives_at nodes b s i ≡ false

-- the rows have an edge from node a to node b just where a drives a bit that b reads
pub record IsGraph (nodes : List FlatNode) (rows : List (List ℕ)) : Type 0 where
  pub size : length rows ≡ length nodes
  pub sound : (a b : ℕ) → HasEdge rows a b → Precedes (drives_at nodes) (reads_at nodes) a b
  pub whole : (a b : ℕ) → Precedes (drives_at nodes) (reads_at nodes) a b → HasEdge rows a b
