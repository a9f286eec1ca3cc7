-- Tables of bits, a mask for each signal, and what a walk adds to them.
use Rattle.std.specs.Prelude.{false, ◌≡◌, ◌<◌, ℕ, Bool, true, not, ◌&&◌, nat_lt, List, length, map, slice_index, Option, Some, None}
use Rattle.std.specs.declared.vec.Vec.{Vec}
use Rattle.std.specs.Global.{Global}
use Rattle.typed_ir.specs.declared.touch.Touch.{Touch}
use Rattle.typed_ir.specs.Valuations.{Places, nowhere}
use Rattle.typed_ir.specs.Touches.{has_bit, touched, Adds}
use Rattle.block_rules.specs.declared.bit_table.BitTable.{BitTable}
use Rattle.block_rules.specs.declared.path_tables.PathTables.{PathTables}
use Rattle.typed_ir.specs.Orders.{is_member, are_distinct}
use Rattle.block_rules.specs.Paths.{is_open}

-- for so many signals
abbrev pub size : BitTable → ℕ
size table = length table.masks.items

-- its bits: of each signal at most the lowest 128
abbrev pub bits_of : BitTable → Places
bits_of table = λ s i. nat_lt i 128 && has_bit (slice_index table.masks.items s) i

-- the same bits of the signals below n
abbrev pub SameBelow : ℕ → Places → Places → Type 0
SameBelow n p q = (s i : ℕ) → s < n → i < 128 → p s i ≡ q s i

-- a table took more bits, and a list those of them that are new; `left` is then the same as `whole`
pub record Leads (before after : BitTable) (old new : List Touch) (left whole : Places) : Type 0 where
  pub size : length after.masks.items ≡ length before.masks.items
  pub keeps : (s i : ℕ) → bits_of before s i ≡ true → bits_of after s i ≡ true
  pub news : Adds old new (λ s i. bits_of after s i && not (bits_of before s i))
  pub same : SameBelow (length before.masks.items) left whole

-- what all branches so far have in common; all bits before the first branch
abbrev pub common_of : Option (Vec Touch Global) → Places
common_of None = λ s i. true
common_of (Some list) = touched list.items

-- what may be common with one more branch: the bits of the branches so far, or without one those of this branch
abbrev pub candidates : Option (Vec Touch Global) → List Touch → List Touch
candidates None learned = learned
candidates (Some list) learned = list.items

-- a signal of one of them
abbrev pub is_named : List Touch → ℕ → Bool
is_named touches s = is_member s (map (λ (t : Touch). t.signal) touches)

-- so many signals
abbrev pub signals_of : PathTables → ℕ
signals_of tables = length tables.known.masks.items

-- no bit is in the tables, and both have the same signals
pub record AreBlank (tables : PathTables) : Type 0 where
  pub written : bits_of tables.written ≡ nowhere
  pub known : bits_of tables.known ≡ nowhere
  pub same : length tables.written.masks.items ≡ length tables.known.masks.items

-- no signal stands twice, and none of them has a bit left that is written and not known
pub record AreTaken (found : List ℕ) (written known : BitTable) : Type 0 where
  pub once : are_distinct found ≡ true
  pub done : (s : ℕ) → is_member s found ≡ true → is_open (bits_of written) (bits_of known) s ≡ false
