-- Sets of bits as lists of masks, and the bits that a statement or a node names anywhere (IEEE Std 1364-2005, 9.7.5).
use Rattle.std.specs.Prelude.{◌≡◌, ◌<◌, ℕ, Bool, true, false, ◌&&◌, ◌||◌, ◌==◌, List, [], ◌∷◌}
use Rattle.std.specs.Int.{bit_at}
use Rattle.typed_ir.specs.declared.touch.Touch.{Touch}
use Rattle.typed_ir.specs.Valuations.{Places, nowhere}
use Rattle.typed_ir.specs.Sized.{reads}
use Rattle.typed_ir.specs.Stmts.{SizedStmt, SizedArms, Skip, Assign, Later, Then, If, Case, Arm, Default, index_reads, item_reads}
use Rattle.typed_ir.specs.Nodes.{FlatNode, Drive, Block}

abbrev pub has_bit : ℕ → ℕ → Bool
has_bit mask i = bit_at mask i == 1

-- the bits of all the masks
abbrev pub touched : List Touch → Places
touched [] = nowhere
touched (t ∷ ts) = λ s i. ((s == t.signal) && has_bit t.mask i) || touched ts s i

-- among the lowest 128 bits of each signal, which are all that a signal can have, these bits joined the list
pub record Adds (old new : List Touch) (places : Places) : Type 0 where
  pub says : (s i : ℕ) → i < 128 → touched new s i ≡ (touched old s i || places s i)

abbrev mutual
  -- the bits that are read anywhere in a statement, whether or not it wrote them before
  pub all_reads : SizedStmt → Places
  all_reads Skip = nowhere
  all_reads (Assign parts e) = λ s i. reads e s i || index_reads parts s i
  all_reads (Later parts e) = λ s i. reads e s i || index_reads parts s i
  all_reads (Then a b) = λ s i. all_reads a s i || all_reads b s i
  all_reads (If c a b) = λ s i. reads c s i || (all_reads a s i || all_reads b s i)
  all_reads (Case e arms) = λ s i. reads e s i || all_arm_reads arms s i

  pub all_arm_reads : SizedArms → Places
  all_arm_reads (Arm items body rest) = λ s i. item_reads items s i || (all_reads body s i || all_arm_reads rest s i)
  all_arm_reads (Default otherwise) = all_reads otherwise

-- the bits that the text of a node reads
abbrev pub mentions : FlatNode → Places
mentions (Drive form lanes e) = reads e
mentions (Block shown body) = all_reads body

abbrev pub is_block : FlatNode → Bool
is_block (Drive form lanes e) = false
is_block (Block shown body) = true
