-- Combinational blocks bit by bit: the reads of bits that a block writes later, and the signals that it doesn't write on every path
-- (IEEE Std 1364-2005, 9.2.1, 9.4, 9.5).
use Rattle.std.specs.Prelude.{◌≡◌, ◌≤◌, ◌<◌, ◌+◌, ℕ, zero, suc, Bool, false, not, ◌&&◌, ◌||◌, if◌then◌else◌, List, [], ◌∷◌, ◌++◌, map, All}
use Rattle.typed_ir.specs.declared.span.Span.{Span}
use Rattle.typed_ir.specs.Valuations.{Places, within, any_within, nowhere}
use Rattle.typed_ir.specs.Sized.{Sized, Constant, Name, Part, Pick, Unary, Binary, Choice, Concat, Repeat, Resized}
use Rattle.typed_ir.specs.Stmts.{SizedTarget, Fixed, Moving, SizedItem, SizedStmt, SizedArms, Skip, Assign, Later, Then, If, Case, Arm, Default, targets, known_after, IsWhole, WritesFirst}

-- ---- reads, in the order of the text

-- a read of a signal as a whole
abbrev pub whole_signal : ℕ → Span
whole_signal signal = record { signal = signal; low = 0; width = 128 }

-- of an expression: a select at run time reads its signal before what its index reads
abbrev pub leaves : Sized → List Span
leaves (Constant width value) = []
leaves (Name signal width) = whole_signal signal ∷ []
leaves (Part span) = span ∷ []
leaves (Pick signal width below signed index) = whole_signal signal ∷ leaves index
leaves (Unary op a) = leaves a
leaves (Binary op a b) = leaves a ++ leaves b
leaves (Choice c a b) = leaves c ++ (leaves a ++ leaves b)
leaves (Concat width a b) = leaves a ++ leaves b
leaves (Repeat width count a) = leaves a
leaves (Resized a width signed) = leaves a

-- of the indices left of an assignment
abbrev pub index_leaves : List SizedTarget → List Span
index_leaves [] = []
index_leaves (Fixed lane ∷ ts) = index_leaves ts
index_leaves (Moving reach index ∷ ts) = leaves index ++ index_leaves ts

-- of the items of an arm
abbrev pub item_leaves : List SizedItem → List Span
item_leaves [] = []
item_leaves (x ∷ xs) = leaves x.item ++ item_leaves xs

-- ---- reads that come too early

-- some number below n passes the test
unfoldable pub some_below : ℕ → (ℕ → Bool) → Bool
some_below zero test = false
some_below (suc n) test = test n || some_below n test

-- a read of a bit that the block writes and that isn't known to be written before
abbrev pub early : Places → Span → Places → Bool
early written p known = some_below 128 (λ i. within p p.signal i && (written p.signal i && not (known p.signal i)))

-- for each of these reads whether it is one
abbrev pub flags_of : Places → List Span → Places → List Bool
flags_of written reads known = map (λ p. early written p known) reads

-- for those of the indices left of an assignment, a part after the Fixed parts left of it
abbrev pub index_flags : Places → List SizedTarget → Places → List Bool
index_flags written [] known = []
index_flags written (Fixed lane ∷ ts) known = index_flags written ts (λ s i. known s i || within lane.span s i)
index_flags written (Moving reach index ∷ ts) known = flags_of written (leaves index) known ++ index_flags written ts known

abbrev mutual
  -- for each read of a statement, where `known` are written before
  pub reads_early : Places → SizedStmt → Places → List Bool
  reads_early written Skip known = []
  reads_early written (Assign parts e) known = index_flags written parts known ++ flags_of written (leaves e) known
  reads_early written (Later parts e) known = flags_of written (index_leaves parts) known ++ flags_of written (leaves e) known
  reads_early written (Then a b) known = reads_early written a known ++ reads_early written b (known_after a known)
  reads_early written (If c a b) known =
      flags_of written (leaves c) known ++ (reads_early written a known ++ reads_early written b known)
  reads_early written (Case e arms) known = flags_of written (leaves e) known ++ arms_early written arms known

  -- arm by arm its items and what it does, at last the default
  pub arms_early : Places → SizedArms → Places → List Bool
  arms_early written (Arm items body rest) known =
      flags_of written (item_leaves items) known ++ (reads_early written body known ++ arms_early written rest known)
  arms_early written (Default otherwise) known = reads_early written otherwise known

-- the numbers of the reads of a block that come too early
abbrev pub flags_of_block : SizedStmt → List Bool
flags_of_block st = reads_early (any_within (targets st)) st nowhere

-- the places of the flags that are true, counted from a first one
abbrev pub true_from : ℕ → List Bool → List ℕ
true_from k [] = []
true_from k (flag ∷ flags) = if flag then k ∷ true_from (suc k) flags else true_from (suc k) flags

abbrev pub places_of_true : List Bool → List ℕ
places_of_true flags = true_from 0 flags

-- ---- signals with a latch

-- some bit of the signal is among the first and not among the second
abbrev pub is_open : Places → Places → ℕ → Bool
is_open written known s = some_below 128 (λ i. written s i && not (known s i))

-- the block may write a bit of the signal that it doesn't write on every path
abbrev pub unwritten : SizedStmt → ℕ → Bool
unwritten st s = is_open (any_within (targets st)) (known_after st nowhere) s

-- ---- what is asked of a block

-- no bit that it writes is above the 128 that a signal can have
abbrev pub AreNarrow : SizedStmt → Type 0
AreNarrow st = All (λ (p : Span). p.low + p.width ≤ 128) (targets st)

-- it writes signals below this number
abbrev pub AreHere : ℕ → SizedStmt → Type 0
AreHere count st = All (λ (p : Span). p.signal < count) (targets st)

-- where no read comes too early and no signal has a latch, each bit that a block may write is written on every path, and before it
-- is read
abbrev pub BlocksAreWhole : Type 0
BlocksAreWhole =
    (st : SizedStmt) → AreNarrow st → places_of_true (flags_of_block st) ≡ [] → ((s : ℕ) → unwritten st s ≡ false)
    → IsWhole st × WritesFirst st
