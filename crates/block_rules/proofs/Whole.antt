-- A block of which no read comes too early and no signal has a latch.
use Rattle.std.proofs.Common.{◌≡◌, ℕ, zero, suc, ◌+◌, ◌<◌, ◌≤◌, Bool, true, false, ◌||◌, ◌&&◌, not, ◌==◌, nat_le, nat_lt, List, [], ◌∷◌, ◌++◌, All, refl, sym, ◌∙◌, ap, ap₂, arith, true≢false}
use Rattle.std.proofs.Math.Bool.{or-false, and-true}
use Rattle.std.proofs.lemmas.Bool.{eqb-true, eq-eqb, ltb-true, lt-ltb, le-leb, or_parts, or_from}
use Rattle.bits.proofs.Runs.{by_order}
use Rattle.typed_ir.specs.declared.span.Span.{Span}
use Rattle.typed_ir.specs.Valuations.{Places, within, any_within, nowhere}
use Rattle.typed_ir.specs.Sized.{Sized, Constant, Name, Part, Pick, Unary, Binary, Choice, Concat, Repeat, Resized, reads}
use Rattle.typed_ir.specs.Stmts.{SizedTarget, Fixed, Moving, SizedItem, SizedStmt, SizedArms, Skip, Assign, Later, Then, If, Case, Arm, Default, targets, known_after, index_reads, open_indices, item_reads, open_reads, open_arm_reads}
use Rattle.typed_ir.proofs.Cases.{by_cases, and_left, and_right, only_right}
use Rattle.typed_ir.proofs.Locals.{any_within-append}
use Rattle.typed_ir.proofs.Lists.{none_is_some}
use Rattle.block_rules.specs.Paths.{whole_signal, leaves, index_leaves, item_leaves, some_below, early, flags_of, index_flags, reads_early, arms_early, true_from, flags_of_block, BlocksAreWhole}

-- ---- no flag

abbrev none_true : List Bool → Bool
none_true [] = true
none_true (flag ∷ flags) = not flag && none_true flags

none_from : (k : ℕ) (flags : List Bool) → true_from k flags ≡ [] → none_true flags ≡ true
none_from k [] h = refl
none_from k (true ∷ flags) h = none_is_some k (true_from (suc k) flags) (sym h)
none_from k (false ∷ flags) h = none_from (suc k) flags h

none_left : (xs ys : List Bool) → none_true (xs ++ ys) ≡ true → none_true xs ≡ true
none_left [] ys h = refl
none_left (true ∷ xs) ys h = h
none_left (false ∷ xs) ys h = none_left xs ys h

none_right : (xs ys : List Bool) → none_true (xs ++ ys) ≡ true → none_true ys ≡ true
none_right [] ys h = h
none_right (true ∷ xs) ys h = absurd (true≢false (sym h))
none_right (false ∷ xs) ys h = none_right xs ys h

-- ---- tests of 128 bits

pub none_below : (n i : ℕ) (test : ℕ → Bool) → some_below n test ≡ false → i < n → test i ≡ false
unfolding some_below
none_below zero i test h k = absurd (omega (arith, k))
none_below (suc n) i test h k =
    by_cases (i == n)
    (λ yes. ap test (eqb-true i n yes) ∙ (or_parts (test n) (some_below n test) h).0)
    (λ no. none_below n i test (or_parts (test n) (some_below n test) h).1 (smaller i n k no))
  where
    smaller : (i n : ℕ) → i < suc n → (i == n) ≡ false → i < n
    smaller i n k other = by_order i n (λ h. h) (λ h. let same : i ≡ n = omega (arith, h, k) in absurd (true≢false (sym (eq-eqb i n same) ∙ other)))

one_known : (a k : Bool) → (a && not k) ≡ false → a ≡ true → k ≡ true
one_known true true h is = refl
one_known true false h is = absurd (true≢false h)
one_known false k h is = absurd (true≢false (sym is))

both_known : (a b k : Bool) → (a && (b && not k)) ≡ false → a ≡ true → b ≡ true → k ≡ true
both_known true true true h x y = refl
both_known true true false h x y = absurd (true≢false h)
both_known true false k h x y = absurd (true≢false (sym y))
both_known false b k h x y = absurd (true≢false (sym x))

-- ---- the reads of an expression

name_reads : (s signal i : ℕ) → i < 128 → any_within (whole_signal signal ∷ []) s i ≡ (s == signal)
name_reads s signal i small =
    or-false ((s == signal) && (nat_le 0 i && nat_lt i 128)) ∙ ap₂ (λ a b. (s == signal) && (a && b)) (le-leb 0 i (omega arith)) (lt-ltb i 128 small) ∙ and-true (s == signal)

two_reads : (xs ys : List Span) (s i : ℕ) (a b : Bool) → any_within xs s i ≡ a → any_within ys s i ≡ b → any_within (xs ++ ys) s i ≡ (a || b)
two_reads xs ys s i a b h k = any_within-append xs ys s i ∙ ap₂ (λ x y. x || y) h k

leaves_read : (e : Sized) (s i : ℕ) → i < 128 → any_within (leaves e) s i ≡ reads e s i
leaves_read (Constant width value) s i small = refl
leaves_read (Name signal width) s i small = name_reads s signal i small
leaves_read (Part span) s i small = or-false (within span s i)
leaves_read (Pick signal width below signed index) s i small =
    two_reads (whole_signal signal ∷ []) (leaves index) s i (s == signal) (reads index s i) (name_reads s signal i small) (leaves_read index s i small)
leaves_read (Unary op a) s i small = leaves_read a s i small
leaves_read (Binary op a b) s i small = two_reads (leaves a) (leaves b) s i (reads a s i) (reads b s i) (leaves_read a s i small) (leaves_read b s i small)
leaves_read (Choice c a b) s i small =
    two_reads (leaves c) (leaves a ++ leaves b) s i (reads c s i) (reads a s i || reads b s i) (leaves_read c s i small)
    (two_reads (leaves a) (leaves b) s i (reads a s i) (reads b s i) (leaves_read a s i small) (leaves_read b s i small))
leaves_read (Concat width a b) s i small = two_reads (leaves a) (leaves b) s i (reads a s i) (reads b s i) (leaves_read a s i small) (leaves_read b s i small)
leaves_read (Repeat width count a) s i small = leaves_read a s i small
leaves_read (Resized a width signed) s i small = leaves_read a s i small

index_leaves_read : (ts : List SizedTarget) (s i : ℕ) → i < 128 → any_within (index_leaves ts) s i ≡ index_reads ts s i
index_leaves_read [] s i small = refl
index_leaves_read (Fixed lane ∷ ts) s i small = index_leaves_read ts s i small
index_leaves_read (Moving reach index ∷ ts) s i small =
    two_reads (leaves index) (index_leaves ts) s i (reads index s i) (index_reads ts s i) (leaves_read index s i small) (index_leaves_read ts s i small)

item_leaves_read : (xs : List SizedItem) (s i : ℕ) → i < 128 → any_within (item_leaves xs) s i ≡ item_reads xs s i
item_leaves_read [] s i small = refl
item_leaves_read (x ∷ xs) s i small =
    two_reads (leaves x.item) (item_leaves xs) s i (reads x.item s i) (item_reads xs s i) (leaves_read x.item s i small) (item_leaves_read xs s i small)

-- ---- no read of a bit that is written comes too early

free_read : (p : Span) (w known : Places) (s i : ℕ) → i < 128 → w s i ≡ true → early w p known ≡ false → within p s i ≡ true → known s i ≡ true
free_read p w known s i small writes free h =
    let at : s ≡ p.signal = eqb-true s p.signal (and_left (s == p.signal) (nat_le p.low i && nat_lt i (p.low + p.width)) h) in
    let here : within p p.signal i ≡ true = ap (λ t. within p t i) (sym at) ∙ h in
    ap (λ t. known t i) at
    ∙ both_known (within p p.signal i) (w p.signal i) (known p.signal i)
    (none_below 128 i (λ j. within p p.signal j && (w p.signal j && not (known p.signal j))) free small)
    here (ap (λ t. w t i) (sym at) ∙ writes)

free_flag : (flag : Bool) (flags : List Bool) → none_true (flag ∷ flags) ≡ true → flag ≡ false
free_flag true flags h = absurd (true≢false (sym h))
free_flag false flags h = refl

free_rest : (flag : Bool) (flags : List Bool) → none_true (flag ∷ flags) ≡ true → none_true flags ≡ true
free_rest true flags h = absurd (true≢false (sym h))
free_rest false flags h = h

free_reads : (ps : List Span) (w known : Places) (s i : ℕ) → i < 128 → w s i ≡ true → none_true (flags_of w ps known) ≡ true
    → any_within ps s i ≡ true → known s i ≡ true
free_reads [] w known s i small writes free h = absurd (true≢false (sym h))
free_reads (p ∷ ps) w known s i small writes free h =
    by_cases (within p s i)
    (λ yes. free_read p w known s i small writes (free_flag (early w p known) (flags_of w ps known) free) yes)
    (λ no. free_reads ps w known s i small writes (free_rest (early w p known) (flags_of w ps known) free) (only_right (within p s i) (any_within ps s i) no h))

closed : (r k : Bool) → (r ≡ true → k ≡ true) → (r && not k) ≡ false
closed true true h = refl
closed true false h = absurd (true≢false (sym (h refl)))
closed false k h = refl

-- reads that are these spans'
free_at : (ps : List Span) (r : Bool) (w known : Places) (s i : ℕ) → i < 128 → w s i ≡ true → none_true (flags_of w ps known) ≡ true
    → any_within ps s i ≡ r → (r && not (known s i)) ≡ false
free_at ps r w known s i small writes free is = closed r (known s i) (λ h. free_reads ps w known s i small writes free (is ∙ h))

free_indices : (ts : List SizedTarget) (w known : Places) (s i : ℕ) → i < 128 → w s i ≡ true → none_true (index_flags w ts known) ≡ true
    → open_indices ts known s i ≡ false
free_indices [] w known s i small writes free = refl
free_indices (Fixed lane ∷ ts) w known s i small writes free = free_indices ts w (λ t j. known t j || within lane.span t j) s i small writes free
free_indices (Moving reach index ∷ ts) w known s i small writes free =
    or_from (reads index s i && not (known s i)) (open_indices ts known s i)
    (free_at (leaves index) (reads index s i) w known s i small writes (none_left (flags_of w (leaves index) known) (index_flags w ts known) free) (leaves_read index s i small))
    (free_indices ts w known s i small writes (none_right (flags_of w (leaves index) known) (index_flags w ts known) free))

mutual
  free_block : (st : SizedStmt) (w known : Places) (s i : ℕ) → i < 128 → w s i ≡ true → none_true (reads_early w st known) ≡ true
      → open_reads st known s i ≡ false
  free_block Skip w known s i small writes free = refl
  free_block (Assign parts e) w known s i small writes free =
      let first = index_flags w parts known in
      let last = flags_of w (leaves e) known in
      or_from (reads e s i && not (known s i)) (open_indices parts known s i)
      (free_at (leaves e) (reads e s i) w known s i small writes (none_right first last free) (leaves_read e s i small))
      (free_indices parts w known s i small writes (none_left first last free))
  free_block (Later parts e) w known s i small writes free =
      let first = flags_of w (index_leaves parts) known in
      let last = flags_of w (leaves e) known in
      closed (reads e s i || index_reads parts s i) (known s i) (λ h. by_cases (reads e s i)
      (λ yes. free_reads (leaves e) w known s i small writes (none_right first last free) (leaves_read e s i small ∙ yes))
      (λ no. free_reads (index_leaves parts) w known s i small writes (none_left first last free)
      (index_leaves_read parts s i small ∙ only_right (reads e s i) (index_reads parts s i) no h)))
  free_block (Then a b) w known s i small writes free =
      let first = reads_early w a known in
      let last = reads_early w b (known_after a known) in
      or_from (open_reads a known s i) (open_reads b (known_after a known) s i)
      (free_block a w known s i small writes (none_left first last free))
      (free_block b w (known_after a known) s i small writes (none_right first last free))
  free_block (If c a b) w known s i small writes free =
      let first = flags_of w (leaves c) known in
      let one = reads_early w a known in
      let two = reads_early w b known in
      let rest : none_true (one ++ two) ≡ true = none_right first (one ++ two) free in
      or_from (reads c s i && not (known s i)) (open_reads a known s i || open_reads b known s i)
      (free_at (leaves c) (reads c s i) w known s i small writes (none_left first (one ++ two) free) (leaves_read c s i small))
      (or_from (open_reads a known s i) (open_reads b known s i)
      (free_block a w known s i small writes (none_left one two rest)) (free_block b w known s i small writes (none_right one two rest)))
  free_block (Case e arms) w known s i small writes free =
      let first = flags_of w (leaves e) known in
      let rest = arms_early w arms known in
      or_from (reads e s i && not (known s i)) (open_arm_reads arms known s i)
      (free_at (leaves e) (reads e s i) w known s i small writes (none_left first rest free) (leaves_read e s i small))
      (free_arms arms w known s i small writes (none_right first rest free))

  free_arms : (arms : SizedArms) (w known : Places) (s i : ℕ) → i < 128 → w s i ≡ true → none_true (arms_early w arms known) ≡ true
      → open_arm_reads arms known s i ≡ false
  free_arms (Arm items body rest) w known s i small writes free =
      let first = flags_of w (item_leaves items) known in
      let one = reads_early w body known in
      let two = arms_early w rest known in
      let others : none_true (one ++ two) ≡ true = none_right first (one ++ two) free in
      or_from (item_reads items s i && not (known s i)) (open_reads body known s i || open_arm_reads rest known s i)
      (free_at (item_leaves items) (item_reads items s i) w known s i small writes (none_left first (one ++ two) free) (item_leaves_read items s i small))
      (or_from (open_reads body known s i) (open_arm_reads rest known s i)
      (free_block body w known s i small writes (none_left one two others)) (free_arms rest w known s i small writes (none_right one two others)))
  free_arms (Default otherwise) w known s i small writes free = free_block otherwise w known s i small writes free

-- ---- the bits that a block may write

pub narrow_small : (ps : List Span) (s i : ℕ) → All (λ (p : Span). p.low + p.width ≤ 128) ps → any_within ps s i ≡ true → i < 128
narrow_small [] s i narrow h = absurd (true≢false (sym h))
narrow_small (p ∷ ps) s i narrow h =
    by_cases (within p s i)
    (λ yes. let top : p.low + p.width ≤ 128 = narrow 0 p (omega arith) in
    let below : i < p.low + p.width =
    ltb-true i (p.low + p.width) (and_right (nat_le p.low i) (nat_lt i (p.low + p.width)) (and_right (s == p.signal) (nat_le p.low i && nat_lt i (p.low + p.width)) yes)) in
    omega (arith, top, below))
    (λ no. narrow_small ps s i (λ k d less. narrow (suc k) d (omega (arith, less))) (only_right (within p s i) (any_within ps s i) no h))

pub here_below : (ps : List Span) (count s i : ℕ) → All (λ (p : Span). p.signal < count) ps → any_within ps s i ≡ true → s < count
here_below [] count s i here h = absurd (true≢false (sym h))
here_below (p ∷ ps) count s i here h =
    by_cases (within p s i)
    (λ yes. let top : p.signal < count = here 0 p (omega arith) in
    let at : s ≡ p.signal = eqb-true s p.signal (and_left (s == p.signal) (nat_le p.low i && nat_lt i (p.low + p.width)) yes) in
    omega (arith, top, at))
    (λ no. here_below ps count s i (λ k d less. here (suc k) d (omega (arith, less))) (only_right (within p s i) (any_within ps s i) no h))

pub blocks_whole : BlocksAreWhole
blocks_whole st narrow free whole =
    let w : Places = any_within (targets st) in (
      (λ s i writes.
          let small : i < 128 = narrow_small (targets st) s i narrow writes in
          one_known (w s i) (known_after st nowhere s i) (none_below 128 i (λ j. w s j && not (known_after st nowhere s j)) (whole s) small) writes),
      (λ s i writes. free_block st w nowhere s i (narrow_small (targets st) s i narrow writes) writes (none_from 0 (flags_of_block st) free)),
    )
