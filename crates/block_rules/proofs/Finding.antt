-- Masks that have a bit that others lack, and the flag of a read.
use Rattle.std.proofs.Common.{◌≡◌, ℕ, zero, suc, ◌+◌, ◌-◌, ◌^◌, ◌<◌, ◌≤◌, Bool, true, false, ◌||◌, ◌&&◌, not, ◌==◌, nat_le, nat_lt, List, [], ◌∷◌, ◌++◌, length, get_or, drop, refl, sym, ◌∙◌, ap, ap₂, arith, true≢false}
use Rattle.std.specs.Prelude.{bit_and, slice_index}
use Rattle.std.specs.Int.{bit_at}
use Rattle.std.proofs.Math.Bool.{or-false, or_assoc, and-false, and-true}
use Rattle.std.proofs.lemmas.Bool.{eqb-true, eq-eqb, ne_eqb, or_parts, or_from, and_from, not-true, not_from_false, and_left as still_closed}
use Rattle.bits.proofs.Runs.{by_order}
use Rattle.std.proofs.lemmas.List.{at_drop_all}
use Rattle.std.proofs.lemmas.Nat.{and_le_l}
use Rattle.std.proofs.lemmas.Nat.Bits.{bit_at-lt, same_from_bits_below}
use Rattle.typed_ir.specs.declared.span.Span.{Span}
use Rattle.typed_ir.specs.declared.touch.Touch.{Touch}
use Rattle.typed_ir.specs.Valuations.{Places, within}
use Rattle.typed_ir.specs.Touches.{has_bit, touched, Adds}
use Rattle.typed_ir.proofs.Cases.{by_cases, and_left, and_right, turned}
use Rattle.typed_ir.proofs.Lists.{drop_read}
use Rattle.typed_ir.proofs.Masks.{adds_one, whole_mask, has_both, no_bit}
use Rattle.block_rules.specs.declared.bit_table.BitTable.{BitTable}
use Rattle.typed_ir.specs.Orders.{is_member, are_distinct}
use Rattle.block_rules.specs.Paths.{some_below, early, is_open}
use Rattle.block_rules.specs.Tables.{bits_of, is_named, AreTaken}
use Rattle.block_rules.proofs.Masks.{low_bit, high_bit}
use Rattle.block_rules.proofs.Knowing.{some_same}
use Rattle.block_rules.proofs.Whole.{none_below}

-- ---- one mask against another

pub some_at : (n : ℕ) (test : ℕ → Bool) → some_below n test ≡ true → (i : ℕ) × (i < n) × (test i ≡ true)
unfolding some_below
some_at zero test h = absurd (true≢false (sym h))
some_at (suc n) test h = by_cases (test n)
    (λ yes. (n, omega arith, yes))
    (λ out. let f : (i : ℕ) × (i < n) × (test i ≡ true) = some_at n test (sym (ap (λ b. b || some_below n test) out) ∙ h) in
    let less : f.0 < n = f.1 in
    (f.0, omega (arith, less), f.2))

bit_same : (a b : ℕ) → a < 2 → b < 2 → (a == 1) ≡ (b == 1) → a ≡ b
bit_same zero zero h k e = refl
bit_same zero (suc zero) h k e = absurd (true≢false (sym e))
bit_same (suc zero) zero h k e = absurd (true≢false e)
bit_same (suc zero) (suc zero) h k e = refl
bit_same (suc (suc a)) b h k e = absurd (omega (arith, h))
bit_same zero (suc (suc b)) h k e = absurd (omega (arith, k))
bit_same (suc zero) (suc (suc b)) h k e = absurd (omega (arith, k))

kept_bit : (m k : Bool) → (m && not k) ≡ false → (m && k) ≡ m
kept_bit true true h = refl
kept_bit true false h = absurd (true≢false h)
kept_bit false k h = refl

lost_bit : (m k : Bool) → (m && not k) ≡ true → (m && k) ≡ m → ⊥
lost_bit true true h e = true≢false (sym h)
lost_bit true false h e = true≢false (sym e)
lost_bit false k h e = true≢false (sym h)

pub open_bits : (m k : ℕ) → m < 2 ^ 128 → not (bit_and m k == m) ≡ some_below 128 (λ i. has_bit m i && not (has_bit k i))
open_bits m k small =
    let test : ℕ → Bool = λ i. has_bit m i && not (has_bit k i) in
    by_cases (some_below 128 test)
    (λ yes. let f : (i : ℕ) × (i < 128) × (test i ≡ true) = some_at 128 test yes in
    ap not (ne_eqb (bit_and m k) m (λ e. lost_bit (has_bit m f.0) (has_bit k f.0) f.2 (sym (has_both m k f.0) ∙ ap (λ n. has_bit n f.0) e)))
    ∙ sym yes)
    (λ out. let below : bit_and m k ≤ m = and_le_l m k in
    ap not (eq-eqb (bit_and m k) m
    (same_from_bits_below 128 (bit_and m k) m (omega (arith, below, small)) small
    (λ i less. bit_same (bit_at (bit_and m k) i) (bit_at m i) (bit_at-lt (bit_and m k) i) (bit_at-lt m i)
    (has_both m k i ∙ kept_bit (has_bit m i) (has_bit k i) (none_below 128 i test out less)))))
    ∙ sym out)

-- ---- the flag of a read

regrouped : (e a b c : Bool) → e ≡ true → ((a && b) && c) ≡ ((e && a) && (b && c))
regrouped true true b c h = refl
regrouped true false b c h = refl
regrouped false a b c h = absurd (true≢false (sym h))

pub early_is : (p : Span) (written known : BitTable) (run w k : ℕ)
    → ((i : ℕ) → i < 128 → has_bit run i ≡ (nat_le p.low i && nat_lt i (p.low + p.width)))
    → w ≡ slice_index written.masks.items p.signal → k ≡ slice_index known.masks.items p.signal
    → some_below 128 (λ i. has_bit (bit_and run w) i && not (has_bit k i)) ≡ early (bits_of written) p (bits_of known)
early_is p written known run w k is_run is_w is_k =
    some_same 128 (λ i. has_bit (bit_and run w) i && not (has_bit k i))
    (λ i. within p p.signal i && (bits_of written p.signal i && not (bits_of known p.signal i)))
    (λ i small.
    ap (λ b. b && not (has_bit k i)) (has_both run w i ∙ ap₂ (λ a b. a && b) (is_run i small) (ap (λ n. has_bit n i) is_w ∙ sym (low_bit written.masks.items p.signal i small)))
    ∙ ap (λ b. ((nat_le p.low i && nat_lt i (p.low + p.width)) && bits_of written p.signal i) && not b)
    (ap (λ n. has_bit n i) is_k ∙ sym (low_bit known.masks.items p.signal i small))
    ∙ regrouped (p.signal == p.signal) (nat_le p.low i && nat_lt i (p.low + p.width)) (bits_of written p.signal i) (not (bits_of known p.signal i))
    (eq-eqb p.signal p.signal refl))

-- a signal's masks against each other
pub open_is : (written known : BitTable) (signal w k : ℕ) → w ≡ slice_index written.masks.items signal → k ≡ slice_index known.masks.items signal
    → some_below 128 (λ i. has_bit w i && not (has_bit k i)) ≡ is_open (bits_of written) (bits_of known) signal
open_is written known signal w k is_w is_k =
    some_same 128 (λ i. has_bit w i && not (has_bit k i)) (λ i. bits_of written signal i && not (bits_of known signal i))
    (λ i small. ap₂ (λ a b. a && not b) (ap (λ n. has_bit n i) is_w ∙ sym (low_bit written.masks.items signal i small))
    (ap (λ n. has_bit n i) is_k ∙ sym (low_bit known.masks.items signal i small)))

-- ---- what masks share with a table

shared_bit : (both m : ℕ) (table : BitTable) (signal mask s i : ℕ) → both ≡ bit_and mask m → m ≡ slice_index table.masks.items signal → i < 128
    → ((s == signal) && has_bit both i) ≡ (((s == signal) && has_bit mask i) && bits_of table s i)
shared_bit both m table signal mask s i is_both is_m small = by_cases (s == signal)
    (λ yes. let e : s ≡ signal = eqb-true s signal yes in
    ap (λ b. b && has_bit both i) yes ∙ ap (λ n. has_bit n i) is_both ∙ has_both mask m i
    ∙ ap (λ b. has_bit mask i && b) (ap (λ n. has_bit n i) (is_m ∙ ap (slice_index table.masks.items) (sym e)) ∙ sym (low_bit table.masks.items s i small))
    ∙ sym (ap (λ b. (b && has_bit mask i) && bits_of table s i) yes))
    (λ out. ap (λ b. b && has_bit both i) out ∙ sym (ap (λ b. (b && has_bit mask i) && bits_of table s i) out))

pub none_shared : (kept : List Touch) (both m : ℕ) (table : BitTable) (signal mask : ℕ) → both ≡ 0 → both ≡ bit_and mask m → m ≡ slice_index table.masks.items signal
    → Adds kept kept (λ s i. ((s == signal) && has_bit mask i) && bits_of table s i)
none_shared kept both m table signal mask is_none is_both is_m = record {
  says = λ s i small.
      sym (or-false (touched kept s i))
      ∙ ap (λ b. touched kept s i || b)
      (sym (sym (shared_bit both m table signal mask s i is_both is_m small) ∙ ap (λ n. (s == signal) && has_bit n i) is_none
      ∙ ap (λ b. (s == signal) && b) (no_bit i) ∙ and-false (s == signal)));
}

pub one_shared : (kept : List Touch) (both m : ℕ) (table : BitTable) (signal mask : ℕ) → both ≡ bit_and mask m → m ≡ slice_index table.masks.items signal
    → Adds kept (kept ++ record { signal = signal; mask = both } ∷ []) (λ s i. ((s == signal) && has_bit mask i) && bits_of table s i)
one_shared kept both m table signal mask is_both is_m =
    adds_one kept (record { signal = signal; mask = both }) (λ s i. ((s == signal) && has_bit mask i) && bits_of table s i)
    (λ s i small. shared_bit both m table signal mask s i is_both is_m small)

one_and_rest : (k t r b : Bool) → ((k || (t && b)) || (r && b)) ≡ (k || ((t || r) && b))
one_and_rest true t r b = refl
one_and_rest false true r true = refl
one_and_rest false true true false = refl
one_and_rest false true false false = refl
one_and_rest false false r b = refl

pub shared_next : (touches : List Touch) (k : ℕ) (x : Touch) (table : BitTable) (mid new : List Touch) (s i : ℕ) → k < length touches → x ≡ get_or touches k x
    → i < 128 → Adds mid new (λ s i. ((s == x.signal) && has_bit x.mask i) && bits_of table s i)
    → (touched new s i || (touched (drop (k + 1) touches) s i && bits_of table s i)) ≡ (touched mid s i || (touched (drop k touches) s i && bits_of table s i))
shared_next touches k x table mid new s i less is small adds =
    let rest = touched (drop (k + 1) touches) s i in
    ap (λ b. b || (rest && bits_of table s i)) (adds.says s i small)
    ∙ one_and_rest (touched mid s i) ((s == x.signal) && has_bit x.mask i) rest (bits_of table s i)
    ∙ ap (λ ts. touched mid s i || (touched ts s i && bits_of table s i)) (sym (drop_read touches k x less is))

-- ---- bits that are taken out

but_either : (k t r : Bool) → ((k && not t) && not r) ≡ (k && not (t || r))
but_either true true r = refl
but_either true false r = refl
but_either false t r = refl

pub forget_next : (touches : List Touch) (k : ℕ) (x : Touch) (mid new : BitTable) (s i : ℕ) → k < length touches → x ≡ get_or touches k x
    → bits_of new s i ≡ (bits_of mid s i && not ((s == x.signal) && has_bit x.mask i))
    → (bits_of new s i && not (touched (drop (k + 1) touches) s i)) ≡ (bits_of mid s i && not (touched (drop k touches) s i))
forget_next touches k x mid new s i less is took =
    let rest = touched (drop (k + 1) touches) s i in
    ap (λ b. b && not rest) took
    ∙ but_either (bits_of mid s i) ((s == x.signal) && has_bit x.mask i) rest
    ∙ ap (λ ts. bits_of mid s i && not (touched ts s i)) (sym (drop_read touches k x less is))

pub forget_done : (touches : List Touch) (k : ℕ) (table : BitTable) (whole : Bool) (s i : ℕ) → length touches ≤ k
    → (bits_of table s i && not (touched (drop k touches) s i)) ≡ whole → bits_of table s i ≡ whole
forget_done touches k table whole s i h left =
    sym (and-true (bits_of table s i)) ∙ sym (at_drop_all (λ (ts : List Touch). bits_of table s i && not (touched ts s i)) touches k h) ∙ left

-- ---- signals that are found

pub found_push : (s signal : ℕ) (xs : List ℕ) → is_member s (xs ++ signal ∷ []) ≡ (is_member s xs || (s == signal))
found_push s signal [] = or-false (s == signal)
found_push s signal (x ∷ xs) = ap (λ b. (s == x) || b) (found_push s signal xs) ∙ sym (or_assoc (s == x) (is_member s xs) (s == signal))

same_signal : (s signal : ℕ) (w k : Places) → ((s == signal) && is_open w k signal) ≡ ((s == signal) && is_open w k s)
same_signal s signal w k = by_cases (s == signal)
    (λ yes. ap (λ n. (s == signal) && is_open w k n) (sym (eqb-true s signal yes)))
    (λ out. ap (λ b. b && is_open w k signal) out ∙ sym (ap (λ b. b && is_open w k s) out))

-- a signal that has such a bit joins
pub found_open : (old : List ℕ) (signal : ℕ) (w k : Places) (s : ℕ) → is_open w k signal ≡ true
    → is_member s (old ++ signal ∷ []) ≡ (is_member s old || ((s == signal) && is_open w k s))
found_open old signal w k s has =
    found_push s signal old
    ∙ ap (λ b. is_member s old || b) (sym (ap (λ b. (s == signal) && b) has ∙ and-true (s == signal)) ∙ same_signal s signal w k)

-- and one that has none doesn't
pub found_none : (old : List ℕ) (signal : ℕ) (w k : Places) (s : ℕ) → is_open w k signal ≡ false
    → is_member s old ≡ (is_member s old || ((s == signal) && is_open w k s))
found_none old signal w k s out =
    sym (or-false (is_member s old))
    ∙ ap (λ b. is_member s old || b) (sym (and-false (s == signal)) ∙ sym (ap (λ b. (s == signal) && b) out) ∙ same_signal s signal w k)

-- ---- and taken out of the table

pub none_some : (n : ℕ) (test : ℕ → Bool) → ((i : ℕ) → i < n → test i ≡ false) → some_below n test ≡ false
unfolding some_below
none_some zero test h = refl
none_some (suc n) test h = ap₂ (λ a b. a || b) (h n (omega arith)) (none_some n test (λ i k. h i (omega (arith, k))))

pub cleared : (old new : BitTable) (signal : ℕ)
    → ((s i : ℕ) → bits_of new s i ≡ (bits_of old s i && not ((s == signal) && has_bit (2 ^ 128 - 1) i)))
    → (s i : ℕ) → bits_of new s i ≡ (bits_of old s i && not (s == signal))
cleared old new signal h s i = by_order i 128
    (λ small. h s i ∙ ap (λ b. bits_of old s i && not b) (whole_mask signal s i small))
    (λ big. high_bit new.masks.items s i big ∙ sym (ap (λ b. b && not (s == signal)) (high_bit old.masks.items s i big)))

open_cleared : (old new : BitTable) (signal : ℕ) (k : Places) → ((s i : ℕ) → bits_of new s i ≡ (bits_of old s i && not (s == signal)))
    → (s : ℕ) → is_open (bits_of new) k s ≡ (is_open (bits_of old) k s && not (s == signal))
open_cleared old new signal k h s = by_cases (s == signal)
    (λ same. none_some 128 (λ i. bits_of new s i && not (k s i))
    (λ i less. ap (λ b. b && not (k s i)) (h s i ∙ ap (λ b. bits_of old s i && not b) same ∙ and-false (bits_of old s i)))
    ∙ sym (ap (λ b. is_open (bits_of old) k s && not b) same ∙ and-false (is_open (bits_of old) k s)))
    (λ other. some_same 128 (λ i. bits_of new s i && not (k s i)) (λ i. bits_of old s i && not (k s i))
    (λ i less. ap (λ b. b && not (k s i)) (h s i ∙ ap (λ b. bits_of old s i && not b) other ∙ and-true (bits_of old s i)))
    ∙ sym (ap (λ b. is_open (bits_of old) k s && not b) other ∙ and-true (is_open (bits_of old) k s)))

distinct_push : (x : ℕ) (xs : List ℕ) → are_distinct xs ≡ true → is_member x xs ≡ false → are_distinct (xs ++ x ∷ []) ≡ true
distinct_push x [] h out = refl
distinct_push x (y ∷ xs) h out =
    and_from (not (is_member y (xs ++ x ∷ []))) (are_distinct (xs ++ x ∷ []))
    (not_from_false (is_member y (xs ++ x ∷ []))
    (found_push y x xs
    ∙ or_from (is_member y xs) (y == x) (not-true (is_member y xs) (and_left (not (is_member y xs)) (are_distinct xs) h))
    (turned y x ∙ (or_parts (x == y) (is_member x xs) out).0)))
    (distinct_push x xs (and_right (not (is_member y xs)) (are_distinct xs) h) (or_parts (x == y) (is_member x xs) out).1)

-- a signal that had such a bit
pub taken_open : (found : List ℕ) (signal : ℕ) (old new known : BitTable) → AreTaken found old known → is_open (bits_of old) (bits_of known) signal ≡ true
    → ((s i : ℕ) → bits_of new s i ≡ (bits_of old s i && not (s == signal))) → AreTaken (found ++ signal ∷ []) new known
taken_open found signal old new known h some bits = record {
  once = distinct_push signal found h.once
      (by_cases (is_member signal found) (λ is. absurd (true≢false (sym some ∙ h.done signal is))) (λ out. out));
  done = λ s is.
      open_cleared old new signal (bits_of known) bits s
      ∙ by_cases (s == signal)
      (λ same. ap (λ b. is_open (bits_of old) (bits_of known) s && not b) same ∙ and-false (is_open (bits_of old) (bits_of known) s))
      (λ other. still_closed (is_open (bits_of old) (bits_of known) s) (not (s == signal))
      (h.done s (before s other (sym (found_push s signal found) ∙ is))));
}
  where
    before : (s : ℕ) → (s == signal) ≡ false → (is_member s found || (s == signal)) ≡ true → is_member s found ≡ true
    before s other is = sym (ap (λ b. is_member s found || b) other ∙ or-false (is_member s found)) ∙ is

-- a signal that had none
pub taken_none : (found : List ℕ) (signal : ℕ) (old new known : BitTable) → AreTaken found old known
    → ((s i : ℕ) → bits_of new s i ≡ (bits_of old s i && not (s == signal))) → AreTaken found new known
taken_none found signal old new known h bits = record {
  once = h.once;
  done = λ s is.
      open_cleared old new signal (bits_of known) bits s
      ∙ still_closed (is_open (bits_of old) (bits_of known) s) (not (s == signal)) (h.done s is);
}

of_both : (f n r o : Bool) → ((f || (n && o)) || (r && (o && not n))) ≡ (f || ((n || r) && o))
of_both true n r o = refl
of_both false true true true = refl
of_both false true false true = refl
of_both false true true false = refl
of_both false true false false = refl
of_both false false r true = refl
of_both false false true false = refl
of_both false false false false = refl

pub taken_next : (touches : List Touch) (k : ℕ) (x : Touch) (old new : BitTable) (n : Places) (mid more : List ℕ) (s : ℕ) → k < length touches → x ≡ get_or touches k x
    → is_member s more ≡ (is_member s mid || ((s == x.signal) && is_open (bits_of old) n s))
    → ((s i : ℕ) → bits_of new s i ≡ (bits_of old s i && not (s == x.signal)))
    → (is_member s more || (is_named (drop (k + 1) touches) s && is_open (bits_of new) n s)) ≡ (is_member s mid || (is_named (drop k touches) s && is_open (bits_of old) n s))
taken_next touches k x old new n mid more s less is step bits =
    let rest = is_named (drop (k + 1) touches) s in
    ap₂ (λ a b. a || (rest && b)) step (open_cleared old new x.signal n bits s)
    ∙ of_both (is_member s mid) (s == x.signal) rest (is_open (bits_of old) n s)
    ∙ ap (λ ts. is_member s mid || (is_named ts s && is_open (bits_of old) n s)) (sym (drop_read touches k x less is))

pub cleared_next : (touches : List Touch) (k : ℕ) (x : Touch) (mid new : BitTable) (s i : ℕ) → k < length touches → x ≡ get_or touches k x
    → bits_of new s i ≡ (bits_of mid s i && not (s == x.signal))
    → (bits_of new s i && not (is_named (drop (k + 1) touches) s)) ≡ (bits_of mid s i && not (is_named (drop k touches) s))
cleared_next touches k x mid new s i less is took =
    let rest = is_named (drop (k + 1) touches) s in
    ap (λ b. b && not rest) took
    ∙ but_either (bits_of mid s i) (s == x.signal) rest
    ∙ ap (λ ts. bits_of mid s i && not (is_named ts s)) (sym (drop_read touches k x less is))
