-- Bits that join a table, part by part, and parts that have a bit of it.
use Rattle.std.proofs.Common.{◌≡◌, ◌<◌, ◌≤◌, ◌+◌, ◌&&◌, ◌||◌, ℕ, zero, suc, Bool, true, false, cond, not, List, [], ◌∷◌, ◌++◌, map, drop, take, length, get_or, set, nat_le, nat_lt, refl, sym, ◌∙◌, ap, ap₂, subst, arith, true≢false}
use Rattle.std.proofs.Math.Bool.{or-false, or_assoc, and-not_self}
use Rattle.typed_ir.specs.declared.span.Span.{Span}
use Rattle.typed_ir.specs.Valuations.{Places, within, any_within, nowhere}
use Rattle.std.specs.Prelude.{bit_or, slice_index}
use Rattle.std.proofs.lemmas.List.{take_all}
use Rattle.typed_ir.specs.Touches.{has_bit}
use Rattle.typed_ir.specs.Orders.{Each}
use Rattle.typed_ir.proofs.Lists.{drop_read, take_next}
use Rattle.typed_ir.proofs.Locals.{any_within-append}
use Rattle.block_rules.specs.Paths.{true_from}
use Rattle.block_rules.proofs.Knowing.{some_same}
use Rattle.driver_rules.specs.declared.driver.Driver.{Driver}
use Rattle.driver_rules.specs.declared.driver_id.DriverId.{DriverId}
use Rattle.driver_rules.specs.Doubles.{meets, overlaps}
use Rattle.driver_rules.specs.Told.{marked, joined, Puts, Grows}
use Rattle.driver_rules.proofs.Bits.{marks_part, part_joined}
use Rattle.driver_rules.proofs.Lists.{flag_next}
use Rattle.driver_rules.proofs.Runs.{puts_two, puts_same, puts_none}

pub each_read : {A : Type 0} (P : A → Type 0) (xs : List A) (k : ℕ) (x : A) → Each P xs → k < length xs → x ≡ get_or xs k x → P x
each_read P [] k x all h is = absurd (omega (arith, h))
each_read P (y ∷ ys) zero x all h is = subst P (sym is) all.0
each_read P (y ∷ ys) (suc k) x all h is = each_read P ys k x all.1 (omega (arith, h)) is

-- ---- the same bits

pub meets_same : (p q : Places) (span : Span) → ((s i : ℕ) → i < 128 → p s i ≡ q s i) → meets p span ≡ meets q span
meets_same p q span h = some_same 128 (λ i. within span span.signal i && p span.signal i) (λ i. within span span.signal i && q span.signal i)
    (λ i small. ap (λ b. within span span.signal i && b) (h span.signal i small))

pub overlaps_same : (p q : Places) (spans : List Span) → ((s i : ℕ) → i < 128 → p s i ≡ q s i) → overlaps p spans ≡ overlaps q spans
overlaps_same p q [] h = refl
overlaps_same p q (x ∷ xs) h = ap₂ (λ b bs. b ∷ bs) (meets_same p q x h)
    (overlaps_same (λ s i. p s i || within x s i) (λ s i. q s i || within x s i) xs (λ s i small. ap (λ b. b || within x s i) (h s i small)))

-- one more part of a target
pub overlap_next : (spans : List Span) (k : ℕ) (x : Span) (flag : Bool) (old new : List ℕ) (table more : List ℕ) → k < length spans → x ≡ get_or spans k x
    → flag ≡ meets (marked table) x → new ≡ cond flag (old ++ k ∷ []) old
    → ((s i : ℕ) → i < 128 → marked more s i ≡ (marked table s i || within x s i))
    → new ++ true_from (k + 1) (overlaps (marked more) (drop (k + 1) spans)) ≡ old ++ true_from k (overlaps (marked table) (drop k spans))
overlap_next spans k x flag old new table more h is same grows takes =
    let rest = drop (k + 1) spans in
    let next : suc k ≡ k + 1 = omega arith in
    ap (λ ns. ns ++ true_from (k + 1) (overlaps (marked more) rest)) grows
    ∙ flag_next flag old k (k + 1) (overlaps (marked more) rest) next
    ∙ ap₂ (λ b bs. old ++ true_from k (b ∷ bs)) same (overlaps_same (marked more) (λ s i. marked table s i || within x s i) rest takes)
    ∙ ap (λ zs. old ++ true_from k (overlaps (marked table) zs)) (sym (drop_read spans k x h is))

-- ---- a table that takes bits

joins : (a b c p q : Bool) → b ≡ (a || p) → c ≡ (b || q) → ((b && not a) || (c && not b)) ≡ (c && not a)
joins true true true p q e f = refl
joins true true false p q e f = refl
joins true false c p q e f = absurd (true≢false (sym e))
joins false true true p q e f = refl
joins false true false p q e f = absurd (true≢false (sym f))
joins false false true p q e f = refl
joins false false false p q e f = refl

new_once : (a b c : Bool) → (b && not a) ≡ true → (c && not b) ≡ false
new_once a true true h = refl
new_once a true false h = refl
new_once a false c h = absurd (true≢false (sym h))

pub grows_two : (by : DriverId) (t u v : List ℕ) (a b c : List Driver) (p q : Places) → Grows by t u a b p → Grows by u v b c q
    → Grows by t v a c (λ s i. p s i || q s i)
grows_two by t u v a b c p q h k = record {
  taken = λ s i small. k.taken s i small ∙ ap (λ z. z || q s i) (h.taken s i small) ∙ or_assoc (marked t s i) (p s i) (q s i);
  puts = puts_same by a c (λ s i. joined t u s i || joined u v s i) (joined t v)
      (puts_two by a b c (joined t u) (joined u v) h.puts k.puts (λ s i small. new_once (marked t s i) (marked u s i) (marked v s i)))
      (λ s i small. joins (marked t s i) (marked u s i) (marked v s i) (p s i) (q s i) (h.taken s i small) (k.taken s i small));
}

pub grows_same : (by : DriverId) (t u : List ℕ) (a b : List Driver) (p q : Places) → Grows by t u a b p → ((s i : ℕ) → i < 128 → p s i ≡ q s i) → Grows by t u a b q
grows_same by t u a b p q h same = record {
  taken = λ s i small. h.taken s i small ∙ ap (λ z. marked t s i || z) (same s i small);
  puts = h.puts;
}

pub grows_none : (by : DriverId) (t : List ℕ) (a : List Driver) → Grows by t t a a nowhere
grows_none by t a = record {
  taken = λ s i small. sym (or-false (marked t s i));
  puts = puts_none by a (joined t t) (λ s i small. and-not_self (marked t s i));
}

-- one more span
pub grows_next : (by : DriverId) (t u v : List ℕ) (a b c : List Driver) (spans : List Span) (k : ℕ) (x : Span) → k < length spans → x ≡ get_or spans k x
    → Grows by t u a b (any_within (take k spans)) → Grows by u v b c (within x) → Grows by t v a c (any_within (take (k + 1) spans))
grows_next by t u v a b c spans k x h is one two =
    grows_same by t v a c (λ s i. any_within (take k spans) s i || within x s i) (any_within (take (k + 1) spans))
    (grows_two by t u v a b c (any_within (take k spans)) (within x) one two)
    (λ s i small. sym (ap (λ zs. any_within zs s i) (take_next spans k x h is)
    ∙ any_within-append (take k spans) (x ∷ []) s i
    ∙ ap (λ z. any_within (take k spans) s i || z) (or-false (within x s i))))

pub grows_all : (by : DriverId) (t u : List ℕ) (a b : List Driver) (spans : List Span) (k : ℕ) → length spans ≤ k
    → Grows by t u a b (any_within (take k spans)) → Grows by t u a b (any_within spans)
grows_all by t u a b spans k h g = subst (λ zs. Grows by t u a b (any_within zs)) (take_all k spans h) g

-- one part
pub part_grows : (by : DriverId) (table : List ℕ) (place : ℕ) (p : Span) (mask old : ℕ) (a b : List Driver) → place ≡ p.signal → p.signal < length table
    → old ≡ slice_index table place
    → ((i : ℕ) → i < 128 → has_bit mask i ≡ (nat_le p.low i && nat_lt i (p.low + p.width)))
    → Puts by a b (λ s i. within p s i && not (has_bit old i)) → Grows by table (set table place (bit_or old mask)) a b (within p)
part_grows by table place p mask old a b e inside is run puts =
    let new = set table place (bit_or old mask) in
    let here : old ≡ slice_index table p.signal = is ∙ ap (slice_index table) e in
    let taken : (s i : ℕ) → i < 128 → marked new s i ≡ (marked table s i || within p s i) =
    λ s i small. ap (λ z. marked (set table z (bit_or old mask)) s i) e ∙ marks_part table p mask old s i inside here (run i small) in
    record {
      taken = taken;
      puts = puts_same by a b (λ s i. within p s i && not (has_bit old i)) (joined table new) puts
          (λ s i small. part_joined table new p old s i here (taken s i small));
    }
