-- What was put to a list of drivers, part by part.
use Rattle.std.proofs.Common.{◌≡◌, ◌<◌, ◌≤◌, ◌+◌, ◌-◌, ◌==◌, ◌&&◌, ◌||◌, ℕ, Bool, true, false, cond, not, min, max, nat_le, nat_lt, ◌⊎◌, List, [], ◌∷◌, ◌++◌, refl, sym, ◌∙◌, ap, ap₂, subst, arith, true≢false}
use Rattle.std.proofs.Math.Bool.{or-false, and-false, and_assoc, and-true}
use Rattle.std.proofs.lemmas.Bool.{le-leb, lt-leb, lt-ltb, le-ltb, leb-true, leb-false, ltb-true, ltb-false}
use Rattle.typed_ir.specs.Valuations.{Places, within}
use Rattle.typed_ir.specs.declared.span.Span.{Span}
use Rattle.typed_ir.specs.Orders.{Each}
use Rattle.typed_ir.specs.Touches.{has_bit}
use Rattle.typed_ir.proofs.Cases.{by_cases, by_order}
use Rattle.typed_ir.specs.Trees.{count}
use Rattle.driver_rules.specs.declared.driver.Driver.{Driver}
use Rattle.driver_rules.specs.declared.driver_id.DriverId.{DriverId}
use Rattle.driver_rules.specs.Told.{covers, IsRange, Puts, free_run}

pub count_more : {A : Type 0} (f : A → Bool) (xs : List A) (x : A) → count f (xs ++ x ∷ []) ≡ count f xs + cond (f x) 1 0
count_more f [] x = omega arith
count_more f (y ∷ ys) x = ap (λ n. cond (f y) 1 0 + n) (count_more f ys x) ∙ omega arith

pub each_more : {A : Type 0} (P : A → Type 0) (xs : List A) (x : A) → Each P xs → P x → Each P (xs ++ x ∷ [])
each_more P [] x all one = (one, tt)
each_more P (y ∷ ys) x all one = (all.0, each_more P ys x all.1 one)

-- ---- sets of bits

sums : (f p q : Bool) (n : ℕ) → (p ≡ true → q ≡ false) → n + cond (f && p) 1 0 + cond (f && q) 1 0 ≡ n + cond (f && (p || q)) 1 0
sums false p q n h = omega arith
sums true true true n h = absurd (true≢false (h refl))
sums true true false n h = omega arith
sums true false true n h = omega arith
sums true false false n h = omega arith

-- in two goes, none twice
pub puts_two : (by : DriverId) (a b c : List Driver) (p q : Places) → Puts by a b p → Puts by b c q
    → ((s i : ℕ) → i < 128 → p s i ≡ true → q s i ≡ false) → Puts by a c (λ s i. p s i || q s i)
puts_two by a b c p q h k apart = record {
  told = λ f s i small. k.told f s i small ∙ ap (λ n. n + cond (f by && q s i) 1 0) (h.told f s i small)
      ∙ sums (f by) (p s i) (q s i) (count (λ (d : Driver). f d.by && covers s i d) a) (apart s i small);
  ranges = λ all. k.ranges (h.ranges all);
}

-- the same bits
pub puts_same : (by : DriverId) (a b : List Driver) (p q : Places) → Puts by a b p → ((s i : ℕ) → i < 128 → p s i ≡ q s i) → Puts by a b q
puts_same by a b p q h same = record {
  told = λ f s i small. h.told f s i small
      ∙ ap (λ t. count (λ (d : Driver). f d.by && covers s i d) a + cond (f by && t) 1 0) (same s i small);
  ranges = h.ranges;
}

no_more : (f p : Bool) (n : ℕ) → p ≡ false → n ≡ n + cond (f && p) 1 0
no_more f true n h = absurd (true≢false h)
no_more true false n h = omega arith
no_more false false n h = omega arith

-- none
pub puts_none : (by : DriverId) (a : List Driver) (p : Places) → ((s i : ℕ) → i < 128 → p s i ≡ false) → Puts by a a p
puts_none by a p none = record {
  told = λ f s i small. no_more (f by) (p s i) (count (λ (d : Driver). f d.by && covers s i d) a) (none s i small);
  ranges = λ all. all;
}

-- one run
pub puts_run : (by : DriverId) (a b : List Driver) (signal low end : ℕ) (d : Driver) → low < end → end ≤ 128
    → d.signal ≡ signal → d.low ≡ low → d.high ≡ end - 1 → d.by ≡ by → b ≡ a ++ d ∷ []
    → Puts by a b (λ s i. (s == signal) && (nat_le low i && nat_lt i end))
puts_run by a b signal low end d some top of from to owner more = record {
  told = λ f s i small.
      ap (count (λ (x : Driver). f x.by && covers s i x)) more
      ∙ count_more (λ (x : Driver). f x.by && covers s i x) a d
      ∙ ap (λ t. count (λ (x : Driver). f x.by && covers s i x) a + cond t 1 0) (same f s i);
  ranges = λ all. (let whole : Each IsRange (a ++ d ∷ []) = each_more IsRange a d all ((omega (arith, from, to, some), omega (arith, to, some, top))) in
      subst (Each IsRange) (sym more) whole);
}
  where
    last : (i : ℕ) → nat_le i d.high ≡ nat_lt i end
    last i = by_order i end
        (λ h. le-leb i d.high (omega (arith, h, to, some)) ∙ sym (lt-ltb i end h))
        (λ h. lt-leb i d.high (omega (arith, h, to, some)) ∙ sym (le-ltb i end h))

    same : (f : DriverId → Bool) (s i : ℕ) → (f d.by && covers s i d) ≡ (f by && ((s == signal) && (nat_le low i && nat_lt i end)))
    same f s i = ap₂ (λ o t. f o && t) owner
        (ap₂ (λ n t. (s == n) && t) of (ap₂ (λ m t. nat_le m i && t) from (last i)))

-- ---- runs of bits that a mask doesn't have

pub free_none : (signal mask low s i : ℕ) → free_run signal mask low low s i ≡ false
free_none signal mask low s i = by_order i low
    (λ h. ap (λ t. (s == signal) && ((t && nat_lt i low) && not (has_bit mask i))) (lt-leb low i h) ∙ and-false (s == signal))
    (λ h. ap (λ t. (s == signal) && ((nat_le low i && t) && not (has_bit mask i))) (le-ltb i low h)
    ∙ ap (λ t. (s == signal) && (t && not (has_bit mask i))) (and-false (nat_le low i)) ∙ and-false (s == signal))

-- a run all of whose bits are free
pub free_all : (signal mask low end s i : ℕ) → ((b : ℕ) → low ≤ b → b < end → has_bit mask b ≡ false)
    → ((s == signal) && (nat_le low i && nat_lt i end)) ≡ free_run signal mask low end s i
free_all signal mask low end s i free = ap (λ t. (s == signal) && t) (by_order i low
    (λ h. ap (λ t. t && nat_lt i end) (lt-leb low i h) ∙ sym (ap (λ t. (t && nat_lt i end) && not (has_bit mask i)) (lt-leb low i h)))
    (λ h. by_order i end
    (λ k. sym (ap (λ t. (nat_le low i && nat_lt i end) && not t) (free i h k) ∙ and-true (nat_le low i && nat_lt i end)))
    (λ k. let e = le-ltb i end k in
    ap (λ t. nat_le low i && t) e ∙ and-false (nat_le low i)
    ∙ sym (ap (λ t. (nat_le low i && t) && not (has_bit mask i)) e ∙ ap (λ t. t && not (has_bit mask i)) (and-false (nat_le low i))))))

-- a run that ends before a bit that the mask has
pub free_next : (signal mask low i s b : ℕ) → low ≤ i → has_bit mask i ≡ true
    → free_run signal mask low i s b ≡ free_run signal mask low (i + 1) s b
free_next signal mask low i s b order bit = ap (λ t. (s == signal) && t) (by_order b i
    (λ h. ap (λ t. (nat_le low b && t) && not (has_bit mask b)) (lt-ltb b i h ∙ sym (lt-ltb b (i + 1) (omega (arith, h)))))
    (λ h. by_order i b
    (λ k. ap (λ t. (nat_le low b && t) && not (has_bit mask b)) (le-ltb b i h ∙ sym (le-ltb b (i + 1) (omega (arith, k)))))
    (λ k. let e : b ≡ i = omega (arith, h, k) in
    ap (λ t. (nat_le low b && t) && not (has_bit mask b)) (le-ltb b i h)
    ∙ ap (λ t. t && not (has_bit mask b)) (and-false (nat_le low b))
    ∙ sym (ap (λ t. (nat_le low b && nat_lt b (i + 1)) && not t) (ap (has_bit mask) e ∙ bit) ∙ and-false (nat_le low b && nat_lt b (i + 1))))))

-- a run and the next one
pub free_apart : (signal mask first low next s i : ℕ) → free_run signal mask first low s i ≡ true → free_run signal mask low next s i ≡ false
free_apart signal mask first low next s i h = by_order i low
    (λ k. ap (λ t. (s == signal) && ((t && nat_lt i next) && not (has_bit mask i))) (lt-leb low i k) ∙ and-false (s == signal))
    (λ k. absurd (true≢false (sym h
    ∙ ap (λ t. (s == signal) && ((nat_le first i && t) && not (has_bit mask i))) (le-ltb i low k)
    ∙ ap (λ t. (s == signal) && (t && not (has_bit mask i))) (and-false (nat_le first i)) ∙ and-false (s == signal))))

pub free_joined : (signal mask first low next s i : ℕ) → first ≤ low → low ≤ next
    → (free_run signal mask first low s i || free_run signal mask low next s i) ≡ free_run signal mask first next s i
free_joined signal mask first low next s i one two = by_order i low
    (λ h. ap₂ (λ t u. ((s == signal) && ((nat_le first i && t) && not (has_bit mask i))) || ((s == signal) && ((u && nat_lt i next) && not (has_bit mask i))))
    (lt-ltb i low h) (lt-leb low i h)
    ∙ ap (λ t. ((s == signal) && ((nat_le first i && true) && not (has_bit mask i))) || t) (and-false (s == signal))
    ∙ or-false ((s == signal) && ((nat_le first i && true) && not (has_bit mask i)))
    ∙ ap (λ t. (s == signal) && ((nat_le first i && t) && not (has_bit mask i))) (sym (lt-ltb i next (omega (arith, h, two)))))
    (λ h. ap₂ (λ t u. ((s == signal) && ((nat_le first i && t) && not (has_bit mask i))) || ((s == signal) && ((u && nat_lt i next) && not (has_bit mask i))))
    (le-ltb i low h) (le-leb low i h)
    ∙ ap (λ t. ((s == signal) && (t && not (has_bit mask i))) || ((s == signal) && (nat_lt i next && not (has_bit mask i)))) (and-false (nat_le first i))
    ∙ ap (λ t. t || ((s == signal) && (nat_lt i next && not (has_bit mask i)))) (and-false (s == signal))
    ∙ ap (λ t. (s == signal) && ((t && nat_lt i next) && not (has_bit mask i))) (sym (le-leb first i (omega (arith, h, one)))))

pub run_apart : (signal mask first low end s i : ℕ) → free_run signal mask first low s i ≡ true → ((s == signal) && (nat_le low i && nat_lt i end)) ≡ false
run_apart signal mask first low end s i h = by_order i low
    (λ k. ap (λ t. (s == signal) && (t && nat_lt i end)) (lt-leb low i k) ∙ and-false (s == signal))
    (λ k. absurd (true≢false (sym h
    ∙ ap (λ t. (s == signal) && ((nat_le first i && t) && not (has_bit mask i))) (le-ltb i low k)
    ∙ ap (λ t. (s == signal) && (t && not (has_bit mask i))) (and-false (nat_le first i)) ∙ and-false (s == signal))))

-- with the last run all of a span is put
pub runs_done : (signal first width mask low end i s b : ℕ) → first ≤ low → low ≤ i → end ≤ i → i ≤ max first end → end ≡ min (first + width) 128
    → ((k : ℕ) → low ≤ k → k < i → has_bit mask k ≡ false) → b < 128
    → (free_run signal mask first low s b || ((s == signal) && (nat_le low b && nat_lt b end)))
    ≡ (((s == signal) && (nat_le first b && nat_lt b (first + width))) && not (has_bit mask b))
runs_done signal first width mask low end i s b from order past top is free small = by_order end first
    (λ h. let none : nat_le first b ≡ false = lt-leb first b (omega (arith, h, is, small)) in
    let none_too : nat_le low b ≡ false = lt-leb low b (omega (arith, h, is, small, from)) in
    ap₂ (λ t u. ((s == signal) && ((t && nat_lt b low) && not (has_bit mask b))) || ((s == signal) && (u && nat_lt b end))) none none_too
    ∙ ap (λ t. t || t) (and-false (s == signal))
    ∙ sym (ap (λ t. ((s == signal) && (t && nat_lt b (first + width))) && not (has_bit mask b)) none ∙ ap (λ t. t && not (has_bit mask b)) (and-false (s == signal))))
    (λ h. let same : i ≡ end = omega (arith, past, top, h) in
    ap (λ t. free_run signal mask first low s b || t) (free_all signal mask low end s b (λ k a z. free k a (omega (arith, z, same))))
    ∙ free_joined signal mask first low end s b from (omega (arith, order, same))
    ∙ ap (λ t. (s == signal) && ((nat_le first b && t) && not (has_bit mask b))) (ends h)
    ∙ sym (and_assoc (s == signal) (nat_le first b && nat_lt b (first + width)) (not (has_bit mask b))))
  where
    ends : first ≤ end → nat_lt b end ≡ nat_lt b (first + width)
    ends h = by_order b end
        (λ k. lt-ltb b end k ∙ sym (lt-ltb b (first + width) (omega (arith, k, is))))
        (λ k. le-ltb b end k ∙ sym (le-ltb b (first + width) (omega (arith, k, is, small))))
