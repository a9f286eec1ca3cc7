-- A table that moves places one to one, and registers side by side.
use Rattle.std.proofs.Common.{true, ◌≡◌, ℕ, zero, suc, ◌+◌, ◌*◌, ◌-◌, ◌<◌, ◌≤◌, ◌==◌, nat_lt, inl, inr, List, [], ◌∷◌, length, get_or, set, drop, refl, sym, ap, ◌∙◌, subst, arith, get_or-set_same, get_or-set_other}
use Rattle.std.specs.Prelude.{if◌then◌else◌}
use Rattle.std.specs.List.{swap, range_with_len}
use Rattle.std.proofs.lemmas.Bool.{ltb-true, ltb-false, eqb-true, eqb-false, cond-true, cond-false}
use Rattle.std.proofs.lemmas.List.{length-set, get_or_default, get_or_past}
use Rattle.std.proofs.lemmas.List.Edits.{length-swap}
use Rattle.std.proofs.lemmas.List.FromFn.{length-range_with_len, get_or-range_with_len}
use Rattle.typed_ir.specs.Orders.{Member, Distinct}
use Rattle.typed_ir.specs.Flats.{are_below}
use Rattle.typed_ir.proofs.Cases.{by_cases, and_left, and_right}
use Rattle.typed_ir.proofs.Lists.{drop_split}
use Rattle.design_steps.specs.Moves.{moved, gather, gathered}
use Rattle.design_steps.proofs.Copied.{below_member}

-- ---- one swap

-- the other one of two places
abbrev turned : ℕ → ℕ → ℕ → ℕ
turned a b k = if k == b then a else if k == a then b else k

swap_at : (t : List ℕ) (a b k d : ℕ) → a < length t → b < length t → get_or (swap t a b) k d ≡ get_or t (turned a b k) d
swap_at [] a b k d near far = absurd (omega (arith, near))
swap_at (e ∷ ys) a b k d near far = by_cases (k == b)
    (λ yes. let same = eqb-true k b yes in
    ap (λ i. get_or (set first b (get_or t a e)) i d) same
    ∙ get_or-set_same first b (get_or t a e) d (let long = length-set t a (get_or t b e) in omega (arith, far, long))
    ∙ get_or_default t a e d near
    ∙ ap (λ i. get_or t i d) (sym (cond-true (k == b) a (if k == a then b else k) yes)))
    (λ no.
    get_or-set_other first b k (get_or t a e) d (eqb-false k b no)
    ∙ rest (λ same. ap (λ i. get_or (set t a (get_or t b e)) i d) same ∙ get_or-set_same t a (get_or t b e) d near ∙ get_or_default t b e d far)
    (λ other. get_or-set_other t a k (get_or t b e) d other)
    ∙ ap (λ i. get_or t i d) (sym (cond-false (k == b) a (if k == a then b else k) no)))
  where
    t : List ℕ
    t = e ∷ ys

    first : List ℕ
    first = set t a (get_or t b e)

    rest : (k ≡ a → get_or first k d ≡ get_or t b d) → ((k ≡ a → ⊥) → get_or first k d ≡ get_or t k d) → get_or first k d ≡ get_or t (if k == a then b else k) d
    rest same other = by_cases (k == a)
        (λ yes. same (eqb-true k a yes) ∙ ap (λ i. get_or t i d) (sym (cond-true (k == a) b k yes)))
        (λ no. other (eqb-false k a no) ∙ ap (λ i. get_or t i d) (sym (cond-false (k == a) b k no)))

beyond : (t : List ℕ) (k : ℕ) → length t ≤ k → moved t k ≡ k
beyond t k h = get_or_past t k k h

-- the turn of a place within the table lies there too
turned_less : (n a b k : ℕ) → a < n → b < n → k < n → turned a b k < n
turned_less n a b k ha hb hk = by_cases (k == b)
    (λ yes. subst (λ x. x < n) (sym (cond-true (k == b) a (if k == a then b else k) yes)) ha)
    (λ no. subst (λ x. x < n) (sym (cond-false (k == b) a (if k == a then b else k) no)) (by_cases (k == a)
    (λ yes. subst (λ x. x < n) (sym (cond-true (k == a) b k yes)) hb)
    (λ other. subst (λ x. x < n) (sym (cond-false (k == a) b k other)) hk)))

turned_first : (a b : ℕ) → turned a b a ≡ b
turned_first a b = by_cases (a == b)
    (λ yes. cond-true (a == b) a (if a == a then b else a) yes ∙ eqb-true a b yes)
    (λ no. cond-false (a == b) a (if a == a then b else a) no ∙ same)
  where
    same : (if a == a then b else a) ≡ b
    same = by_cases (a == a) (λ yes. cond-true (a == a) b a yes) (λ no. absurd (eqb-false a a no refl))

turned_second : (a b : ℕ) → turned a b b ≡ a
turned_second a b = by_cases (b == b) (λ yes. cond-true (b == b) a (if b == a then b else b) yes) (λ no. absurd (eqb-false b b no refl))

turned_other : (a b k : ℕ) → (k ≡ a → ⊥) → (k ≡ b → ⊥) → turned a b k ≡ k
turned_other a b k ha hb = by_cases (k == b)
    (λ yes. absurd (hb (eqb-true k b yes)))
    (λ no. cond-false (k == b) a (if k == a then b else k) no ∙ by_cases (k == a)
    (λ yes. absurd (ha (eqb-true k a yes)))
    (λ other. cond-false (k == a) b k other))

turned_twice : (a b k : ℕ) → turned a b (turned a b k) ≡ k
turned_twice a b k = by_cases (k == b)
    (λ yes. let e = eqb-true k b yes in ap (λ x. turned a b (turned a b x)) e ∙ ap (turned a b) (turned_second a b) ∙ turned_first a b ∙ sym e)
    (λ no. by_cases (k == a)
    (λ yes. let e = eqb-true k a yes in ap (λ x. turned a b (turned a b x)) e ∙ ap (turned a b) (turned_first a b) ∙ turned_second a b ∙ sym e)
    (λ other. let e = turned_other a b k (eqb-false k a other) (eqb-false k b no) in ap (turned a b) e ∙ e))

pub swap_moved : (t : List ℕ) (a b k : ℕ) → a < length t → b < length t → moved (swap t a b) k ≡ moved t (turned a b k)
swap_moved t a b k near far = by_cases (nat_lt k (length t))
    (λ yes. let less = ltb-true k (length t) yes in swap_at t a b k k near far ∙ get_or_default t (turned a b k) k (turned a b k) (turned_less (length t) a b k near far less))
    (λ no. let more : length t ≤ k = ltb-false k (length t) no in
    beyond (swap t a b) k (let e = length-swap t a b in omega (arith, e, more))
    ∙ sym (beyond t k more)
    ∙ ap (moved t) (sym (turned_other a b k (λ e. omega (arith, e, near, more)) (λ e. omega (arith, e, far, more)))))

-- ---- tables of so many places, which move them one to one

pub record IsTable (t : List ℕ) (n : ℕ) : Type 0 where
  pub long : length t ≡ n
  pub once : (a b : ℕ) → moved t a ≡ moved t b → a ≡ b
  pub few : (k : ℕ) → k < n → moved t k < n

-- at first nothing is moved
pub first_moved : (n k : ℕ) → moved (range_with_len 0 n) k ≡ k
first_moved n k = by_cases (nat_lt k n)
    (λ yes. let e : 0 + k ≡ k = omega arith in get_or-range_with_len 0 n k k (ltb-true k n yes) ∙ e)
    (λ no. let more = ltb-false k n no in beyond (range_with_len 0 n) k (let e = length-range_with_len 0 n in omega (arith, e, more)))

pub first_table : (n : ℕ) → IsTable (range_with_len 0 n) n
first_table n = record {
  long = length-range_with_len 0 n;
  once = λ a b e. sym (first_moved n a) ∙ e ∙ first_moved n b;
  few = λ k h. subst (λ x. x < n) (sym (first_moved n k)) h;
}

swap_table : (t : List ℕ) (n a b : ℕ) → a < n → b < n → IsTable t n → IsTable (swap t a b) n
swap_table t n a b ha hb is =
    let near : a < length t = (let e = is.long in omega (arith, e, ha)) in
    let far : b < length t = (let e = is.long in omega (arith, e, hb)) in
    record {
      long = length-swap t a b ∙ is.long;
      once = λ x y e. sym (turned_twice a b x)
          ∙ ap (turned a b) (is.once (turned a b x) (turned a b y) (sym (swap_moved t a b x near far) ∙ e ∙ swap_moved t a b y near far))
          ∙ turned_twice a b y;
      few = λ k h. subst (λ x. x < n) (sym (swap_moved t a b k near far)) (is.few (turned a b k) (turned_less n a b k ha hb h));
    }

-- ---- registers, one after another

-- one register's places
abbrev pub both_swapped : List ℕ → ℕ → ℕ → ℕ → ℕ → List ℕ
both_swapped t n own next r = swap (swap t (r + 1) own) (r + 1 + n) next

pub both_long : (t : List ℕ) (n own next r : ℕ) → length (both_swapped t n own next r) ≡ length t
both_long t n own next r = length-swap (swap t (r + 1) own) (r + 1 + n) next ∙ length-swap t (r + 1) own

-- where a register and its next value fit
record Fits (n own next count room : ℕ) : Type 0 where
  apart : 2 * n + 1 ≤ own
  behind : own + count ≤ next
  within : next + count ≤ room

both_table : (t : List ℕ) (n own next count room r : ℕ) → Fits n own next (count + 1) room → r < n → IsTable t room → IsTable (both_swapped t n own next r) room
both_table t n own next count room r f less is =
    let a = f.apart in
    let b = f.behind in
    let c = f.within in
    swap_table (swap t (r + 1) own) room (r + 1 + n) next (omega (arith, a, b, c, less)) (omega (arith, c))
    (swap_table t room (r + 1) own (omega (arith, a, b, c, less)) (omega (arith, b, c)) is)

fits_less : (n own next count room : ℕ) → Fits n own next (count + 1) room → Fits n (own + 1) (next + 1) count room
fits_less n own next count room f =
    let a = f.apart in
    let b = f.behind in
    let c = f.within in
    record { apart = omega (arith, a); behind = omega (arith, b); within = omega (arith, c) }

-- what one register's swaps leave
both_other : (t : List ℕ) (n own next count room r k : ℕ) → Fits n own next (count + 1) room → r < n → IsTable t room
    → (k ≡ r + 1 → ⊥) → (k ≡ r + 1 + n → ⊥) → (k ≡ own → ⊥) → (k ≡ next → ⊥) → moved (both_swapped t n own next r) k ≡ moved t k
both_other t n own next count room r k f less is first second third fourth =
    let a = f.apart in
    let b = f.behind in
    let c = f.within in
    let long = is.long in
    let t1 = swap t (r + 1) own in
    let long1 = length-swap t (r + 1) own in
    swap_moved t1 (r + 1 + n) next k (omega (arith, long, long1, a, b, c, less)) (omega (arith, long, long1, c))
    ∙ ap (moved t1) (turned_other (r + 1 + n) next k second fourth)
    ∙ swap_moved t (r + 1) own k (omega (arith, long, a, b, c, less)) (omega (arith, long, b, c))
    ∙ ap (moved t) (turned_other (r + 1) own k first third)

both_own : (t : List ℕ) (n own next count room r : ℕ) → Fits n own next (count + 1) room → r < n → IsTable t room → moved (both_swapped t n own next r) (r + 1) ≡ moved t own
both_own t n own next count room r f less is =
    let a = f.apart in
    let b = f.behind in
    let c = f.within in
    let long = is.long in
    let t1 = swap t (r + 1) own in
    let long1 = length-swap t (r + 1) own in
    swap_moved t1 (r + 1 + n) next (r + 1) (omega (arith, long, long1, a, b, c, less)) (omega (arith, long, long1, c))
    ∙ ap (moved t1) (turned_other (r + 1 + n) next (r + 1) (λ e. omega (arith, e, less)) (λ e. omega (arith, e, a, b, c, less)))
    ∙ swap_moved t (r + 1) own (r + 1) (omega (arith, long, a, b, c, less)) (omega (arith, long, b, c))
    ∙ ap (moved t) (turned_first (r + 1) own)

both_next : (t : List ℕ) (n own next count room r : ℕ) → Fits n own next (count + 1) room → r < n → IsTable t room → moved (both_swapped t n own next r) (r + 1 + n) ≡ moved t next
both_next t n own next count room r f less is =
    let a = f.apart in
    let b = f.behind in
    let c = f.within in
    let long = is.long in
    let t1 = swap t (r + 1) own in
    let long1 = length-swap t (r + 1) own in
    swap_moved t1 (r + 1 + n) next (r + 1 + n) (omega (arith, long, long1, a, b, c, less)) (omega (arith, long, long1, c))
    ∙ ap (moved t1) (turned_first (r + 1 + n) next)
    ∙ swap_moved t (r + 1) own next (omega (arith, long, a, b, c, less)) (omega (arith, long, b, c))
    ∙ ap (moved t) (turned_other (r + 1) own next (λ e. omega (arith, e, a, b, c, less)) (λ e. omega (arith, e, b)))

head_below : (r : ℕ) (rs : List ℕ) (n : ℕ) → are_below (r ∷ rs) n ≡ true → r < n
head_below r rs n h = ltb-true r n (and_left (nat_lt r n) (are_below rs n) h)

more_fits : (n own next room : ℕ) (r : ℕ) (rs : List ℕ) → Fits n own next (length (r ∷ rs)) room → Fits n own next (length rs + 1) room
more_fits n own next room r rs f =
    let a = f.apart in
    let b = f.behind in
    let c = f.within in
    record { apart = a; behind = omega (arith, b); within = omega (arith, c) }

gather_table : (rs : List ℕ) (t : List ℕ) (n own next room : ℕ) → Fits n own next (length rs) room → are_below rs n ≡ true → IsTable t room → IsTable (gather t n own next rs) room
gather_table [] t n own next room f h is = is
gather_table (r ∷ rs) t n own next room f h is =
    let g = more_fits n own next room r rs f in
    gather_table rs (both_swapped t n own next r) n (own + 1) (next + 1) room (fits_less n own next (length rs) room g) (and_right (nat_lt r n) (are_below rs n) h)
    (both_table t n own next (length rs) room r g (head_below r rs n h) is)

-- a place that no register takes
gather_other : (rs : List ℕ) (t : List ℕ) (n own next room k : ℕ) → Fits n own next (length rs) room → are_below rs n ≡ true → IsTable t room
    → ((r : ℕ) → Member r rs → k ≡ r + 1 → ⊥) → ((r : ℕ) → Member r rs → k ≡ r + 1 + n → ⊥) → k < own → moved (gather t n own next rs) k ≡ moved t k
gather_other [] t n own next room k f h is a b low = refl
gather_other (r ∷ rs) t n own next room k f h is a b low =
    let g = more_fits n own next room r rs f in
    let behind = f.behind in
    gather_other rs (both_swapped t n own next r) n (own + 1) (next + 1) room k (fits_less n own next (length rs) room g) (and_right (nat_lt r n) (are_below rs n) h)
    (both_table t n own next (length rs) room r g (head_below r rs n h) is) (λ s m. a s (inr m)) (λ s m. b s (inr m)) (omega (arith, low))
    ∙ both_other t n own next (length rs) room r k g (head_below r rs n h) is (a r (inl refl)) (b r (inl refl)) (λ e. omega (arith, e, low)) (λ e. omega (arith, e, low, behind))

-- the places that registers and next values are to have aren't moved yet
record AreFree (t : List ℕ) (own next count : ℕ) : Type 0 where
  owns : (j : ℕ) → j < count → moved t (own + j) ≡ own + j
  nexts : (j : ℕ) → j < count → moved t (next + j) ≡ next + j

free_less : (t : List ℕ) (n own next count room r : ℕ) → Fits n own next (count + 1) room → r < n → IsTable t room → AreFree t own next (count + 1)
    → AreFree (both_swapped t n own next r) (own + 1) (next + 1) count
free_less t n own next count room r f less is free =
    let a = f.apart in
    let b = f.behind in
    record {
      owns = λ j h. let e : own + 1 + j ≡ own + (j + 1) = omega arith in
          both_other t n own next count room r (own + 1 + j) f less is (λ x. omega (arith, x, a, less)) (λ x. omega (arith, x, a, less)) (λ x. omega (arith, x)) (λ x. omega (arith, x, b, h))
          ∙ ap (moved t) e ∙ free.owns (j + 1) (omega (arith, h)) ∙ sym e;
      nexts = λ j h. let e : next + 1 + j ≡ next + (j + 1) = omega arith in
          both_other t n own next count room r (next + 1 + j) f less is (λ x. omega (arith, x, a, b, less)) (λ x. omega (arith, x, a, b, less)) (λ x. omega (arith, x, b)) (λ x. omega (arith, x))
          ∙ ap (moved t) e ∙ free.nexts (j + 1) (omega (arith, h)) ∙ sym e;
    }

free_same : (t : List ℕ) (own next a b : ℕ) → a ≡ b → AreFree t own next a → AreFree t own next b
free_same t own next a b e f = subst (AreFree t own next) e f

-- where registers and their next values come to stand
pub record Gathers (t : List ℕ) (rs : List ℕ) (n own next : ℕ) : Type 0 where
  pub owns : (i : ℕ) → i < length rs → moved t (get_or rs i 0 + 1) ≡ own + i
  pub nexts : (i : ℕ) → i < length rs → moved t (get_or rs i 0 + 1 + n) ≡ next + i

module _ (t rs : List ℕ) (n own next room r : ℕ) (f : Fits n own next (length (r ∷ rs)) room) (h : are_below (r ∷ rs) n ≡ true) (once : Distinct (r ∷ rs)) (is : IsTable t room)
    (free : AreFree t own next (length (r ∷ rs))) where
  g : Fits n own next (length rs + 1) room
  g = more_fits n own next room r rs f

  less : r < n
  less = head_below r rs n h

  rest : are_below rs n ≡ true
  rest = and_right (nat_lt r n) (are_below rs n) h

  abbrev t' : List ℕ
  t' = both_swapped t n own next r

  is' : IsTable t' room
  is' = both_table t n own next (length rs) room r g less is

  f' : Fits n (own + 1) (next + 1) (length rs) room
  f' = fits_less n own next (length rs) room g

  free' : AreFree t' (own + 1) (next + 1) (length rs)
  free' = free_less t n own next (length rs) room r g less is (free_same t own next (length (r ∷ rs)) (length rs + 1) (omega arith) free)

  -- no other register is it
  fresh : (s : ℕ) → Member s rs → r ≡ s → ⊥
  fresh s m e = once.0 (subst (λ x. Member x rs) (sym e) m)

  first_own : moved (gather t' n (own + 1) (next + 1) rs) (r + 1) ≡ own + 0
  first_own =
      let a = f.apart in
      let zero_ : own + 0 ≡ own = omega arith in
      gather_other rs t' n (own + 1) (next + 1) room (r + 1) f' rest is' (λ s m e. fresh s m (omega (arith, e))) (λ s m e. omega (arith, e, less)) (omega (arith, a, less))
      ∙ both_own t n own next (length rs) room r g less is ∙ ap (moved t) (sym zero_) ∙ free.owns 0 (omega arith)

  first_next : moved (gather t' n (own + 1) (next + 1) rs) (r + 1 + n) ≡ next + 0
  first_next =
      let a = f.apart in
      let zero_ : next + 0 ≡ next = omega arith in
      gather_other rs t' n (own + 1) (next + 1) room (r + 1 + n) f' rest is' (λ s m e. let low = below_member rs n s rest m in omega (arith, e, low))
      (λ s m e. fresh s m (omega (arith, e))) (omega (arith, a, less))
      ∙ both_next t n own next (length rs) room r g less is ∙ ap (moved t) (sym zero_) ∙ free.nexts 0 (omega arith)

  gathers_more : Gathers (gather t' n (own + 1) (next + 1) rs) rs n (own + 1) (next + 1) → Gathers (gather t' n (own + 1) (next + 1) rs) (r ∷ rs) n own next
  gathers_more go = record { owns = owns; nexts = nexts }
    where
      owns : (i : ℕ) → i < length (r ∷ rs) → moved (gather t' n (own + 1) (next + 1) rs) (get_or (r ∷ rs) i 0 + 1) ≡ own + i
      owns zero i_less = first_own
      owns (suc i) i_less = let e : own + 1 + i ≡ own + suc i = omega arith in go.owns i (omega (arith, i_less)) ∙ e

      nexts : (i : ℕ) → i < length (r ∷ rs) → moved (gather t' n (own + 1) (next + 1) rs) (get_or (r ∷ rs) i 0 + 1 + n) ≡ next + i
      nexts zero i_less = first_next
      nexts (suc i) i_less = let e : next + 1 + i ≡ next + suc i = omega arith in go.nexts i (omega (arith, i_less)) ∙ e

gather_all : (rs : List ℕ) (t : List ℕ) (n own next room : ℕ) → Fits n own next (length rs) room → are_below rs n ≡ true → Distinct rs → IsTable t room → AreFree t own next (length rs)
    → Gathers (gather t n own next rs) rs n own next
gather_all [] t n own next room f h once is free = record { owns = λ i h. absurd (omega (arith, h)); nexts = λ i h. absurd (omega (arith, h)) }
gather_all (r ∷ rs) t n own next room f h once is free =
    gathers_more t rs n own next room r f h once is free
    (gather_all rs (both_swapped t n own next r) n (own + 1) (next + 1) room (f' t rs n own next room r f h once is free) (and_right (nat_lt r n) (are_below rs n) h) once.1
    (is' t rs n own next room r f h once is free) (free' t rs n own next room r f h once is free))

-- ---- those of a design

all_fit : (n m : ℕ) → Fits n (3 * n + 1) (3 * n + m + 1) m (3 * n + 2 * m + 1)
all_fit n m = record { apart = omega arith; behind = omega arith; within = omega arith }

pub all_table : (n : ℕ) (rs : List ℕ) → are_below rs n ≡ true → IsTable (gathered n rs) (3 * n + 2 * length rs + 1)
all_table n rs h =
    let m = length rs in
    let room = 3 * n + 2 * m + 1 in
    gather_table rs (range_with_len 0 room) n (3 * n + 1) (3 * n + m + 1) room (all_fit n m) h (first_table room)

pub all_gathered : (n : ℕ) (rs : List ℕ) → are_below rs n ≡ true → Distinct rs → Gathers (gathered n rs) rs n (3 * n + 1) (3 * n + length rs + 1)
all_gathered n rs h once =
    let m = length rs in
    let room = 3 * n + 2 * m + 1 in
    gather_all rs (range_with_len 0 room) n (3 * n + 1) (3 * n + m + 1) room (all_fit n m) h once (first_table room)
    (record { owns = λ j less. first_moved room (3 * n + 1 + j); nexts = λ j less. first_moved room (3 * n + m + 1 + j) })

-- what lies behind isn't moved
pub rest_moved : (t : List ℕ) (n k : ℕ) → IsTable t n → n ≤ k → moved t k ≡ k
rest_moved t n k is more = beyond t k (let e = is.long in omega (arith, e, more))

-- one register more
pub gather_more : (rs : List ℕ) (i n own next own' next' : ℕ) (t t' : List ℕ) (r : ℕ) → i < length rs → r ≡ get_or rs i 0 → own' ≡ own + 1 → next' ≡ next + 1
    → t' ≡ both_swapped t n own next r → gather t' n own' next' (drop (i + 1) rs) ≡ gather t n own next (drop i rs)
gather_more rs i n own next own' next' t t' r h is e1 e2 e =
    ap (λ x. gather t' n x next' (drop (i + 1) rs)) e1 ∙ ap (λ x. gather t' n (own + 1) x (drop (i + 1) rs)) e2
    ∙ ap (λ x. gather x n (own + 1) (next + 1) (drop (i + 1) rs)) (e ∙ ap (both_swapped t n own next) is)
    ∙ sym (ap (gather t n own next) (drop_split rs i 0 h))
