-- Edges by masks are edges by bits.
use Rattle.std.proofs.Common.{◌≡◌, ℕ, zero, suc, ◌+◌, ◌%◌, ◌^◌, ◌<◌, ◌≤◌, ◌==◌, ◌⊎◌, inl, inr, min, Bool, true, false, ◌||◌, ◌&&◌, not, nat_lt, List, [], ◌∷◌, length, refl, sym, ◌∙◌, ap, subst, arith, true≢false}
use Rattle.std.specs.Prelude.{bit_and, slice_index}
use Rattle.std.specs.declared.vec.Vec.{Vec}
use Rattle.std.specs.Global.{Global}
use Rattle.std.specs.Int.{bit_at}
use Rattle.std.proofs.lemmas.Bool.{eqb-true, eqb-false, eq-eqb, ne_eqb, ltb-true, ltb-false, lt-ltb, not-true, and_from}
use Rattle.std.proofs.lemmas.Nat.{pow_pos}
use Rattle.std.proofs.lemmas.Nat.Bits.{bit_at_and, bit_at-lt, bit_at-zero, same_from_bits_below}
use Rattle.bits.proofs.Runs.{below_pow, bit_at-mod_in}
use Rattle.typed_ir.specs.declared.touch.Touch.{Touch}
use Rattle.typed_ir.specs.Valuations.{Places, nowhere}
use Rattle.typed_ir.specs.Nodes.{FlatNode, node_drives, drives_at, reads_at, are_legal, is_legal_node}
use Rattle.typed_ir.specs.Orders.{Each, at_or, Precedes}
use Rattle.typed_ir.specs.Flats.{NodeWritesFirst}
use Rattle.typed_ir.specs.Touches.{has_bit, touched, mentions}
use Rattle.typed_ir.specs.Rows.{row_in}
use Rattle.typed_ir.proofs.Cases.{by_cases, left_or, right_or, and_left, and_right, only_right}
use Rattle.typed_ir.proofs.Numbered.{drives_number}
use Rattle.typed_ir.proofs.Mentions.{reads_foreign, reads_mentioned, drive_reads, block_apart, drives_small}
use Rattle.typed_ir.proofs.Rows.{row_past}
use Rattle.comb_order.specs.declared.drivers.Driver.{Driver}
use Rattle.comb_order.specs.Graphs.{times, row_at, HasEdge}
use Rattle.comb_order.specs.Driving.{drives_in, common, drives_some, drives_any, edge, block_at, IsTable, IsPlain, IsGraph}

-- ---- masks

-- some number below k passes the test, or none does
pub find : (k : ℕ) (test : ℕ → Bool) → ((i : ℕ) × (i < k) × (test i ≡ true)) ⊎ ((i : ℕ) → i < k → test i ≡ false)
find zero test = inr (λ i h. absurd (omega (arith, h)))
find (suc k) test = elim (find k test) as (λ _. ((i : ℕ) × (i < suc k) × (test i ≡ true)) ⊎ ((i : ℕ) → i < suc k → test i ≡ false)) [
  | inl f ↦ (let small : f.0 < k = f.1 in inl (f.0, omega (arith, small), f.2))
  | inr none ↦ by_cases (test k) (λ yes. inl (k, omega arith, yes))
      (λ out. inr (λ i h. by_cases (i == k) (λ e. ap test (eqb-true i k e) ∙ out)
      (λ n. none i (let apart : i ≡ k → ⊥ = eqb-false i k n in omega (arith, h, apart)))))
]

-- the bits below 128 of a sum of masks
both_bits : (m n i : ℕ) → i < 128 → bit_at (bit_and m n % 2 ^ 128) i ≡ min (bit_at m i) (bit_at n i)
both_bits m n i h = bit_at-mod_in (bit_and m n) 128 i h ∙ bit_at_and m n i

pub common_bit : (m n : ℕ) → common m n ≡ true → (i : ℕ) × (i < 128) × (has_bit m i ≡ true) × (has_bit n i ≡ true)
common_bit m n h = elim (find 128 (λ i. has_bit m i && has_bit n i)) as (λ _. (i : ℕ) × (i < 128) × (has_bit m i ≡ true) × (has_bit n i ≡ true)) [
  | inl f ↦ (f.0, f.1, and_left (has_bit m f.0) (has_bit n f.0) f.2, and_right (has_bit m f.0) (has_bit n f.0) f.2)
  | inr none ↦ absurd (never none)
]
  where
    no_bit : (i : ℕ) → i < 128 → (has_bit m i && has_bit n i) ≡ false → bit_at (bit_and m n % 2 ^ 128) i ≡ bit_at 0 i
    no_bit i h out =
        let both : bit_at (bit_and m n % 2 ^ 128) i ≡ min (bit_at m i) (bit_at n i) = both_bits m n i h in
        let z : bit_at 0 i ≡ 0 = bit_at-zero i in
        let s : bit_at m i < 2 = bit_at-lt m i in
        let t : bit_at n i < 2 = bit_at-lt n i in
        by_cases (has_bit m i)
        (λ yes. let one : bit_at m i ≡ 1 = eqb-true (bit_at m i) 1 yes in
        let other : bit_at n i ≡ 1 → ⊥ = eqb-false (bit_at n i) 1 (ap (λ b. b && has_bit n i) (sym yes) ∙ out) in
        omega (arith, both, z, s, t, one, other))
        (λ no_m. let one : bit_at m i ≡ 1 → ⊥ = eqb-false (bit_at m i) 1 no_m in omega (arith, both, z, s, t, one))

    never : ((i : ℕ) → i < 128 → (has_bit m i && has_bit n i) ≡ false) → ⊥
    never none =
        let z : bit_and m n % 2 ^ 128 ≡ 0 =
        same_from_bits_below 128 (bit_and m n % 2 ^ 128) 0 (below_pow (bit_and m n) 128) (pow_pos 128) (λ i h. no_bit i h (none i h)) in
        true≢false (sym h ∙ ap not (eq-eqb (bit_and m n % 2 ^ 128) 0 z))

pub common_of : (m n i : ℕ) → i < 128 → has_bit m i ≡ true → has_bit n i ≡ true → common m n ≡ true
common_of m n i h p q =
    ap not (ne_eqb (bit_and m n % 2 ^ 128) 0 (λ e.
    let both : bit_at (bit_and m n % 2 ^ 128) i ≡ min (bit_at m i) (bit_at n i) = both_bits m n i h in
    let none : bit_at (bit_and m n % 2 ^ 128) i ≡ 0 = ap (λ x. bit_at x i) e ∙ bit_at-zero i in
    let one : bit_at m i ≡ 1 = eqb-true (bit_at m i) 1 p in
    let other : bit_at n i ≡ 1 = eqb-true (bit_at n i) 1 q in
    omega (arith, both, none, one, other)))

-- ---- the drivers of a bit

some_true : (ds : List Driver) (mask a : ℕ) → drives_some ds mask a ≡ true → (i : ℕ) × (i < 128) × (drives_in ds a i ≡ true) × (has_bit mask i ≡ true)
some_true [] mask a h = absurd (true≢false (sym h))
some_true (d ∷ ds) mask a h =
    let here = (a == d.item) && common d.mask mask in
    by_cases here
    (λ yes. let c : (i : ℕ) × (i < 128) × (has_bit d.mask i ≡ true) × (has_bit mask i ≡ true) =
    common_bit d.mask mask (and_right (a == d.item) (common d.mask mask) yes) in (
      c.0,
      c.1,
      left_or ((a == d.item) && has_bit d.mask c.0) (drives_in ds a c.0)
          (and_from (a == d.item) (has_bit d.mask c.0) (and_left (a == d.item) (common d.mask mask) yes) c.2),
      c.3,
    ))
    (λ out. let r : (i : ℕ) × (i < 128) × (drives_in ds a i ≡ true) × (has_bit mask i ≡ true) =
    some_true ds mask a (only_right here (drives_some ds mask a) out h) in
    (r.0, r.1, right_or ((a == d.item) && has_bit d.mask r.0) (drives_in ds a r.0) r.2, r.3))

some_whole : (ds : List Driver) (mask a i : ℕ) → i < 128 → drives_in ds a i ≡ true → has_bit mask i ≡ true → drives_some ds mask a ≡ true
some_whole [] mask a i small d h = absurd (true≢false (sym d))
some_whole (x ∷ ds) mask a i small d h =
    let here = (a == x.item) && has_bit x.mask i in
    by_cases here
    (λ yes. left_or ((a == x.item) && common x.mask mask) (drives_some ds mask a)
    (and_from (a == x.item) (common x.mask mask) (and_left (a == x.item) (has_bit x.mask i) yes)
    (common_of x.mask mask i small (and_right (a == x.item) (has_bit x.mask i) yes) h)))
    (λ out. right_or ((a == x.item) && common x.mask mask) (drives_some ds mask a)
    (some_whole ds mask a i small (only_right here (drives_in ds a i) out d) h))

abbrev Shared : List (Vec Driver Global) → List Touch → ℕ → Type 0
Shared table ts a = (s i : ℕ) × (i < 128) × (drives_in (row_in table s) a i ≡ true) × (touched ts s i ≡ true)

any_true : (table : List (Vec Driver Global)) (ts : List Touch) (a : ℕ) → drives_any table ts a ≡ true → Shared table ts a
any_true table [] a h = absurd (true≢false (sym h))
any_true table (t ∷ ts) a h =
    let here = drives_some (row_in table t.signal) t.mask a in
    by_cases here
    (λ yes. let r : (i : ℕ) × (i < 128) × (drives_in (row_in table t.signal) a i ≡ true) × (has_bit t.mask i ≡ true) =
    some_true (row_in table t.signal) t.mask a yes in (
      t.signal,
      r.0,
      r.1,
      r.2,
      left_or ((t.signal == t.signal) && has_bit t.mask r.0) (touched ts t.signal r.0)
          (and_from (t.signal == t.signal) (has_bit t.mask r.0) (eq-eqb t.signal t.signal refl) r.3),
    ))
    (λ out. let r : Shared table ts a = any_true table ts a (only_right here (drives_any table ts a) out h) in
    (r.0, r.1, r.2, r.3, right_or ((r.0 == t.signal) && has_bit t.mask r.1) (touched ts r.0 r.1) r.4))

any_whole : (table : List (Vec Driver Global)) (ts : List Touch) (a s i : ℕ) → i < 128 → drives_in (row_in table s) a i ≡ true → touched ts s i ≡ true → drives_any table ts a ≡ true
any_whole table [] a s i small d h = absurd (true≢false (sym h))
any_whole table (t ∷ ts) a s i small d h =
    let here = (s == t.signal) && has_bit t.mask i in
    by_cases here
    (λ yes. let is : s ≡ t.signal = eqb-true s t.signal (and_left (s == t.signal) (has_bit t.mask i) yes) in
    left_or (drives_some (row_in table t.signal) t.mask a) (drives_any table ts a)
    (some_whole (row_in table t.signal) t.mask a i small (ap (λ k. drives_in (row_in table k) a i) (sym is) ∙ d)
    (and_right (s == t.signal) (has_bit t.mask i) yes)))
    (λ out. right_or (drives_some (row_in table t.signal) t.mask a) (drives_any table ts a)
    (any_whole table ts a s i small d (only_right here (touched ts s i) out h)))

-- ---- nodes by number

abbrev pub mentions_at : List FlatNode → ℕ → Places
mentions_at nodes k = at_or mentions nowhere nodes k

at_foreign : (nodes : List FlatNode) (k s i : ℕ) → drives_at nodes k s i ≡ false → mentions_at nodes k s i ≡ true → reads_at nodes k s i ≡ true
at_foreign [] k s i d m = m
at_foreign (n ∷ ns) zero s i d m = reads_foreign n s i d m
at_foreign (n ∷ ns) (suc k) s i d m = at_foreign ns k s i d m

at_mentioned : (nodes : List FlatNode) (k s i : ℕ) → reads_at nodes k s i ≡ true → mentions_at nodes k s i ≡ true
at_mentioned [] k s i r = r
at_mentioned (n ∷ ns) zero s i r = reads_mentioned n s i r
at_mentioned (n ∷ ns) (suc k) s i r = at_mentioned ns k s i r

at_drive : (nodes : List FlatNode) (k s i : ℕ) → block_at nodes k ≡ false → mentions_at nodes k s i ≡ true → reads_at nodes k s i ≡ true
at_drive [] k s i b m = m
at_drive (n ∷ ns) zero s i b m = drive_reads n s i b m
at_drive (n ∷ ns) (suc k) s i b m = at_drive ns k s i b m

pub at_apart : (nodes : List FlatNode) → Each NodeWritesFirst nodes → (k s i : ℕ) → block_at nodes k ≡ true → reads_at nodes k s i ≡ true → drives_at nodes k s i ≡ false
at_apart [] first k s i b r = refl
at_apart (n ∷ ns) first zero s i b r = by_cases (node_drives n s i) (λ yes. absurd (block_apart n s i first.0 b r yes)) (λ out. out)
at_apart (n ∷ ns) first (suc k) s i b r = at_apart ns first.1 k s i b r

pub at_small : (nodes : List FlatNode) (widths : List ℕ) → ((k : ℕ) → slice_index widths k ≤ 128) → are_legal nodes widths ≡ true
    → (a s i : ℕ) → drives_at nodes a s i ≡ true → (s < length widths) × (i < 128)
at_small [] widths most legal a s i d = absurd (true≢false (sym d))
at_small (n ∷ ns) widths most legal zero s i d =
    drives_small n widths s i most (and_left (is_legal_node n widths) (are_legal ns widths) legal) d
at_small (n ∷ ns) widths most legal (suc a) s i d =
    at_small ns widths most (and_right (is_legal_node n widths) (are_legal ns widths) legal) a s i d

-- ---- edges

abbrev Before : List FlatNode → ℕ → ℕ → Type 0
Before nodes a b = Precedes (drives_at nodes) (reads_at nodes) a b

joins_sound : (nodes : List FlatNode) (table : List (Vec Driver Global)) (ts : List Touch) (a b : ℕ) → IsTable nodes table → IsPlain nodes
    → ((s i : ℕ) → i < 128 → touched ts s i ≡ mentions_at nodes b s i)
    → drives_any table ts a ≡ true → (block_at nodes b && (a == b)) ≡ false → Before nodes a b
joins_sound nodes table ts a b is plain same h apart =
    let f : Shared table ts a = any_true table ts a h in
    let s = f.0 in
    let i = f.1 in
    let there : s < length table = by_cases (nat_lt s (length table)) (λ yes. ltb-true s (length table) yes)
    (λ out. absurd (true≢false (sym f.3 ∙ ap (λ r. drives_in r a i) (row_past table s (ltb-false s (length table) out))))) in
    let d : drives_at nodes a s i ≡ true = sym (is.drives a s i there f.2) ∙ f.3 in
    let m : mentions_at nodes b s i ≡ true = sym (same s i f.2) ∙ f.4 in (
      s,
      i,
      d,
      by_cases (block_at nodes b)
          (λ block. by_cases (drives_at nodes b s i)
          (λ own. absurd (true≢false (sym (and_from (block_at nodes b) (a == b) block (eq-eqb a b (plain.one a b s i d own))) ∙ apart)))
          (λ foreign. at_foreign nodes b s i foreign m))
          (λ drive. at_drive nodes b s i drive m),
    )

joins_whole : (nodes : List FlatNode) (table : List (Vec Driver Global)) (ts : List Touch) (a b : ℕ) → IsTable nodes table → IsPlain nodes
    → ((s i : ℕ) → i < 128 → touched ts s i ≡ mentions_at nodes b s i)
    → Before nodes a b → (drives_any table ts a && not (block_at nodes b && (a == b))) ≡ true
joins_whole nodes table ts a b is plain same p =
    let s = p.0 in
    let i = p.1 in
    let place : (s < length table) × (i < 128) = is.inside a s i p.2 in
    and_from (drives_any table ts a) (not (block_at nodes b && (a == b)))
    (any_whole table ts a s i place.1 (is.drives a s i place.0 place.1 ∙ p.2) (same s i place.1 ∙ at_mentioned nodes b s i p.3))
    (ap not (by_cases (block_at nodes b && (a == b))
    (λ own. absurd (true≢false (sym p.2
    ∙ ap (λ k. drives_at nodes k s i) (eqb-true a b (and_right (block_at nodes b) (a == b) own))
    ∙ plain.apart b s i (and_left (block_at nodes b) (a == b) own) p.3)))
    (λ out. out)))

edge_inside : (rows : List (List ℕ)) (a t : ℕ) → HasEdge rows a t → a < length rows
edge_inside [] a t h = absurd (omega (arith, h))
edge_inside (r ∷ rs) zero t h = omega arith
edge_inside (r ∷ rs) (suc a) t h = let i : a < length rs = edge_inside rs a t h in omega (arith, i)

-- the edges to the nodes below b
pub record AreEdges (nodes : List FlatNode) (b : ℕ) (rows : List (List ℕ)) : Type 0 where
  pub size : length rows ≡ length nodes
  pub sound : (a t : ℕ) → HasEdge rows a t → (t < b) × Precedes (drives_at nodes) (reads_at nodes) a t
  pub whole : (a t : ℕ) → t < b → Precedes (drives_at nodes) (reads_at nodes) a t → HasEdge rows a t

-- the edges to b join them
pub edges_step : (nodes : List FlatNode) (table : List (Vec Driver Global)) (old new : List (List ℕ)) (b : ℕ) (ts : List Touch) → IsTable nodes table → IsPlain nodes
    → ((s i : ℕ) → i < 128 → touched ts s i ≡ mentions_at nodes b s i) → length new ≡ length old
    → ((a t : ℕ) → a < length old → edge new a t ≡ (edge old a t || ((t == b) && (drives_any table ts a && not (block_at nodes b && (a == b))))))
    → AreEdges nodes b old → AreEdges nodes (b + 1) new
edges_step nodes table old new b ts is plain same long eq was = record {
  size = long ∙ was.size;
  sound = λ a t h.
      (let inside : a < length new = edge_inside new a t h in
      let joined : (edge old a t || ((t == b) && (drives_any table ts a && not (block_at nodes b && (a == b))))) ≡ true =
      sym (eq a t (omega (arith, inside, long))) ∙ lt-ltb 0 (times t (row_at new a)) h in
      by_cases (edge old a t)
      (λ yes. let p : (t < b) × Before nodes a t = was.sound a t (ltb-true 0 (times t (row_at old a)) yes) in
      let small : t < b = p.0 in (omega (arith, small), p.1))
      (λ out. let fresh : ((t == b) && (drives_any table ts a && not (block_at nodes b && (a == b)))) ≡ true =
      only_right (edge old a t) ((t == b) && (drives_any table ts a && not (block_at nodes b && (a == b)))) out joined in
      let here : t ≡ b = eqb-true t b (and_left (t == b) (drives_any table ts a && not (block_at nodes b && (a == b))) fresh) in
      let both : (drives_any table ts a && not (block_at nodes b && (a == b))) ≡ true =
      and_right (t == b) (drives_any table ts a && not (block_at nodes b && (a == b))) fresh in (
        omega (arith, here),
        subst (Before nodes a) (sym here)
            (joins_sound nodes table ts a b is plain same (and_left (drives_any table ts a) (not (block_at nodes b && (a == b))) both)
            (not-true (block_at nodes b && (a == b)) (and_right (drives_any table ts a) (not (block_at nodes b && (a == b))) both))),
      )));
  whole = λ a t small p.
      (let there : a < length nodes = drives_number nodes a p.0 p.1 p.2 in
      let count : length old ≡ length nodes = was.size in
      ltb-true 0 (times t (row_at new a)) (eq a t (omega (arith, there, count))
      ∙ by_cases (t == b)
      (λ here. right_or (edge old a t) ((t == b) && (drives_any table ts a && not (block_at nodes b && (a == b))))
      (and_from (t == b) (drives_any table ts a && not (block_at nodes b && (a == b))) here
      (joins_whole nodes table ts a b is plain same (subst (Before nodes a) (eqb-true t b here) p))))
      (λ other. let apart : t ≡ b → ⊥ = eqb-false t b other in
      left_or (edge old a t) ((t == b) && (drives_any table ts a && not (block_at nodes b && (a == b))))
      (lt-ltb 0 (times t (row_at old a)) (was.whole a t (omega (arith, small, apart)) p)))));
}

pub no_edges : (nodes : List FlatNode) (rows : List (List ℕ)) → length rows ≡ length nodes → ((a : ℕ) → row_at rows a ≡ []) → AreEdges nodes 0 rows
no_edges nodes rows size none = record {
  size = size;
  sound = λ a t h. absurd (let e : times t (row_at rows a) ≡ 0 = ap (times t) (none a) in omega (arith, h, e));
  whole = λ a t small p. absurd (omega (arith, small));
}

pub reader_there : (nodes : List FlatNode) (b s i : ℕ) → reads_at nodes b s i ≡ true → b < length nodes
reader_there [] b s i r = absurd (true≢false (sym r))
reader_there (n ∷ ns) zero s i r = omega arith
reader_there (n ∷ ns) (suc b) s i r = let h : b < length ns = reader_there ns b s i r in omega (arith, h)

pub all_edges : (nodes : List FlatNode) (b : ℕ) (rows : List (List ℕ)) → length nodes ≤ b → AreEdges nodes b rows → IsGraph nodes rows
all_edges nodes b rows all e = record {
  size = e.size;
  sound = λ a t h. (e.sound a t h).1;
  whole = λ a t p. (let small : t < length nodes = reader_there nodes t p.0 p.1 p.3 in e.whole a t (omega (arith, small, all)) p);
}
