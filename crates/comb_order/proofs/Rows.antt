-- Rows in which no node stands twice.
use Rattle.std.proofs.Common.{◌≡◌, ℕ, suc, ◌+◌, ◌-◌, ◌<◌, ◌≤◌, ◌==◌, Bool, true, false, ◌||◌, ◌&&◌, not, ◌⊎◌, inl, inr, nat_lt, List, [], ◌∷◌, ◌++◌, length, set, refl, sym, ◌∙◌, ap, ap₂, subst, arith, true≢false}
use Rattle.std.proofs.Math.Bool.{or-false, or_assoc, and-true}
use Rattle.std.specs.Prelude.{slice_index}
use Rattle.std.specs.declared.vec.Vec.{Vec}
use Rattle.std.specs.Global.{Global}
use Rattle.std.proofs.lemmas.Bool.{eqb-true, eqb-false, eq-eqb, ne_eqb, ltb-true, lt-ltb, and_from}
use Rattle.std.proofs.lemmas.List.{length-append, get_or_default}
use Rattle.typed_ir.specs.Rows.{row_in}
use Rattle.typed_ir.proofs.Cases.{by_cases, and_left, and_right, left_or, right_or}
use Rattle.typed_ir.proofs.Masks.{or_nothing}
use Rattle.typed_ir.proofs.Rows.{row_same, row_other}
use Rattle.comb_order.specs.Graphs.{times, row_at, rows_of, waiting}
use Rattle.comb_order.specs.Driving.{edge, ends_with, IsRow, AreRows}
use Rattle.comb_order.proofs.Counts.{times-at}
use Rattle.comb_order.proofs.Released.{times-same, times-other}
use Rattle.comb_order.proofs.Tables.{rows_row}

times_none : (t : ℕ) (row : List ℕ) (b : ℕ) → (t == b) ≡ false → times t (row ++ b ∷ []) ≡ times t row
times_none t [] b h = times-other t b [] h
times_none t (x ∷ xs) b h = by_cases (t == x)
    (λ yes. times-same t x (xs ++ b ∷ []) yes ∙ ap (λ n. 1 + n) (times_none t xs b h) ∙ sym (times-same t x xs yes))
    (λ out. times-other t x (xs ++ b ∷ []) out ∙ times_none t xs b h ∙ sym (times-other t x xs out))

times_one : (row : List ℕ) (b : ℕ) → times b (row ++ b ∷ []) ≡ 1 + times b row
times_one [] b = times-same b b [] (eq-eqb b b refl)
times_one (x ∷ xs) b = by_cases (b == x)
    (λ yes. times-same b x (xs ++ b ∷ []) yes ∙ ap (λ n. 1 + n) (times_one xs b ∙ sym (times-same b x xs yes)))
    (λ out. times-other b x (xs ++ b ∷ []) out ∙ times_one xs b ∙ ap (λ n. 1 + n) (sym (times-other b x xs out)))

pub pushed_edge : (row : List ℕ) (b t : ℕ) → nat_lt 0 (times t (row ++ b ∷ [])) ≡ (nat_lt 0 (times t row) || (t == b))
pushed_edge row b t = by_cases (t == b)
    (λ yes. let e : t ≡ b = eqb-true t b yes in
    let one : times t (row ++ b ∷ []) ≡ 1 + times t row =
    ap (λ x. times x (row ++ b ∷ [])) e ∙ times_one row b ∙ ap (λ x. 1 + times x row) (sym e) in
    lt-ltb 0 (times t (row ++ b ∷ [])) (omega (arith, one)) ∙ sym (right_or (nat_lt 0 (times t row)) (t == b) yes))
    (λ out. ap (nat_lt 0) (times_none t row b out) ∙ sym (ap (λ x. nat_lt 0 (times t row) || x) out ∙ or-false (nat_lt 0 (times t row))))

pub ends_there : (row : List ℕ) (b : ℕ) → ends_with row b ≡ true → 0 < times b row
ends_there row b h =
    let some : 0 < length row = ltb-true 0 (length row) (and_left (nat_lt 0 (length row)) (slice_index row (length row - 1) == b) h) in
    let inside : length row - 1 < length row = omega (arith, some) in
    times-at row (length row - 1) b inside
    (sym (eqb-true (slice_index row (length row - 1)) b (and_right (nat_lt 0 (length row)) (slice_index row (length row - 1) == b) h))
    ∙ get_or_default row (length row - 1) 0 b inside)

pub kept_edge : (row : List ℕ) (b : ℕ) → ends_with row b ≡ true → (t : ℕ) → nat_lt 0 (times t row) ≡ (nat_lt 0 (times t row) || (t == b))
kept_edge row b h t = by_cases (t == b)
    (λ yes. let there : 0 < times b row = ends_there row b h in
    let here : nat_lt 0 (times t row) ≡ true = ap (λ x. nat_lt 0 (times x row)) (eqb-true t b yes) ∙ lt-ltb 0 (times b row) there in
    here ∙ sym (left_or (nat_lt 0 (times t row)) (t == b) here))
    (λ out. sym (ap (λ x. nat_lt 0 (times t row) || x) out ∙ or-false (nat_lt 0 (times t row))))

ends_pushed : (row : List ℕ) (b : ℕ) → ends_with (row ++ b ∷ []) b ≡ true
ends_pushed row b =
    let long : length (row ++ b ∷ []) ≡ length row + 1 = length-append row (b ∷ []) in
    let less : length (row ++ b ∷ []) - 1 ≡ length row = omega (arith, long) in
    and_from (nat_lt 0 (length (row ++ b ∷ []))) (slice_index (row ++ b ∷ []) (length (row ++ b ∷ []) - 1) == b)
    (lt-ltb 0 (length (row ++ b ∷ [])) (omega (arith, long)))
    (eq-eqb (slice_index (row ++ b ∷ []) (length (row ++ b ∷ []) - 1)) b (ap (slice_index (row ++ b ∷ [])) less ∙ at_end row b))
  where
    at_end : (row : List ℕ) (b : ℕ) → slice_index (row ++ b ∷ []) (length row) ≡ b
    at_end [] b = refl
    at_end (x ∷ xs) b = at_end xs b

pub row_pushed : (row : List ℕ) (b : ℕ) → ends_with row b ≡ false → IsRow b row → IsRow b (row ++ b ∷ [])
row_pushed row b h is = record {
  once = λ x. by_cases (x == b)
      (λ yes. let e : x ≡ b = eqb-true x b yes in
      let one : times x (row ++ b ∷ []) ≡ 1 + times b row = ap (λ y. times y (row ++ b ∷ [])) e ∙ times_one row b in
      by_cases (nat_lt 0 (times b row))
      (λ some. absurd (true≢false (sym (is.last (ltb-true 0 (times b row) some)) ∙ h)))
      (λ none. let free : 0 < times b row → ⊥ = (λ k. true≢false (sym (lt-ltb 0 (times b row) k) ∙ none)) in omega (arith, one, free)))
      (λ out. let same : times x (row ++ b ∷ []) ≡ times x row = times_none x row b out in
      let was : times x row ≤ 1 = is.once x in omega (arith, same, was));
  up_to = λ x some. by_cases (x == b)
      (λ yes. let e : x ≡ b = eqb-true x b yes in omega (arith, e))
      (λ out. let same : times x (row ++ b ∷ []) ≡ times x row = times_none x row b out in is.up_to x (omega (arith, some, same)));
  last = λ some. ends_pushed row b;
}

-- rows for the next node
pub rows_next : (rows : List (List ℕ)) (b : ℕ) → AreRows b rows → AreRows (b + 1) rows
rows_next rows b h a = record {
  once = (h a).once;
  up_to = λ x some. let was : x ≤ b = (h a).up_to x some in omega (arith, was);
  last = λ some. let past : b + 1 ≤ b = (h a).up_to (b + 1) some in absurd (omega (arith, past));
}

pub rows_empty : (rows : List (List ℕ)) (b : ℕ) → ((a : ℕ) → row_at rows a ≡ []) → AreRows b rows
rows_empty rows b h a = subst (IsRow b) (sym (h a)) (record {
  once = λ x. omega arith;
  up_to = λ x some. absurd (omega (arith, some));
  last = λ some. absurd (omega (arith, some));
})

-- one row was written
pub rows_set : (rows : List (Vec ℕ Global)) (k b : ℕ) (r : Vec ℕ Global) → k < length rows → IsRow b r.items → AreRows b (rows_of rows) → AreRows b (rows_of (set rows k r))
rows_set rows k b r h here was a = by_cases (a == k)
    (λ yes. subst (IsRow b) (sym (rows_row (set rows k r) a ∙ ap (row_in (set rows k r)) (eqb-true a k yes) ∙ row_same rows k r h)) here)
    (λ out. subst (IsRow b) (sym (rows_row (set rows k r) a ∙ row_other rows k a r (eqb-false a k out) ∙ sym (rows_row rows a))) (was a))

pub edges_set : (rows : List (Vec ℕ Global)) (k b : ℕ) (r : Vec ℕ Global) (test block : Bool) → k < length rows
    → ((t : ℕ) → nat_lt 0 (times t r.items) ≡ (nat_lt 0 (times t (row_in rows k)) || (t == b)))
    → test ≡ true → (block && (k == b)) ≡ false
    → (a t : ℕ) → edge (rows_of (set rows k r)) a t ≡ (edge (rows_of rows) a t || ((t == b) && (((a == k) && test) && not (block && (a == b)))))
edges_set rows k b r test block h step holds foreign a t = by_cases (a == k)
    (λ here. ap (λ z. nat_lt 0 (times t z)) (rows_row (set rows k r) a ∙ ap (row_in (set rows k r)) (eqb-true a k here) ∙ row_same rows k r h)
    ∙ step t
    ∙ ap₂ (λ x y. nat_lt 0 (times t x) || y) (ap (row_in rows) (sym (eqb-true a k here)) ∙ sym (rows_row rows a))
    (sym (ap₂ (λ x y. (t == b) && (x && y)) (and_from (a == k) test here holds)
    (ap (λ z. not (block && (z == b))) (eqb-true a k here) ∙ ap not foreign) ∙ and-true (t == b))))
    (λ out. ap (λ z. nat_lt 0 (times t z)) (rows_row (set rows k r) a ∙ row_other rows k a r (eqb-false a k out) ∙ sym (rows_row rows a))
    ∙ sym (ap (λ x. edge (rows_of rows) a t || ((t == b) && ((x && test) && not (block && (a == b))))) out ∙ or_nothing (edge (rows_of rows) a t) (t == b)))

pub not_own : (block : Bool) (k b : ℕ) → ((block ≡ true) × (k ≡ b → ⊥)) ⊎ (block ≡ false) → (block && (k == b)) ≡ false
not_own block k b (inl h) = ap (λ x. x && (k == b)) h.0 ∙ ne_eqb k b h.1
not_own block k b (inr h) = ap (λ x. x && (k == b)) h

-- so few edges come to a node
pub few_edges : (rows : List (List ℕ)) (t : ℕ) → ((a : ℕ) → times t (row_at rows a) ≤ 1) → waiting rows [] t ≤ length rows
few_edges [] t h = omega arith
few_edges (r ∷ rs) t h =
    let one : times t r ≤ 1 = h 0 in
    let rest : waiting rs [] t ≤ length rs = few_edges rs t (λ a. h (suc a)) in omega (arith, one, rest)

-- the edges of one driver, or of one touch, and then those of the others
pub joined : (e t s r n e' total : Bool) → e' ≡ (e || (t && (s && n))) → (e || (t && ((s || r) && n))) ≡ total → (e' || (t && (r && n))) ≡ total
joined e t s r n e' total here all =
    ap (λ x. x || (t && (r && n))) here ∙ or_assoc e (t && (s && n)) (t && (r && n)) ∙ ap (λ x. e || x) (spread t s r n) ∙ all
  where
    spread : (t s r n : Bool) → ((t && (s && n)) || (t && (r && n))) ≡ (t && ((s || r) && n))
    spread false s r n = refl
    spread true false r n = refl
    spread true true true true = refl
    spread true true true false = refl
    spread true true false true = refl
    spread true true false false = refl
