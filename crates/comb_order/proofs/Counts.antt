-- Counting, one node or one row at a time.
use Rattle.std.proofs.Common.{◌≡◌, ℕ, zero, suc, ◌+◌, ◌-◌, ◌<◌, ◌≤◌, ◌==◌, if◌then◌else◌, List, [], ◌∷◌, ◌++◌, length, drop, get_or, set, refl, sym, ◌∙◌, ap, ap₂, arith, get_or-set_same, get_or-set_other, append_assoc}
use Rattle.std.specs.declared.vec.Vec.{Vec}
use Rattle.std.specs.Global.{Global}
use Rattle.std.proofs.lemmas.Bool.{eqb-true, eqb-false, eq-eqb}
use Rattle.typed_ir.specs.Valuations.{put}
use Rattle.typed_ir.proofs.Cases.{by_cases}
use Rattle.typed_ir.proofs.Lists.{drop_read}
use Rattle.comb_order.specs.Graphs.{times, row_at, rows_of, lowered, released, count_of}
use Rattle.comb_order.proofs.Released.{times-same, put-same, put-other, lowered-is}

pub times-here : (row : List ℕ) (j t : ℕ) → j < length row → t ≡ get_or row j t → 0 < times t (drop j row)
times-here row j t h is =
    let a : times t (drop j row) ≡ times t (t ∷ drop (j + 1) row) = ap (times t) (drop_read row j t h is) in
    let b : times t (t ∷ drop (j + 1) row) ≡ 1 + times t (drop (j + 1) row) = times-same t t (drop (j + 1) row) (eq-eqb t t refl) in
    omega (arith, a, b)

pub times-at : (row : List ℕ) (j t : ℕ) → j < length row → t ≡ get_or row j t → 0 < times t row
times-at (y ∷ ys) zero t h is =
    let a : 0 < times t (drop zero (y ∷ ys)) = times-here (y ∷ ys) zero t h is in a
times-at [] j t h is = absurd (omega (arith, h))
times-at (y ∷ ys) (suc j) t h is = let i : 0 < times t ys = times-at ys j t (omega (arith, h)) is in omega (arith, i)

pub count-set : (counts : List ℕ) (t v : ℕ) → t < length counts → count_of (set counts t v) ≡ put (count_of counts) t v
count-set counts t v h = λ j x. at x j
  where
    at : (x : ℕ) → count_of (set counts t v) x ≡ put (count_of counts) t v x
    at x = by_cases (x == t)
        (λ yes. ap (count_of (set counts t v)) (eqb-true x t yes) ∙ get_or-set_same counts t v 0 h ∙ sym (put-same (count_of counts) t v x yes))
        (λ no. get_or-set_other counts t x v 0 (eqb-false x t no) ∙ sym (put-other (count_of counts) t v x no))

pub row_here : (graph : List (Vec ℕ Global)) (i : ℕ) (r : Vec ℕ Global) → i < length graph → r ≡ get_or graph i r → row_at (rows_of graph) i ≡ r.items
row_here [] i r h is = absurd (omega (arith, h))
row_here (x ∷ xs) zero r h is = ap (λ (z : Vec ℕ Global). z.items) (sym is)
row_here (x ∷ xs) (suc i) r h is = row_here xs i r (omega (arith, h)) is

pub length_rows : (graph : List (Vec ℕ Global)) → length (rows_of graph) ≡ length graph
length_rows [] = refl
length_rows (x ∷ xs) = ap suc (length_rows xs)

-- one node of the row is lowered, after those behind it
pub lowered-drop : (row : List ℕ) (j t : ℕ) (c now next : ℕ → ℕ) → j < length row → t ≡ get_or row j t
    → now ≡ lowered (drop (j + 1) row) c → next ≡ put now t (now t - 1) → next ≡ lowered (drop j row) c
lowered-drop row j t c now next h is e en =
    en ∙ ap (λ f. put f t (f t - 1)) e ∙ ap (λ r. lowered r c) (sym (drop_read row j t h is))

pub released-drop : (row : List ℕ) (j t : ℕ) (c now : ℕ → ℕ) (old free new : List ℕ) → j < length row → t ≡ get_or row j t
    → now ≡ lowered (drop (j + 1) row) c → free ≡ old ++ released (drop (j + 1) row) c
    → new ≡ free ++ (if now t == 1 then t ∷ [] else []) → new ≡ old ++ released (drop j row) c
released-drop row j t c now old free new h is e ef en =
    en ∙ ap₂ (λ xs f. xs ++ (if f t == 1 then t ∷ [] else [])) ef e
    ∙ append_assoc old (released (drop (j + 1) row) c) (if lowered (drop (j + 1) row) c t == 1 then t ∷ [] else [])
    ∙ ap (λ r. old ++ released r c) (sym (drop_read row j t h is))

times-drop : (row : List ℕ) (j x : ℕ) → times x (drop j row) ≤ times x row
times-drop [] zero x = omega arith
times-drop [] (suc j) x = omega arith
times-drop (y ∷ ys) zero x = omega arith
times-drop (y ∷ ys) (suc j) x = let i : times x (drop j ys) ≤ times x ys = times-drop ys j x in omega (arith, i)

-- it has a predecessor left
pub some-left : (row : List ℕ) (j t : ℕ) (c now : ℕ → ℕ) → j < length row → t ≡ get_or row j t → ((x : ℕ) → times x row ≤ c x)
    → now ≡ lowered (drop (j + 1) row) c → 0 < now t
some-left row j t c now h is enough e =
    let rest = drop (j + 1) row in
    let many : times t (drop j row) ≤ times t row = times-drop row j t in
    let here : times t (drop j row) ≡ times t (t ∷ rest) = ap (times t) (drop_read row j t h is) in
    let one : times t (t ∷ rest) ≡ 1 + times t rest = times-same t t rest (eq-eqb t t refl) in
    let low : lowered rest c t + times t rest ≡ c t = lowered-is rest c (λ x.
    let a : times x rest ≤ times x row = times-drop row (j + 1) x in let b : times x row ≤ c x = enough x in omega (arith, a, b)) t in
    let now_is : now t ≡ lowered rest c t = ap (λ f. f t) e in
    let k : times t row ≤ c t = enough t in
    omega (arith, many, here, one, low, now_is, k)
