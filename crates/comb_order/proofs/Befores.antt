-- The least node before another that isn't placed.
use Rattle.std.proofs.Common.{◌≡◌, ℕ, zero, suc, ◌+◌, ◌<◌, ◌==◌, Bool, true, false, not, ◌&&◌, cond, nat_lt, List, [], ◌∷◌, length, drop, get_or, refl, sym, ◌∙◌, ap, ap₂, arith, true≢false}
use Rattle.std.specs.declared.vec.Vec.{Vec}
use Rattle.std.specs.Global.{Global}
use Rattle.std.proofs.lemmas.Bool.{ltb-true, lt-ltb, cond-true, cond-false, not-true, and_from}
use Rattle.typed_ir.specs.Valuations.{put}
use Rattle.typed_ir.proofs.Cases.{by_cases, and_left, and_right}
use Rattle.typed_ir.proofs.Lists.{drop_read, drop_split}
use Rattle.comb_order.specs.Graphs.{times, rows_of, HasEdge, flag_at}
use Rattle.comb_order.specs.Loops.{nearest, overwritten}
use Rattle.comb_order.proofs.Released.{times-same, times-other, put-same, put-other}

pub overwritten-is : (row : List ℕ) (a : ℕ) (g : ℕ → ℕ) (t : ℕ) → overwritten row a g t ≡ cond (nat_lt 0 (times t row)) a (g t)
overwritten-is [] a g t = refl
overwritten-is (x ∷ xs) a g t =
    overwritten-is xs a (put g x a) t
    ∙ by_cases (t == x)
    (λ yes. let s : times t (x ∷ xs) ≡ 1 + times t xs = times-same t x xs yes in
    sym (cond-true (nat_lt 0 (times t (x ∷ xs))) a (g t) (lt-ltb 0 (times t (x ∷ xs)) (omega (arith, s)))
    ∙ sym (both (nat_lt 0 (times t xs)) a (put g x a t) (put-same g x a t yes))))
    (λ no. let s : times t (x ∷ xs) ≡ times t xs = times-other t x xs no in
    ap (λ z. cond (nat_lt 0 (times t xs)) a z) (put-other g x a t no) ∙ ap (λ n. cond (nat_lt 0 n) a (g t)) (sym s))
  where
    both : (b : Bool) (x y : ℕ) → y ≡ x → cond b x y ≡ x
    both true x y e = refl
    both false x y e = e

-- where some node that isn't placed comes before t, it is the least such
pub nearest-says : (rows : List (List ℕ)) (flags : List Bool) (a t k : ℕ) → length flags ≡ length rows → k < length rows → flag_at flags k ≡ false → HasEdge rows k t
    → (j : ℕ) × (nearest a rows flags t ≡ a + j) × (j < length rows) × (flag_at flags j ≡ false) × HasEdge rows j t
    × ((i : ℕ) → i < j → flag_at flags i ≡ false → HasEdge rows i t → ⊥)
nearest-says [] flags a t k e h f edge = absurd (omega (arith, h))
nearest-says (r ∷ rs) [] a t k e h f edge = absurd (omega (arith, e))
nearest-says (r ∷ rs) (g ∷ fs) a t zero e h f edge =
    let z : a ≡ a + zero = omega arith in
    let yes : (not g && nat_lt 0 (times t r)) ≡ true = and_from (not g) (nat_lt 0 (times t r)) (ap not f) (lt-ltb 0 (times t r) edge) in
    (zero, cond-true (not g && nat_lt 0 (times t r)) a (nearest (a + 1) rs fs t) yes ∙ z, omega arith, f, edge, λ i l p q. omega (arith, l))
nearest-says (r ∷ rs) (g ∷ fs) a t (suc k) e h f edge =
    let more : (j : ℕ) × (nearest (a + 1) rs fs t ≡ a + 1 + j) × (j < length rs) × (flag_at fs j ≡ false) × HasEdge rs j t
    × ((i : ℕ) → i < j → flag_at fs i ≡ false → HasEdge rs i t → ⊥)
    = nearest-says rs fs (a + 1) t k (omega (arith, e)) (omega (arith, h)) f edge in
    by_cases (not g && nat_lt 0 (times t r))
    (λ yes. let z : a ≡ a + zero = omega arith in (
      zero,
      cond-true (not g && nat_lt 0 (times t r)) a (nearest (a + 1) rs fs t) yes ∙ z,
      omega arith,
      not-true g (and_left (not g) (nat_lt 0 (times t r)) yes),
      ltb-true 0 (times t r) (and_right (not g) (nat_lt 0 (times t r)) yes),
      λ i l p q. omega (arith, l),
    ))
    (λ none. let v : nearest (a + 1) rs fs t ≡ a + 1 + more.0 = more.1 in
    let s : more.0 < length rs = more.2 in
    let w : a + 1 + more.0 ≡ a + suc more.0 = omega arith in (
      suc more.0,
      cond-false (not g && nat_lt 0 (times t r)) a (nearest (a + 1) rs fs t) none ∙ v ∙ w,
      omega (arith, s),
      more.3,
      more.4,
      λ i. earlier i more.0 none more.5,
    ))
  where
    earlier : (i j : ℕ) → (not g && nat_lt 0 (times t r)) ≡ false → ((i : ℕ) → i < j → flag_at fs i ≡ false → HasEdge rs i t → ⊥)
        → i < suc j → flag_at (g ∷ fs) i ≡ false → HasEdge (r ∷ rs) i t → ⊥
    earlier zero j none before l p q = true≢false (sym (and_from (not g) (nat_lt 0 (times t r)) (ap not p) (lt-ltb 0 (times t r) q)) ∙ none)
    earlier (suc i) j none before l p q = before i (omega (arith, l)) p q

-- the loop's step over one row, and over all rows from the last to the first
pub overwritten-drop : (row : List ℕ) (j t a : ℕ) (g next : ℕ → ℕ) → j < length row → t ≡ get_or row j t → next ≡ put g t a
    → overwritten (drop (j + 1) row) a next ≡ overwritten (drop j row) a g
overwritten-drop row j t a g next h is e = ap (overwritten (drop (j + 1) row) a) e ∙ sym (ap (λ r. overwritten r a g) (drop_read row j t h is))

pub rows-drop : (graph : List (Vec ℕ Global)) (j : ℕ) (r : Vec ℕ Global) → j < length graph → r ≡ get_or graph j r
    → rows_of (drop j graph) ≡ r.items ∷ rows_of (drop (j + 1) graph)
rows-drop graph j r h is = ap rows_of (drop_read graph j r h is)

pub nearest-drop : (graph : List (Vec ℕ Global)) (fs : List Bool) (j : ℕ) (r : Vec ℕ Global) (t : ℕ) → j < length graph → j < length fs → r ≡ get_or graph j r
    → nearest j (rows_of (drop j graph)) (drop j fs) t
    ≡ cond (not (get_or fs j false) && nat_lt 0 (times t r.items)) j (nearest (j + 1) (rows_of (drop (j + 1) graph)) (drop (j + 1) fs) t)
nearest-drop graph fs j r t h k is = ap₂ (λ rs gs. nearest j rs gs t) (rows-drop graph j r h is) (drop_split fs j false k)

-- a node that isn't placed writes its row
pub nearest_open : (graph : List (Vec ℕ Global)) (fs : List Bool) (j : ℕ) (r : Vec ℕ Global) (t : ℕ) (g : ℕ → ℕ) → j < length graph → j < length fs → r ≡ get_or graph j r
    → get_or fs j false ≡ false → g t ≡ nearest (j + 1) (rows_of (drop (j + 1) graph)) (drop (j + 1) fs) t
    → overwritten r.items j g t ≡ nearest j (rows_of (drop j graph)) (drop j fs) t
nearest_open graph fs j r t g h k is f e =
    overwritten-is r.items j g t ∙ ap (cond (nat_lt 0 (times t r.items)) j) e
    ∙ sym (nearest-drop graph fs j r t h k is ∙ ap (λ b. cond (not b && nat_lt 0 (times t r.items)) j (nearest (j + 1) (rows_of (drop (j + 1) graph)) (drop (j + 1) fs) t)) f)
