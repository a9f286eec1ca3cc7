-- What can be placed, in another order.
use Rattle.std.proofs.Common.{◌≡◌, ℕ, zero, suc, ◌+◌, ◌<◌, ◌≤◌, ◌==◌, Bool, cond, inl, inr, List, length, [], ◌∷◌, ◌++◌, append_assoc, append-nil, refl, sym, ◌∙◌, ap, subst, arith}
use Rattle.std.specs.List.{sum_by}
use Rattle.std.specs.Global.{Global}
use Rattle.std.specs.declared.vec.Vec.{Vec}
use Rattle.std.specs.List.Sorted.{IsPermutation}
use Rattle.std.proofs.lemmas.Bool.{eqb-true, eq-eqb}
use Rattle.std.proofs.lemmas.List.Sorted.{IsPermutation-append_right, IsPermutation-append_comm, IsPermutation-trans, IsPermutation-sym, sum_by-IsPermutation}
use Rattle.std.proofs.lemmas.List.Sums.{sum_by-cons}
use Rattle.typed_ir.specs.Orders.{Member, Distinct}
use Rattle.typed_ir.proofs.Cases.{by_cases}
use Rattle.typed_ir.proofs.Members.{member_right}
use Rattle.comb_order.specs.Graphs.{times, rows_of}
use Rattle.comb_order.specs.Kahn.{IsPlacing}
use Rattle.comb_order.proofs.Counts.{length_rows}
use Rattle.comb_order.proofs.Released.{times-same, times-other}

times_sum : (t : ℕ) (xs : List ℕ) → times t xs ≡ sum_by (λ x. cond (t == x) 1 0) xs
times_sum t [] = refl
times_sum t (x ∷ xs) = ap (λ n. cond (t == x) 1 0 + n) (times_sum t xs) ∙ sym (sum_by-cons (λ y. cond (t == y) 1 0) x xs)

same_times : (t : ℕ) (xs ys : List ℕ) → IsPermutation xs ys → times t ys ≡ times t xs
same_times t xs ys p = times_sum t ys ∙ sum_by-IsPermutation (λ x. cond (t == x) 1 0) xs ys p ∙ sym (times_sum t xs)

member_times : (t : ℕ) (xs : List ℕ) → Member t xs → 0 < times t xs
member_times t [] m = absurd m
member_times t (x ∷ xs) (inl e) = let s : times t (x ∷ xs) ≡ 1 + times t xs = times-same t x xs (eq-eqb t x e) in omega (arith, s)
member_times t (x ∷ xs) (inr m) = by_cases (t == x)
    (λ yes. let s : times t (x ∷ xs) ≡ 1 + times t xs = times-same t x xs yes in omega (arith, s))
    (λ no. let s : times t (x ∷ xs) ≡ times t xs = times-other t x xs no in let i : 0 < times t xs = member_times t xs m in omega (arith, s, i))

times_member : (t : ℕ) (xs : List ℕ) → 0 < times t xs → Member t xs
times_member t [] h = absurd (omega (arith, h))
times_member t (x ∷ xs) h = by_cases (t == x)
    (λ yes. inl (eqb-true t x yes))
    (λ no. let s : times t (x ∷ xs) ≡ times t xs = times-other t x xs no in inr (times_member t xs (omega (arith, s, h))))

at_most_once : (xs : List ℕ) → Distinct xs → (t : ℕ) → times t xs ≤ 1
at_most_once [] d t = omega arith
at_most_once (x ∷ xs) d t = by_cases (t == x)
    (λ yes. let s : times t (x ∷ xs) ≡ 1 + times t xs = times-same t x xs yes in
    let e : t ≡ x = eqb-true t x yes in
    none_or (times t xs) (λ z. omega (arith, s, z)) (λ some. absurd (d.0 (subst (λ y. Member y xs) e (times_member t xs some)))))
    (λ no. let s : times t (x ∷ xs) ≡ times t xs = times-other t x xs no in let i : times t xs ≤ 1 = at_most_once xs d.1 t in omega (arith, s, i))
  where
    none_or : {P : Type 0} (n : ℕ) → (n ≡ 0 → P) → (0 < n → P) → P
    none_or zero f g = f refl
    none_or (suc n) f g = g (omega arith)

once_distinct : (xs : List ℕ) → ((t : ℕ) → times t xs ≤ 1) → Distinct xs
once_distinct [] h = tt
once_distinct (x ∷ xs) h = (
  (λ m. let one : times x (x ∷ xs) ≤ 1 = h x in
      let s : times x (x ∷ xs) ≡ 1 + times x xs = times-same x x xs (eq-eqb x x refl) in
      let i : 0 < times x xs = member_times x xs m in omega (arith, one, s, i)),
  once_distinct xs (λ t. let one : times t (x ∷ xs) ≤ 1 = h t in let l : times t xs ≤ times t (x ∷ xs) = fewer t x xs in omega (arith, one, l)),
)
  where
    fewer : (t x : ℕ) (xs : List ℕ) → times t xs ≤ times t (x ∷ xs)
    fewer t x xs = omega arith

same_members : (t : ℕ) (xs ys : List ℕ) → IsPermutation xs ys → Member t xs → Member t ys
same_members t xs ys p m =
    let e : times t ys ≡ times t xs = same_times t xs ys p in
    let i : 0 < times t xs = member_times t xs m in times_member t ys (omega (arith, e, i))

same_distinct : (xs ys : List ℕ) → IsPermutation xs ys → Distinct xs → Distinct ys
same_distinct xs ys p d = once_distinct ys (λ t.
    let e : times t ys ≡ times t xs = same_times t xs ys p in
    let i : times t xs ≤ 1 = at_most_once xs d t in omega (arith, e, i))

-- what can be placed may stand in any order
pub reordered : {rows : List (List ℕ)} {flags : List Bool} {c : ℕ → ℕ} {done : List ℕ} (todo todo' : List ℕ) → IsPermutation todo todo'
    → IsPlacing rows flags c done todo → IsPlacing rows flags c done todo'
reordered {rows = rows} {flags = flags} {c = c} {done = done} todo todo' moved p =
    let all : IsPermutation (done ++ todo) (done ++ todo') = IsPermutation-append_right done todo todo' moved in
    let back : IsPermutation (done ++ todo') (done ++ todo) = IsPermutation-sym (done ++ todo) (done ++ todo') all in
    record {
      as_long = p.as_long;
      counts = p.counts;
      zero_in = λ t h z. same_members t (done ++ todo) (done ++ todo') all (p.zero_in t h z);
      in_zero = λ t m. p.in_zero t (same_members t (done ++ todo') (done ++ todo) back m);
      once = same_distinct (done ++ todo) (done ++ todo') all p.once;
      flagged = p.flagged;
      placed = p.placed;
      after = p.after;
      few = p.few;
    }

-- at first none is ready
pub first : {rows : List (List ℕ)} {flags : List Bool} {c : ℕ → ℕ} {done free none ready : List ℕ} → none ≡ [] → IsPermutation (free ++ none) ready
    → IsPlacing rows flags c done free → IsPlacing rows flags c done ready
first {free = free} {ready = ready} e moved = reordered free ready
    (subst (λ xs. IsPermutation xs ready) (ap (λ xs. free ++ xs) e ∙ append-nil free) moved)

-- the node that is taken, before those that stay
pub taken : {rows : List (List ℕ)} {flags : List Bool} {c : ℕ → ℕ} {done ready stay : List ℕ} {k node : ℕ} → k ≡ node → IsPermutation ready (node ∷ stay)
    → IsPlacing rows flags c done ready → IsPlacing rows flags c done (k ∷ stay)
taken {ready = ready} {stay = stay} {k = k} is moved = reordered ready (k ∷ stay) (subst (λ x. IsPermutation ready (x ∷ stay)) (sym is) moved)

-- freed nodes join those that stayed
pub joined : {rows : List (List ℕ)} {flags : List Bool} {c : ℕ → ℕ} {done free freed ready : List ℕ} (stay : List ℕ) → free ≡ freed → IsPermutation (free ++ stay) ready
    → IsPlacing rows flags c done (stay ++ freed) → IsPlacing rows flags c done ready
joined {free = free} {freed = freed} {ready = ready} stay is moved = reordered (stay ++ freed) ready
    (IsPermutation-trans (stay ++ freed) (freed ++ stay) ready (IsPermutation-append_comm stay freed)
    (subst (λ xs. IsPermutation (xs ++ stay) ready) is moved))

-- the last of the free nodes becomes ready
pub one_ready : (all free free' : List ℕ) (node n : ℕ) (ready ready' : List ℕ) → free ≡ free' ++ node ∷ [] → n ≡ node → IsPermutation (n ∷ ready) ready'
    → IsPermutation all (free ++ ready) → IsPermutation all (free' ++ ready')
one_ready all free free' node n ready ready' e same more p =
    let moved : IsPermutation (free' ++ node ∷ ready) (free' ++ ready') =
    IsPermutation-append_right free' (node ∷ ready) ready' (subst (λ x. IsPermutation (x ∷ ready) ready') same more) in
    IsPermutation-trans all (free' ++ node ∷ ready) (free' ++ ready')
    (subst (IsPermutation all) (ap (λ xs. xs ++ ready) e ∙ append_assoc free' (node ∷ []) ready) p) moved

-- what can be placed has a rank, where each node has
pub ranked_each : (graph : List (Vec ℕ Global)) (ranks : List ℕ) → length ranks ≡ length graph
    → {flags : List Bool} {c : ℕ → ℕ} (done todo : List ℕ) → IsPlacing (rows_of graph) flags c done todo → (t : ℕ) → Member t todo → t < length ranks
ranked_each graph ranks e done todo p t m =
    let small : t < length (rows_of graph) = (p.in_zero t (member_right t done todo m)).0 in
    omega (arith, small, length_rows graph, e)
