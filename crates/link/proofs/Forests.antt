-- A table of instances that is depth first is that of a tree.
use Rattle.std.proofs.Common.{◌≡◌, ℕ, suc, ◌+◌, ◌<◌, true, ◌&&◌, ◌==◌, nat_lt, List, [], ◌∷◌, ◌++◌, map, length, cond, Option, Some, None, append_assoc, true≢false, refl, sym, ◌∙◌, ap, subst, ltb-true, lt-ltb, eqb-true, arith}
use Rattle.std.proofs.lemmas.Bool.{and_from}
use Rattle.typed_ir.specs.declared.instance_name.InstanceName.{InstanceName}
use Rattle.typed_ir.specs.Orders.{Each}
use Rattle.typed_ir.specs.Paths.{parents_of, parents_before}
use Rattle.typed_ir.proofs.Cases.{and_left, and_right, by_cases}
use Rattle.typed_ir.specs.declared.instance.Instance.{Instance}
use Rattle.typed_ir.specs.declared.unit_parts.UnitParts.{UnitParts}
use Rattle.typed_ir.specs.Instances.{parent_of, closed_to, goes_down, is_depth_first}
use Rattle.typed_ir.specs.Trees.{SizedUnit, Instances, Nothing, One}
use Rattle.typed_ir.specs.Units.{sized_unit}
use Rattle.link.specs.Copies.{places_of}
use Rattle.link.specs.Listings.{Entry, instances_in, listed, entries_of, IsTreeOf}

-- ---- forests, one for each instance that is open, the innermost first

abbrev pub all_listed : List ℕ → ℕ → List Instances → List Entry
all_listed [] k fs = []
all_listed (p ∷ ps) k [] = []
all_listed (p ∷ ps) k (f ∷ fs) = listed (Some p) k f ++ all_listed ps (k + instances_in f) fs

record Grown (open_ones : List ℕ) (k : ℕ) (es : List Entry) : Type 0 where
  forests : List Instances
  many : length forests ≡ length open_ones
  is : all_listed open_ones k forests ≡ es

one_nothing : (q : ℕ) (qs : List ℕ) (k : ℕ) (es : List Entry) → Grown qs k es → Grown (q ∷ qs) k es
one_nothing q qs k es g = record {
  forests = Nothing ∷ g.forests;
  many = ap suc g.many;
  is = ap (λ n. all_listed qs n g.forests) (omega arith) ∙ g.is;
}

nothing_grown : (qs : List ℕ) (k : ℕ) → Grown qs k []
nothing_grown [] k = record { forests = []; many = refl; is = refl }
nothing_grown (q ∷ qs) k = one_nothing q qs k [] (nothing_grown qs k)

-- where those inside p are closed first
reopened : (p k : ℕ) (qs : List ℕ) (es : List Entry) → Grown (closed_to p qs) k es → Grown qs k es
reopened p k [] es g = g
reopened p k (q ∷ qs) es g = by_cases (p == q)
    (λ yes. subst (λ zs. Grown zs k es) (ap (λ b. cond b (q ∷ qs) (closed_to p qs)) yes) g)
    (λ no. one_nothing q qs k es (reopened p k qs es (subst (λ zs. Grown zs k es) (ap (λ b. cond b (q ∷ qs) (closed_to p qs)) no) g)))

record Headed (p : ℕ) (qs : List ℕ) : Type 0 where
  rest : List ℕ
  is : qs ≡ p ∷ rest

closed_headed : (p : ℕ) (qs : List ℕ) → 0 < length (closed_to p qs) → Headed p (closed_to p qs)
closed_headed p [] h = absurd (omega (arith, h))
closed_headed p (q ∷ qs) h = by_cases (p == q)
    (λ yes. record { rest = qs; is = ap (λ b. cond b (q ∷ qs) (closed_to p qs)) yes ∙ ap (λ n. n ∷ qs) (sym (eqb-true p q yes)) })
    (λ no. let same : closed_to p (q ∷ qs) ≡ closed_to p qs = ap (λ b. cond b (q ∷ qs) (closed_to p qs)) no in
    let inner = closed_headed p qs (subst (λ zs. 0 < length zs) same h) in
    record { rest = inner.rest; is = same ∙ inner.is })

-- one more instance, before what stands in it and what comes after it
one_joined : (p k name : ℕ) (u : SizedUnit) (rest : List ℕ) (es : List Entry) (fs : List Instances)
    → length fs ≡ length (k ∷ p ∷ rest) → all_listed (k ∷ p ∷ rest) (suc k) fs ≡ es
    → Grown (p ∷ rest) k (record { parent = Some p; name = name; unit = u } ∷ es)
one_joined p k name u rest es [] many is = absurd (omega (arith, many))
one_joined p k name u rest es (w ∷ []) many is = absurd (omega (arith, many))
one_joined p k name u rest es (w ∷ a ∷ fs) many is = record {
  forests = One name u w a ∷ fs;
  many = omega (arith, many);
  is = ap (λ zs. record { parent = Some p; name = name; unit = u } ∷ zs)
      (append_assoc (listed (Some k) (suc k) w) (listed (Some p) (suc k + instances_in w) a) (all_listed rest (k + suc (instances_in w + instances_in a)) fs)
      ∙ ap (λ n. listed (Some k) (suc k) w ++ (listed (Some p) (suc k + instances_in w) a ++ all_listed rest n fs)) (omega arith)
      ∙ is);
}

one_grown : (p k name : ℕ) (u : SizedUnit) (qs : List ℕ) (es : List Entry) → 0 < length (closed_to p qs) → Grown (k ∷ closed_to p qs) (suc k) es
    → Grown qs k (record { parent = Some p; name = name; unit = u } ∷ es)
one_grown p k name u qs es h g =
    let head = closed_headed p qs h in
    let opened = subst (λ zs. Grown (k ∷ zs) (suc k) es) head.is g in
    reopened p k qs _ (subst (λ zs. Grown zs k (record { parent = Some p; name = name; unit = u } ∷ es)) (sym head.is)
    (one_joined p k name u head.rest es opened.forests opened.many opened.is))

grown : (qs : List ℕ) (k : ℕ) (xs : List Instance) (us : List UnitParts) → length us ≡ length xs → goes_down qs k (map parent_of xs) ≡ true
    → Grown qs k (entries_of xs us)
grown qs k [] us long down = nothing_grown qs k
grown qs k (x ∷ xs) [] long down = absurd (omega (arith, long))
grown qs k (x ∷ xs) (u ∷ us) long down =
    by_parent x.place.parent refl (λ p is. grown (k ∷ closed_to p qs) (suc k) xs us (omega (arith, long)) (rest_down p is))
  where
    goes : (p : ℕ) → x.place.parent ≡ Some p → (nat_lt 0 (length (closed_to p qs)) && goes_down (k ∷ closed_to p qs) (suc k) (map parent_of xs)) ≡ true
    goes p is = sym (ap (λ (q : Option ℕ). goes_down qs k (q ∷ map parent_of xs)) is) ∙ down

    rest_down : (p : ℕ) → x.place.parent ≡ Some p → goes_down (k ∷ closed_to p qs) (suc k) (map parent_of xs) ≡ true
    rest_down p is = and_right (nat_lt 0 (length (closed_to p qs))) _ (goes p is)

    by_parent : (q : Option ℕ) → x.place.parent ≡ q → ((p : ℕ) → x.place.parent ≡ Some p → Grown (k ∷ closed_to p qs) (suc k) (entries_of xs us))
        → Grown qs k (entries_of (x ∷ xs) (u ∷ us))
    by_parent None is rest = absurd (true≢false (sym down ∙ ap (λ (q : Option ℕ). goes_down qs k (q ∷ map parent_of xs)) is))
    by_parent (Some p) is rest =
        subst (λ (q : Option ℕ). Grown qs k (record { parent = q; name = x.place.name.0; unit = sized_unit u } ∷ entries_of xs us)) (sym is)
        (one_grown p k x.place.name.0 (sized_unit u) qs (entries_of xs us) (ltb-true 0 (length (closed_to p qs)) (and_left (nat_lt 0 (length (closed_to p qs))) _ (goes p is))) (rest p is))

pub record HasTree (xs : List Instance) (us : List UnitParts) : Type 0 where
  pub tree : Instances
  pub is : IsTreeOf xs us tree

top_grown : (name : ℕ) (u : SizedUnit) (es : List Entry) (fs : List Instances) → length fs ≡ 1 → all_listed (0 ∷ []) 1 fs ≡ es
    → (t : Instances) × (listed None 0 t ≡ record { parent = None; name = name; unit = u } ∷ es)
top_grown name u es [] many is = absurd (omega (arith, many))
top_grown name u es (w ∷ []) many is = (One name u w Nothing, ap (λ zs. record { parent = None; name = name; unit = u } ∷ zs) is)
top_grown name u es (w ∷ a ∷ fs) many is = absurd (omega (arith, many))

pub tree_of : (xs : List Instance) (us : List UnitParts) → is_depth_first (map parent_of xs) ≡ true → length us ≡ length xs → HasTree xs us
tree_of [] us first long = absurd (true≢false (sym first))
tree_of (x ∷ xs) [] first long = absurd (omega (arith, long))
tree_of (x ∷ xs) (u ∷ us) first long = by_parent x.place.parent refl
  where
    by_parent : (q : Option ℕ) → x.place.parent ≡ q → HasTree (x ∷ xs) (u ∷ us)
    by_parent (Some p) is = absurd (true≢false (sym first ∙ ap (λ (q : Option ℕ). is_depth_first (q ∷ map parent_of xs)) is))
    by_parent None is =
        let g = grown (0 ∷ []) 1 xs us (omega (arith, long)) (sym (ap (λ (q : Option ℕ). is_depth_first (q ∷ map parent_of xs)) is) ∙ first) in
        let t = top_grown x.place.name.0 (sized_unit u) (entries_of xs us) g.forests g.many g.is in
        record {
          tree = t.0;
          is = t.1 ∙ ap (λ (q : Option ℕ). record { parent = q; name = x.place.name.0; unit = sized_unit u } ∷ entries_of xs us) (sym is);
        }

-- ---- parents stand before children

closed_below : (n p : ℕ) (qs : List ℕ) → Each (λ q. q < n) qs → Each (λ q. q < n) (closed_to p qs)
closed_below n p [] below = tt
closed_below n p (q ∷ qs) below = by_cases (p == q)
    (λ yes. subst (Each (λ r. r < n)) (sym (ap (λ b. cond b (q ∷ qs) (closed_to p qs)) yes)) below)
    (λ no. subst (Each (λ r. r < n)) (sym (ap (λ b. cond b (q ∷ qs) (closed_to p qs)) no)) (closed_below n p qs below.1))

each_later : (n : ℕ) (qs : List ℕ) → Each (λ q. q < n) qs → Each (λ q. q < suc n) qs
each_later n [] below = tt
each_later n (q ∷ qs) below = (omega (arith, below.0), each_later n qs below.1)

before : (qs : List ℕ) (k : ℕ) (ps : List (Option ℕ)) → Each (λ q. q < k) qs → goes_down qs k ps ≡ true → parents_before k ps ≡ true
before qs k [] below down = refl
before qs k (None ∷ ps) below down = absurd (true≢false (sym down))
before qs k (Some p ∷ ps) below down =
    let some = nat_lt 0 (length (closed_to p qs)) in
    let head = closed_headed p qs (ltb-true 0 (length (closed_to p qs)) (and_left some _ down)) in
    let closed = closed_below k p qs below in
    let mine : Each (λ q. q < k) (p ∷ head.rest) = subst (Each (λ q. q < k)) head.is closed in
    and_from (nat_lt p k) (parents_before (suc k) ps) (lt-ltb p k mine.0)
    (before (k ∷ closed_to p qs) (suc k) ps (omega arith, each_later k (closed_to p qs) closed) (and_right some _ down))

parents_are : (xs : List Instance) → parents_of (places_of xs) ≡ map parent_of xs
parents_are [] = refl
parents_are (x ∷ xs) = ap (λ zs. parent_of x ∷ zs) (parents_are xs)

all_before : (ps : List (Option ℕ)) → is_depth_first ps ≡ true → parents_before 0 ps ≡ true
all_before [] first = refl
all_before (None ∷ ps) first = before (0 ∷ []) 1 ps (omega arith, tt) first
all_before (Some p ∷ ps) first = absurd (true≢false (sym first))

pub rooted : (xs : List Instance) (rows : List InstanceName) → rows ≡ places_of xs → is_depth_first (map parent_of xs) ≡ true → parents_before 0 (parents_of rows) ≡ true
rooted xs rows is first = ap (λ (zs : List InstanceName). parents_before 0 (parents_of zs)) is ∙ ap (parents_before 0) (parents_are xs) ∙ all_before (map parent_of xs) first
