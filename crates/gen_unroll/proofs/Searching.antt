-- The first place that meets a test, in a list that grows at its end or changes in one place; and a port that a declaration completes.
use Rattle.std.proofs.Common.{◌≡◌, ℕ, zero, suc, ◌<◌, ◌==◌, ◌&&◌, Bool, true, false, cond, List, [], ◌∷◌, ◌++◌, length, get_or, set, refl, sym, ◌∙◌, ap, ap₂, arith}
use Rattle.std.specs.Prelude.{Option, Some, None}
use Rattle.std.specs.Option.{option_map}
use Rattle.std.proofs.lemmas.Option.{none-some, same_Some}
use Rattle.gen_unroll.specs.declared.block_id.BlockId.{BlockId}
use Rattle.gen_unroll.specs.Views.{here_of}
use Rattle.gen_unroll.specs.declared.first_places.FirstPlaces.{FirstPlaces}
use Rattle.gen_unroll.specs.Numbers.{place_where, first_where}
use Rattle.gen_unroll.specs.Places.{first_of}
use Rattle.gen_unroll.specs.PlaceViews.{place_in}
use Rattle.gen_unroll.specs.Signals.{NamedSignal, is_port, is_port_named, completes, completed, put}

-- ---- one element more

moved : (p : Option ℕ) (b : Bool) (n : ℕ) → option_map suc (first_of p b n) ≡ first_of (option_map suc p) b (suc n)
moved None true n = refl
moved None false n = refl
moved (Some k) b n = refl

pub place_last : (test : NamedSignal → Bool) (xs : List NamedSignal) (x : NamedSignal) → place_where test (xs ++ x ∷ []) ≡ first_of (place_where test xs) (test x) (length xs)
place_last test [] x = refl
place_last test (y ∷ ys) x = by (test y) (place_last test ys x)
  where
    by : (b : Bool) → place_where test (ys ++ x ∷ []) ≡ first_of (place_where test ys) (test x) (length ys)
        → cond b (Some 0) (option_map suc (place_where test (ys ++ x ∷ []))) ≡ first_of (cond b (Some 0) (option_map suc (place_where test ys))) (test x) (suc (length ys))
    by true rest = refl
    by false rest = ap (option_map suc) rest ∙ moved (place_where test ys) (test x) (length ys)

kept_first : (p : Option ℕ) (n : ℕ) → first_of p false n ≡ p
kept_first None n = refl
kept_first (Some k) n = refl

-- ---- the ports of a table

pub found_port : (old new : FirstPlaces) (xs : List NamedSignal) (x : NamedSignal) (n : ℕ) → ((q : ℕ) → place_in old q ≡ place_where (is_port_named q) xs)
    → ((q : ℕ) → place_in new q ≡ first_of (place_in old q) (x.name.name.0 == q) n) → n ≡ length xs → is_port x ≡ true
    → (q : ℕ) → place_in new q ≡ place_where (is_port_named q) (xs ++ x ∷ [])
found_port old new xs x n all more last port q =
    more q ∙ ap₂ (λ (p : Option ℕ) (k : ℕ). first_of p (x.name.name.0 == q) k) (all q) last
    ∙ ap (λ b. first_of (place_where (is_port_named q) xs) (b && (x.name.name.0 == q)) (length xs)) (sym port)
    ∙ sym (place_last (is_port_named q) xs x)

pub found_none : (old : FirstPlaces) (xs : List NamedSignal) (x : NamedSignal) → ((q : ℕ) → place_in old q ≡ place_where (is_port_named q) xs) → is_port x ≡ false
    → (q : ℕ) → place_in old q ≡ place_where (is_port_named q) (xs ++ x ∷ [])
found_none old xs x all port q =
    all q ∙ sym (kept_first (place_where (is_port_named q) xs) (length xs))
    ∙ ap (λ b. first_of (place_where (is_port_named q) xs) (b && (x.name.name.0 == q)) (length xs)) (sym port)
    ∙ sym (place_last (is_port_named q) xs x)

-- ---- a place

pub suc_some : (p : Option ℕ) (k : ℕ) → option_map suc p ≡ Some k → (j : ℕ) × (p ≡ Some j) × (suc j ≡ k)
suc_some None k h = absurd (none-some k h)
suc_some (Some j) k h = (j, refl, same_Some (suc j) k h)

pub place_within : (test : NamedSignal → Bool) (xs : List NamedSignal) (k : ℕ) → place_where test xs ≡ Some k → k < length xs
place_within test [] k h = absurd (none-some k h)
place_within test (x ∷ xs) k h = by (test x) (place_within test xs) h
  where
    by : (b : Bool) → ((j : ℕ) → place_where test xs ≡ Some j → j < length xs) → cond b (Some 0) (option_map suc (place_where test xs)) ≡ Some k → k < suc (length xs)
    by true rest is = let first : 0 ≡ k = same_Some 0 k is in omega (arith, first)
    by false rest is =
        let s = suc_some (place_where test xs) k is in
        let below : s.0 < length xs = rest s.0 s.1 in
        let next : suc s.0 ≡ k = s.2 in
        omega (arith, below, next)

-- another element that is as good keeps all places
pub place_kept : (test : NamedSignal → Bool) (xs : List NamedSignal) (k : ℕ) (x d : NamedSignal) → test x ≡ test (get_or xs k d) → place_where test (set xs k x) ≡ place_where test xs
place_kept test [] k x d same = refl
place_kept test (y ∷ ys) zero x d same = ap (λ b. cond b (Some 0) (option_map suc (place_where test ys))) same
place_kept test (y ∷ ys) (suc k) x d same = ap (λ o. cond (test y) (Some 0) (option_map suc o)) (place_kept test ys k x d same)

-- ---- a port that a declaration completes, else one more

pub put_there : (n : NamedSignal) (xs : List NamedSignal) (k : ℕ) (d : NamedSignal) → place_where (completes n.block n.name.name.0) xs ≡ Some k
    → put n xs ≡ set xs k (completed n.net (get_or xs k d))
put_there n [] k d h = absurd (none-some k h)
put_there n (x ∷ xs) k d h = by (completes n.block n.name.name.0 x) (λ j. put_there n xs j d) h
  where
    by : (b : Bool) → ((j : ℕ) → place_where (completes n.block n.name.name.0) xs ≡ Some j → put n xs ≡ set xs j (completed n.net (get_or xs j d)))
        → cond b (Some 0) (option_map suc (place_where (completes n.block n.name.name.0) xs)) ≡ Some k
        → cond b (completed n.net x ∷ xs) (x ∷ put n xs) ≡ set (x ∷ xs) k (completed n.net (get_or (x ∷ xs) k d))
    by true rest is = ap (λ (j : ℕ). set (x ∷ xs) j (completed n.net (get_or (x ∷ xs) j d))) (same_Some 0 k is)
    by false rest is =
        let s = suc_some (place_where (completes n.block n.name.name.0) xs) k is in
        ap (λ (zs : List NamedSignal). x ∷ zs) (rest s.0 s.1)
        ∙ ap (λ (j : ℕ). set (x ∷ xs) j (completed n.net (get_or (x ∷ xs) j d))) s.2

pub put_last : (n : NamedSignal) (xs : List NamedSignal) → None ≡ place_where (completes n.block n.name.name.0) xs → put n xs ≡ xs ++ n ∷ []
put_last n [] h = refl
put_last n (x ∷ xs) h = by (completes n.block n.name.name.0 x) (put_last n xs) h
  where
    none_left : (p : Option ℕ) → None ≡ option_map suc p → None ≡ p
    none_left None e = refl
    none_left (Some j) e = absurd (none-some (suc j) e)

    by : (b : Bool) → (None ≡ place_where (completes n.block n.name.name.0) xs → put n xs ≡ xs ++ n ∷ []) → None ≡ cond b (Some 0) (option_map suc (place_where (completes n.block n.name.name.0) xs))
        → cond b (completed n.net x ∷ xs) (x ∷ put n xs) ≡ x ∷ (xs ++ n ∷ [])
    by true rest is = absurd (none-some 0 is)
    by false rest is = ap (λ (zs : List NamedSignal). x ∷ zs) (rest (none_left (place_where (completes n.block n.name.name.0) xs) is))

-- none within a block
pub none_within : (b q : ℕ) (xs : List NamedSignal) → None ≡ place_where (completes (Some b) q) xs
none_within b q [] = refl
none_within b q (x ∷ xs) = ap (option_map suc) (none_within b q xs)

pub none_at : (here : Option BlockId) (b : BlockId) (q : ℕ) (xs : List NamedSignal) → here ≡ Some b → None ≡ place_where (completes (here_of here) q) xs
none_at here b q xs is = none_within b.0 q xs ∙ ap (λ (h : Option BlockId). place_where (completes (here_of h) q) xs) (sym is)

-- ---- what stands at a place

pub first_there : (test : NamedSignal → Bool) (xs : List NamedSignal) (k : ℕ) (d : NamedSignal) → place_where test xs ≡ Some k → first_where test xs ≡ Some (get_or xs k d)
first_there test [] k d h = absurd (none-some k h)
first_there test (x ∷ xs) k d h = by (test x) (λ j. first_there test xs j d) h
  where
    by : (b : Bool) → ((j : ℕ) → place_where test xs ≡ Some j → first_where test xs ≡ Some (get_or xs j d)) → cond b (Some 0) (option_map suc (place_where test xs)) ≡ Some k
        → cond b (Some x) (first_where test xs) ≡ Some (get_or (x ∷ xs) k d)
    by true rest is = ap (λ (j : ℕ). Some (get_or (x ∷ xs) j d)) (same_Some 0 k is)
    by false rest is =
        let s = suc_some (place_where test xs) k is in
        rest s.0 s.1 ∙ ap (λ (j : ℕ). Some (get_or (x ∷ xs) j d)) s.2

pub first_nowhere : (test : NamedSignal → Bool) (xs : List NamedSignal) → None ≡ place_where test xs → first_where test xs ≡ None
first_nowhere test [] h = refl
first_nowhere test (x ∷ xs) h = by (test x) (first_nowhere test xs) h
  where
    none_left : (p : Option ℕ) → None ≡ option_map suc p → None ≡ p
    none_left None e = refl
    none_left (Some j) e = absurd (none-some (suc j) e)

    by : (b : Bool) → (None ≡ place_where test xs → first_where test xs ≡ None) → None ≡ cond b (Some 0) (option_map suc (place_where test xs))
        → cond b (Some x) (first_where test xs) ≡ None
    by true rest is = absurd (none-some 0 is)
    by false rest is = rest (none_left (place_where test xs) is)

-- a place that was noted
pub noted_last : (test : NamedSignal → Bool) (xs : List NamedSignal) (x : NamedSignal) (old new : Option ℕ) (n : ℕ) → old ≡ place_where test xs → new ≡ first_of old (test x) n
    → n ≡ length xs → new ≡ place_where test (xs ++ x ∷ [])
noted_last test xs x old new n before noted last =
    noted ∙ ap₂ (λ (p : Option ℕ) (k : ℕ). first_of p (test x) k) before last ∙ sym (place_last test xs x)

pub ruleset searching = (none_at)
