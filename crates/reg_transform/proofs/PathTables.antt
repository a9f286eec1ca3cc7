-- A list of steps in which each path stands once: one more step, and one more instance.
use Rattle.std.proofs.Common.{◌≡◌, ℕ, zero, suc, ◌+◌, ◌<◌, ◌≤◌, ◌⊎◌, inl, inr, Bool, true, false, ◌&&◌, ◌==◌, List, [], ◌∷◌, ◌++◌, length, map, get_or, slice_get, drop, IsTrue, refl, sym, ◌∙◌, ap, ap₂, subst, arith, true≢false}
use Rattle.std.specs.Prelude.{Option, Some, None, slice_index, nat_eq}
use Rattle.std.specs.Option.{option_eq}
use Rattle.std.specs.List.{list_any}
use Rattle.std.proofs.lemmas.Bool.{ltb-true, lt-ltb, eqb-true, eq-eqb, and_from, cond-true, cond-false}
use Rattle.std.proofs.lemmas.List.{length-append, length-map, map_push, get_or_append_left, length_push, same_from_push}
use Rattle.std.proofs.Math.Seq.{get_or-append_seam}
use Rattle.std.proofs.lemmas.List.Folds.{list_any_at}
use Rattle.std.proofs.lemmas.Option.{same_Some, none-some, slice_get_within, get_or_from_slice_get}
use Rattle.indexmap.specs.IndexSet.{insert_key}
use Rattle.typed_ir.specs.declared.instance_name.InstanceName.{InstanceName}
use Rattle.typed_ir.specs.Paths.{path_above, path_next, paths_from, paths_of, parents_of, parents_before, stands, same_path}
use Rattle.typed_ir.proofs.Cases.{by_cases, and_left, and_right}
use Rattle.typed_ir.proofs.Lists.{drop_read}
use Rattle.typed_ir.proofs.Paths.{path_itself}
use Rattle.reg_transform.specs.declared.path_step.PathStep.{PathStep}
use Rattle.reg_transform.specs.PathNumbers.{row_of, step_paths, path_at, goes_on, number_above, IsPathTable, Grows, IsNext, IsNumbered, NumberPaths}
use Rattle.reg_transform.proofs.Finding.{same_is}

-- ---- paths of lists

-- the paths of a list, and of one more behind it
paths_more : (paths : List (List ℕ)) (xs : List InstanceName) (x : InstanceName)
    → paths_from paths (xs ++ x ∷ []) ≡ paths_from paths xs ++ path_next (paths_from paths xs) x.parent x.name.0 ∷ []
paths_more paths [] x = refl
paths_more paths (y ∷ ys) x = paths_more (paths ++ path_next paths y.parent y.name.0 ∷ []) ys x

paths_length : (paths : List (List ℕ)) (xs : List InstanceName) (n : ℕ) → length paths ≡ n → length (paths_from paths xs) ≡ n + length xs
paths_length paths [] n e = omega (arith, e)
paths_length paths (x ∷ xs) n e =
    let one : length (paths ++ path_next paths x.parent x.name.0 ∷ []) ≡ length paths + 1 = length-append paths (path_next paths x.parent x.name.0 ∷ []) in
    let rest : length (paths_from paths (x ∷ xs)) ≡ n + 1 + length xs = paths_length (paths ++ path_next paths x.parent x.name.0 ∷ []) xs (n + 1) (omega (arith, one, e)) in
    omega (arith, rest)

pub rows_length : (rows : List InstanceName) → length (paths_of rows) ≡ length rows
rows_length rows = let all : length (paths_of rows) ≡ 0 + length rows = paths_length [] rows 0 refl in omega (arith, all)

steps_more : (xs : List PathStep) (s : PathStep) → step_paths (xs ++ s ∷ []) ≡ step_paths xs ++ path_next (step_paths xs) s.before s.name.0 ∷ []
steps_more xs s = ap (paths_from []) (map_push row_of xs s) ∙ paths_more [] (map row_of xs) (row_of s)

steps_length : (xs : List PathStep) → length (step_paths xs) ≡ length xs
steps_length xs = rows_length (map row_of xs) ∙ length-map xs row_of

-- a number of before
old_path : (xs : List PathStep) (s : PathStep) (n : ℕ) → n < length xs → path_at (xs ++ s ∷ []) n ≡ path_at xs n
old_path xs s n h =
    let long = steps_length xs in
    ap (λ ps. get_or ps n []) (steps_more xs s) ∙ get_or_append_left (step_paths xs) (path_next (step_paths xs) s.before s.name.0 ∷ []) [] n (omega (arith, h, long))

-- the number of the new one
new_path : (xs : List PathStep) (s : PathStep) → path_at (xs ++ s ∷ []) (length xs) ≡ path_next (step_paths xs) s.before s.name.0
new_path xs s =
    ap (λ ps. get_or ps (length xs) []) (steps_more xs s)
    ∙ ap (λ n. get_or (step_paths xs ++ path_next (step_paths xs) s.before s.name.0 ∷ []) n []) (sym (steps_length xs))
    ∙ get_or-append_seam (step_paths xs) (path_next (step_paths xs) s.before s.name.0) [] []

-- what stands above stays
old_above : (xs : List PathStep) (s : PathStep) (b : Option ℕ) → IsTrue (goes_on (length xs) b) → path_above (step_paths (xs ++ s ∷ [])) b ≡ path_above (step_paths xs) b
old_above xs s None h = refl
old_above xs s (Some p) h = old_path xs s p (ltb-true p (length xs) h)

-- ---- one more step

got : (xs : List PathStep) (p : ℕ) → p < length xs → (s : PathStep) × (slice_get xs p ≡ Some s)
got [] p h = absurd (omega (arith, h))
got (x ∷ xs) zero h = (x, refl)
got (x ∷ xs) (suc p) h = got xs p (omega (arith, h))

is_some : (xs : List PathStep) (p : ℕ) → IsPathTable xs → p < length xs → path_at xs p ≡ [] → ⊥
is_some xs p t h e =
    let s : (s : PathStep) × (slice_get xs p ≡ Some s) = got xs p h in
    let above = path_above (step_paths xs) s.0.before in
    let long : length (above ++ s.0.name.0 ∷ []) ≡ length above + 1 = length_push above s.0.name.0 in
    let none : length (above ++ s.0.name.0 ∷ []) ≡ 0 = ap length (sym (t.next p s.0 s.1) ∙ e) in
    omega (arith, long, none)

-- of a table, a step is known by its path
above_same : (xs : List PathStep) (b d : Option ℕ) → IsPathTable xs → IsTrue (goes_on (length xs) b) → IsTrue (goes_on (length xs) d)
    → path_above (step_paths xs) b ≡ path_above (step_paths xs) d → b ≡ d
above_same xs None None t h k e = refl
above_same xs None (Some q) t h k e = absurd (is_some xs q t (ltb-true q (length xs) k) (sym e))
above_same xs (Some p) None t h k e = absurd (is_some xs p t (ltb-true p (length xs) h) e)
above_same xs (Some p) (Some q) t h k e = ap Some (t.once p q (ltb-true p (length xs) h) (ltb-true q (length xs) k) e)

step_same : (x s : PathStep) → x.before ≡ s.before → x.name.0 ≡ s.name.0 → x ≡ s
step_same x s b n = ap₂ make b n
  where
    make : Option ℕ → ℕ → PathStep
    make b n = record { before = b; name = record { 0 = n } }

wider : (m n : ℕ) (b : Option ℕ) → m ≤ n → IsTrue (goes_on m b) → IsTrue (goes_on n b)
wider m n None h k = refl
wider m n (Some p) h k = let small : p < m = ltb-true p m k in lt-ltb p n (omega (arith, h, small))

-- one of before, or the new one
split_last : (xs : List PathStep) (s : PathStep) (j : ℕ) (x : PathStep) → slice_get (xs ++ s ∷ []) j ≡ Some x → (slice_get xs j ≡ Some x) ⊎ ((j ≡ length xs) × (x ≡ s))
split_last [] s zero x e = inr (refl, sym (same_Some s x e))
split_last [] s (suc j) x e = absurd (none-some x e)
split_last (y ∷ ys) s zero x e = inl e
split_last (y ∷ ys) s (suc j) x e = elim (split_last ys s j x e) as (λ _. (slice_get ys j ≡ Some x) ⊎ ((suc j ≡ suc (length ys)) × (x ≡ s)))
    [ inl h ↦ inl h | inr h ↦ inr (ap suc h.0, h.1) ]

-- a step that isn't there has a path of its own
record IsNew (old : List PathStep) (s : PathStep) : Type 0 where
  table : IsPathTable old
  goes : IsTrue (goes_on (length old) s.before)
  absent : (i : ℕ) → slice_get old i ≡ Some s → ⊥

new_apart : (old : List PathStep) (s : PathStep) → IsNew old s → (i : ℕ) (x : PathStep) → slice_get old i ≡ Some x
    → path_at old i ≡ path_next (step_paths old) s.before s.name.0 → ⊥
new_apart old s is i x at e =
    let both : (path_above (step_paths old) x.before ≡ path_above (step_paths old) s.before) × (x.name.0 ≡ s.name.0) =
    same_from_push (path_above (step_paths old) x.before) (path_above (step_paths old) s.before) x.name.0 s.name.0 (sym (is.table.next i x at) ∙ e) in
    let above : x.before ≡ s.before = above_same old x.before s.before is.table (is.table.within i x at) is.goes both.0 in
    is.absent i (at ∙ ap Some (step_same x s above both.1))

more_table : (old : List PathStep) (s : PathStep) → IsNew old s → IsPathTable (old ++ s ∷ [])
more_table old s is = record {
  within = λ j x at. wider (length old) (length (old ++ s ∷ [])) x.before (omega (arith, long)) (stood j x (split_last old s j x at));
  next = λ j x at. followed j x (split_last old s j x at);
  once = λ i j h k e.
      (let x : (x : PathStep) × (slice_get (old ++ s ∷ []) i ≡ Some x) = got (old ++ s ∷ []) i h in
      let y : (y : PathStep) × (slice_get (old ++ s ∷ []) j ≡ Some y) = got (old ++ s ∷ []) j k in
      apart i j x.0 y.0 (split_last old s i x.0 x.1) (split_last old s j y.0 y.1) e);
}
  where
    long : length (old ++ s ∷ []) ≡ length old + 1
    long = length-append old (s ∷ [])

    stood : (j : ℕ) (x : PathStep) → (slice_get old j ≡ Some x) ⊎ ((j ≡ length old) × (x ≡ s)) → IsTrue (goes_on (length old) x.before)
    stood j x (inl at) = is.table.within j x at
    stood j x (inr h) = subst (λ (z : PathStep). IsTrue (goes_on (length old) z.before)) (sym h.1) is.goes

    followed : (j : ℕ) (x : PathStep) → (slice_get old j ≡ Some x) ⊎ ((j ≡ length old) × (x ≡ s))
        → path_at (old ++ s ∷ []) j ≡ path_next (step_paths (old ++ s ∷ [])) x.before x.name.0
    followed j x (inl at) =
        old_path old s j (slice_get_within old j x at) ∙ is.table.next j x at
        ∙ ap (λ p. p ++ x.name.0 ∷ []) (sym (old_above old s x.before (is.table.within j x at)))
    followed j x (inr h) =
        ap (path_at (old ++ s ∷ [])) h.0 ∙ new_path old s
        ∙ ap (λ p. p ++ s.name.0 ∷ []) (sym (old_above old s s.before is.goes))
        ∙ ap (λ (z : PathStep). path_next (step_paths (old ++ s ∷ [])) z.before z.name.0) (sym h.1)

    apart : (i j : ℕ) (x y : PathStep) → (slice_get old i ≡ Some x) ⊎ ((i ≡ length old) × (x ≡ s)) → (slice_get old j ≡ Some y) ⊎ ((j ≡ length old) × (y ≡ s))
        → path_at (old ++ s ∷ []) i ≡ path_at (old ++ s ∷ []) j → i ≡ j
    apart i j x y (inl p) (inl q) e =
        let h : i < length old = slice_get_within old i x p in
        let k : j < length old = slice_get_within old j y q in
        is.table.once i j h k (sym (old_path old s i h) ∙ e ∙ old_path old s j k)
    apart i j x y (inl p) (inr q) e =
        absurd (new_apart old s is i x p (sym (old_path old s i (slice_get_within old i x p)) ∙ e ∙ ap (path_at (old ++ s ∷ [])) q.0 ∙ new_path old s))
    apart i j x y (inr p) (inl q) e =
        absurd (new_apart old s is j y q (sym (old_path old s j (slice_get_within old j y q)) ∙ sym e ∙ ap (path_at (old ++ s ∷ [])) p.0 ∙ new_path old s))
    apart i j x y (inr p) (inr q) e = p.0 ∙ sym q.0

-- equal steps
before_same : (p q : Option ℕ) → option_eq nat_eq p q ≡ true → p ≡ q
before_same None None h = refl
before_same None (Some q) h = absurd (true≢false (sym h))
before_same (Some p) None h = absurd (true≢false (sym h))
before_same (Some p) (Some q) h = ap Some (eqb-true p q h)

before_own : (p : Option ℕ) → option_eq nat_eq p p ≡ true
before_own None = refl
before_own (Some p) = eq-eqb p p refl

pub equal_steps : (x y : PathStep) → (option_eq nat_eq x.before y.before && (x.name.0 == y.name.0)) ≡ true → x ≡ y
equal_steps x y h =
    step_same x y (before_same x.before y.before (and_left (option_eq nat_eq x.before y.before) (x.name.0 == y.name.0) h))
    (eqb-true x.name.0 y.name.0 (and_right (option_eq nat_eq x.before y.before) (x.name.0 == y.name.0) h))

pub own_step : (x : PathStep) → (option_eq nat_eq x.before x.before && (x.name.0 == x.name.0)) ≡ true
own_step x = and_from (option_eq nat_eq x.before x.before) (x.name.0 == x.name.0) (before_own x.before) (eq-eqb x.name.0 x.name.0 refl)

-- a step that is there, or that joins the list
pub next_step : (E : PathStep → PathStep → Bool) → ((x y : PathStep) → E x y ≡ true → x ≡ y) → ((x : PathStep) → E x x ≡ true)
    → (old new : List PathStep) (s k : PathStep) (n : ℕ) → IsPathTable old → IsTrue (goes_on (length old) s.before)
    → new ≡ insert_key E old s → slice_get new n ≡ Some k → E s k ≡ true → IsNext old new s n
next_step E sound own old new s k n table goes is at same = by_cases (list_any (E s) old)
    (λ t. subst (λ zs. IsNext old zs s n) (sym (all_known t)) (known (subst (λ zs. slice_get zs n ≡ Some s) (all_known t) here)))
    (λ f. subst (λ zs. IsNext old zs s n) (sym (one_more f)) (added (new_one f) (subst (λ zs. slice_get zs n ≡ Some s) (one_more f) here)))
  where
    here : slice_get new n ≡ Some s
    here = at ∙ ap Some (sym (sound s k same))

    all_known : list_any (E s) old ≡ true → new ≡ old
    all_known t = is ∙ cond-true (list_any (E s) old) old (old ++ s ∷ []) t

    one_more : list_any (E s) old ≡ false → new ≡ old ++ s ∷ []
    one_more f = is ∙ cond-false (list_any (E s) old) old (old ++ s ∷ []) f

    known : slice_get old n ≡ Some s → IsNext old old s n
    known there = record {
      table = table;
      grows = record { longer = omega arith; same = λ m h. refl };
      within = slice_get_within old n s there;
      path = table.next n s there;
    }

    new_one : list_any (E s) old ≡ false → IsNew old s
    new_one f = record {
      table = table;
      goes = goes;
      absent = λ i there. true≢false (sym (list_any_at (E s) old i s (slice_get_within old i s there)
          (ap (E s) (get_or_from_slice_get old i s s there) ∙ own s)) ∙ f);
    }

    added : IsNew old s → slice_get (old ++ s ∷ []) n ≡ Some s → IsNext old (old ++ s ∷ []) s n
    added new_is there =
        let long : length (old ++ s ∷ []) ≡ length old + 1 = length-append old (s ∷ []) in
        record {
          table = more_table old s new_is;
          grows = record { longer = omega (arith, long); same = λ m h. old_path old s m h };
          within = slice_get_within (old ++ s ∷ []) n s there;
          path = elim (split_last old s n s there) as (λ _. path_at (old ++ s ∷ []) n ≡ path_next (step_paths old) s.before s.name.0)
              [ inl h ↦ absurd (new_is.absent n h) | inr h ↦ ap (path_at (old ++ s ∷ [])) h.0 ∙ new_path old s ];
        }

pub empty_table : (xs : List PathStep) → length xs ≡ 0 → IsPathTable xs
empty_table [] e = record {
  within = λ j s at. absurd (none-some s at);
  next = λ j s at. absurd (none-some s at);
  once = λ i j h k same. absurd (omega (arith, h));
}
empty_table (x ∷ xs) e = absurd (omega (arith, e))

-- ---- one more instance

-- what stands before it
pub goes_here : (rows : List InstanceName) (i : ℕ) (x : InstanceName) → i < length rows → x ≡ get_or rows i x
    → IsTrue (parents_before i (parents_of (drop i rows))) → IsTrue (goes_on i x.parent)
goes_here rows i x h is s = stood x.parent (and_left (stands i x.parent) (parents_before (suc i) (parents_of (drop (i + 1) rows)))
    (sym (ap (λ zs. parents_before i (parents_of zs)) (drop_read rows i x h is)) ∙ s))
  where
    stood : (p : Option ℕ) → stands i p ≡ true → IsTrue (goes_on i p)
    stood None e = refl
    stood (Some p) e = e

pub rooted_after : (rows : List InstanceName) (i : ℕ) (x : InstanceName) → i < length rows → x ≡ get_or rows i x
    → IsTrue (parents_before i (parents_of (drop i rows))) → IsTrue (parents_before (i + 1) (parents_of (drop (i + 1) rows)))
rooted_after rows i x h is s =
    let more : i + 1 ≡ suc i = omega arith in
    ap (λ n. parents_before n (parents_of (drop (i + 1) rows))) more
    ∙ and_right (stands i x.parent) (parents_before (suc i) (parents_of (drop (i + 1) rows)))
    (sym (ap (λ zs. parents_before i (parents_of zs)) (drop_read rows i x h is)) ∙ s)

pub number_goes : (numbers : List ℕ) (count : ℕ) (p : Option ℕ) → ((i : ℕ) → i < length numbers → get_or numbers i 0 < count)
    → IsTrue (goes_on (length numbers) p) → IsTrue (goes_on count (number_above numbers p))
number_goes numbers count None small h = refl
number_goes numbers count (Some p) small h = lt-ltb (slice_index numbers p) count (small p (ltb-true p (length numbers) h))

got_path : (f : ℕ → List ℕ) (numbers : List ℕ) (i : ℕ) → i < length numbers → get_or (map f numbers) i [] ≡ f (get_or numbers i 0)
got_path f [] i h = absurd (omega (arith, h))
got_path f (n ∷ ns) zero h = refl
got_path f (n ∷ ns) (suc i) h = got_path f ns i (omega (arith, h))

paths_kept : (f g : ℕ → List ℕ) (numbers : List ℕ) (count : ℕ) → ((n : ℕ) → n < count → f n ≡ g n) → ((i : ℕ) → i < length numbers → get_or numbers i 0 < count)
    → map f numbers ≡ map g numbers
paths_kept f g [] count same small = refl
paths_kept f g (n ∷ ns) count same small =
    ap₂ (λ (z : List ℕ) (zs : List (List ℕ)). z ∷ zs) (same n (small zero (omega arith)))
    (paths_kept f g ns count same (λ i h. small (suc i) (omega (arith, h))))

pub all_small : (numbers : List ℕ) (n old new : ℕ) → old ≤ new → n < new → ((i : ℕ) → i < length numbers → get_or numbers i 0 < old)
    → (i : ℕ) → i < length (numbers ++ n ∷ []) → get_or (numbers ++ n ∷ []) i 0 < new
all_small [] n old new wide here small zero h = here
all_small [] n old new wide here small (suc i) h = absurd (omega (arith, h))
all_small (m ∷ ms) n old new wide here small zero h = let first : m < old = small zero (omega arith) in omega (arith, first, wide)
all_small (m ∷ ms) n old new wide here small (suc i) h =
    all_small ms n old new wide here (λ j k. small (suc j) (omega (arith, k))) i (omega (arith, h))

pub walk_step : (steps new : List PathStep) (numbers : List ℕ) (rows : List InstanceName) (i n : ℕ) (x : InstanceName) (all : List (List ℕ)) → i < length rows
    → x ≡ get_or rows i x → ((j : ℕ) → j < length numbers → get_or numbers j 0 < length steps) → IsTrue (goes_on (length numbers) x.parent)
    → IsNext steps new (record { before = number_above numbers x.parent; name = x.name }) n
    → paths_from (map (path_at steps) numbers) (drop i rows) ≡ all
    → paths_from (map (path_at new) (numbers ++ n ∷ [])) (drop (i + 1) rows) ≡ all
walk_step steps new numbers rows i n x all h is small goes next so_far =
    ap (λ ps. paths_from ps (drop (i + 1) rows))
    (map_push (path_at new) numbers n
    ∙ ap₂ (λ (ps : List (List ℕ)) (p : List ℕ). ps ++ p ∷ [])
    (paths_kept (path_at new) (path_at steps) numbers (length steps) next.grows.same small)
    (next.path ∙ ap (λ p. p ++ x.name.0 ∷ []) (above x.parent goes)))
    ∙ sym (ap (paths_from (map (path_at steps) numbers)) (drop_read rows i x h is)) ∙ so_far
  where
    above : (p : Option ℕ) → IsTrue (goes_on (length numbers) p) → path_above (step_paths steps) (number_above numbers p) ≡ path_above (map (path_at steps) numbers) p
    above None g = refl
    above (Some p) g = sym (got_path (path_at steps) numbers p (ltb-true p (length numbers) g))

-- ---- two tables

pub grown_numbers : (steps new : List PathStep) (numbers : List ℕ) (paths : List (List ℕ)) → Grows steps new → IsNumbered steps numbers paths → IsNumbered new numbers paths
grown_numbers steps new numbers paths g is = record {
  within = λ i h. (let small : get_or numbers i 0 < length steps = is.within i h in omega (arith, small, g.longer));
  paths_are = paths_kept (path_at new) (path_at steps) numbers (length steps) g.same is.within ∙ is.paths_are;
}

pub two_tables : (steps : List PathStep) (old new : List ℕ) (old_rows new_rows : List InstanceName) → IsPathTable steps
    → IsNumbered steps old (paths_of old_rows) → IsNumbered steps new (paths_of new_rows) → NumberPaths old old_rows new new_rows
two_tables steps old new old_rows new_rows table one other = record {
  old_length = sym (mapped_length (path_at steps) old) ∙ ap length one.paths_are ∙ rows_length old_rows;
  new_length = sym (mapped_length (path_at steps) new) ∙ ap length other.paths_are ∙ rows_length new_rows;
  same = λ i j h k.
      alike (get_or old i 0) (get_or new j 0) (one.within i h) (other.within j k)
      ∙ ap₂ same_path (sym (got_path (path_at steps) old i h) ∙ ap (λ ps. get_or ps i []) one.paths_are)
      (sym (got_path (path_at steps) new j k) ∙ ap (λ ps. get_or ps j []) other.paths_are);
}
  where
    mapped_length : (f : ℕ → List ℕ) (ns : List ℕ) → length (map f ns) ≡ length ns
    mapped_length f [] = refl
    mapped_length f (n ∷ ns) = ap suc (mapped_length f ns)

    alike : (a b : ℕ) → a < length steps → b < length steps → (a == b) ≡ same_path (path_at steps a) (path_at steps b)
    alike a b h k = by_cases (a == b)
        (λ t. t ∙ sym (ap (λ n. same_path (path_at steps a) (path_at steps n)) (sym (eqb-true a b t)) ∙ path_itself (path_at steps a)))
        (λ f. by_cases (same_path (path_at steps a) (path_at steps b))
        (λ t. absurd (true≢false (sym (eq-eqb a b (table.once a b h k (same_is (path_at steps a) (path_at steps b) t))) ∙ f)))
        (λ g. f ∙ sym g))
