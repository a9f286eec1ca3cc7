-- Runs of equal rows: what they say of the rows, and what a record makes of them.
use Rattle.std.proofs.Common.{◌≡◌, ℕ, zero, suc, ◌+◌, ◌-◌, ◌<◌, ◌≤◌, true, false, not, nat_lt, leb, ◌&&◌, ◌==◌, cond, List, [], ◌∷◌, ◌++◌, length, take, drop, get_or, set, replicate, Option, Some, None, refl, sym, ◌∙◌, ap, ap₂, subst, true≢false, append_assoc, append-nil, zero-add, arith}
use Rattle.std.proofs.lemmas.Bool.{eqb-true, eq-eqb, ltb-true, ltb-false, leb-true, leb-false, lt-ltb, and_from, and_parts, not-true}
use Rattle.std.proofs.lemmas.List.{length-append, length-replicate, replicate-append-replicate, take-replicate, take-append-le, get_or-replicate, get_or_append_left, get_or-append_right, length-take, get_or-take}
use Rattle.std.proofs.Math.Seq.{take-append-add}
use Rattle.std.specs.Prelude.{slice_get}
use Rattle.std.specs.List.{AllWithin}
use Rattle.std.specs.List.Sorted.{IsNonDecreasingBy, IsPartitionPoint}
use Rattle.machine.specs.declared.row_run.RowRun.{RowRun}
use Rattle.machine.specs.Rows.{expanded, IsGapless}
use Rattle.machine.proofs.Runs.{end_at, begins_past, expanded-snoc}
use Rattle.stimulus.specs.Rows.{are_same, names_set, names_set_behind}
use Rattle.stimulus.specs.Runs.{differs, are_runs, are_runs_behind, names_in, ends_with, with_end}
use Rattle.stimulus.specs.SameRows.{same_is, same_itself}

abbrev Row : Type 0
Row = List (ℕ × ℕ)

-- ---- one run and the rest

-- what is known of the first run, and of those behind it
pub record First (a : ℕ) (last : Option Row) (r : RowRun Row) (rs : List (RowRun Row)) : Type 0 where
  pub start : r.start ≡ a
  pub some : r.start < r.end
  pub differs : differs last r.row.value ≡ true
  pub behind : are_runs_behind r.end (Some r.row.value) rs ≡ true

pub first_of : (a : ℕ) (last : Option Row) (r : RowRun Row) (rs : List (RowRun Row)) → are_runs_behind a last (r ∷ rs) ≡ true → First a last r rs
first_of a last r rs h =
    let parts = and_parts ((r.start == a) && (nat_lt r.start r.end && differs last r.row.value)) (are_runs_behind r.end (Some r.row.value) rs) h in
    let here = and_parts (r.start == a) (nat_lt r.start r.end && differs last r.row.value) parts.0 in
    let there = and_parts (nat_lt r.start r.end) (differs last r.row.value) here.1 in
    record { start = eqb-true r.start a here.0; some = ltb-true r.start r.end there.0; differs = there.1; behind = parts.1 }

pub first_is : (a : ℕ) (last : Option Row) (r : RowRun Row) (rs : List (RowRun Row)) → First a last r rs → are_runs_behind a last (r ∷ rs) ≡ true
first_is a last r rs f =
    and_from ((r.start == a) && (nat_lt r.start r.end && differs last r.row.value)) (are_runs_behind r.end (Some r.row.value) rs)
    (and_from (r.start == a) (nat_lt r.start r.end && differs last r.row.value) (eq-eqb r.start a f.start)
    (and_from (nat_lt r.start r.end) (differs last r.row.value) (lt-ltb r.start r.end f.some) f.differs)) f.behind

-- the rows of a run and of those behind it
pub first_length : (r : RowRun Row) (rs : List (RowRun Row)) → length (expanded (r ∷ rs)) ≡ (r.end - r.start) + length (expanded rs)
first_length r rs =
    length-append (replicate (r.end - r.start) r.row.value) (expanded rs)
    ∙ ap (λ n. n + length (expanded rs)) (length-replicate (r.end - r.start) r.row.value)

pub gapless_of : (a : ℕ) (last : Option Row) (rs : List (RowRun Row)) → are_runs_behind a last rs ≡ true → IsGapless a rs (a + length (expanded rs))
gapless_of a last [] h = omega arith
gapless_of a last (r ∷ rs) h =
    let f = first_of a last r rs h in
    let count : r.end + length (expanded rs) ≡ a + length (expanded (r ∷ rs)) = omega (arith, first_length r rs, f.start, f.some) in
    (f.start, omega (arith, f.some), subst (λ n. IsGapless r.end rs n) count (gapless_of r.end (Some r.row.value) rs f.behind))

pub taken_runs : (a : ℕ) (last : Option Row) (rs : List (RowRun Row)) (n : ℕ) → are_runs_behind a last rs ≡ true → are_runs_behind a last (take n rs) ≡ true
taken_runs a last rs zero h = refl
taken_runs a last [] (suc n) h = refl
taken_runs a last (r ∷ rs) (suc n) h =
    let f = first_of a last r rs h in
    first_is a last r (take n rs) (record {
      start = f.start;
      some = f.some;
      differs = f.differs;
      behind = taken_runs r.end (Some r.row.value) rs n f.behind;
    })

-- ---- the last run

abbrev last_row : Option Row → List Row → Option Row
last_row last [] = last
last_row last (x ∷ xs) = last_row (Some x) xs

abbrev pub run_last : Option Row → List (RowRun Row) → Option Row
run_last last [] = last
run_last last (r ∷ rs) = run_last (Some r.row.value) rs

-- another row than the last one
pub differs_last : (rs : List (RowRun Row)) (row : Row) → differs (run_last None rs) row ≡ not (ends_with rs row)
differs_last [] row = refl
differs_last (r ∷ []) row = refl
differs_last (r ∷ s ∷ rs) row = differs_last (s ∷ rs) row

pub last_same : (rs : List (RowRun Row)) (row : Row) → ends_with rs row ≡ true → run_last None rs ≡ Some row
last_same [] row h = absurd (true≢false (sym h))
last_same (r ∷ []) row h = ap (λ (x : Row). Some x) ((same_is r.row.value row).0 h)
last_same (r ∷ s ∷ rs) row h = last_same (s ∷ rs) row h

last_many : (last : Option Row) (n : ℕ) (row : Row) (rest : List Row) → 0 < n → last_row last (replicate n row ++ rest) ≡ last_row (Some row) rest
last_many last zero row rest h = absurd (omega (arith, h))
last_many last (suc zero) row rest h = refl
last_many last (suc (suc n)) row rest h = last_many (Some row) (suc n) row rest (omega arith)

last_of_runs : (a : ℕ) (last : Option Row) (rs : List (RowRun Row)) → are_runs_behind a last rs ≡ true → last_row last (expanded rs) ≡ run_last last rs
last_of_runs a last [] h = refl
last_of_runs a last (r ∷ rs) h =
    let f = first_of a last r rs h in
    last_many last (r.end - r.start) r.row.value (expanded rs) (omega (arith, f.some))
    ∙ last_of_runs r.end (Some r.row.value) rs f.behind

-- the end of the last one
pub last_end : (rs : List (RowRun Row)) (i : ℕ) (g : RowRun Row) → are_runs rs ≡ true → i + 1 ≡ length rs → g ≡ get_or rs i g → g.end ≡ length (expanded rs)
last_end rs i g h last is =
    let gapless = gapless_of 0 None rs h in
    let b = 0 + length (expanded rs) in
    end_at 0 rs b i g gapless (omega (arith, last)) is ∙ begins_past 0 rs b (suc i) gapless (omega (arith, last)) ∙ zero-add (length (expanded rs))

pub no_runs : (rs : List (RowRun Row)) → length rs ≡ 0 → expanded rs ≡ []
no_runs [] h = refl
no_runs (r ∷ rs) h = absurd (omega (arith, h))

-- ---- names that are set

names_more : (last : Option Row) (xs ys : List Row)
    → names_set_behind are_same length last (xs ++ ys)
    ≡ names_set_behind are_same length last xs + names_set_behind are_same length (last_row last xs) ys
names_more last [] ys = sym (zero-add (names_set_behind are_same length last ys))
names_more None (x ∷ xs) ys = omega (arith, names_more (Some x) xs ys)
names_more (Some l) (x ∷ xs) ys = omega (arith, names_more (Some x) xs ys)

names_same : (row : Row) (n : ℕ) → names_set_behind are_same length (Some row) (replicate n row) ≡ 0
names_same row zero = refl
names_same row (suc n) =
    ap (λ t. cond t 0 (length row) + names_set_behind are_same length (Some row) (replicate n row)) (same_itself row)
    ∙ zero-add (names_set_behind are_same length (Some row) (replicate n row)) ∙ names_same row n

names_new : (last : Option Row) (row : Row) (n : ℕ) → differs last row ≡ true → 0 < n → names_set_behind are_same length last (replicate n row) ≡ length row
names_new last row zero h some = absurd (omega (arith, some))
names_new None row (suc n) h some = omega (arith, names_same row n)
names_new (Some l) row (suc n) h some =
    ap (λ t. cond t 0 (length row) + names_set_behind are_same length (Some row) (replicate n row)) (not-true (are_same l row) h)
    ∙ omega (arith, names_same row n)

-- those of runs are counted once for each run
names_of_runs : (a : ℕ) (last : Option Row) (rs : List (RowRun Row)) → are_runs_behind a last rs ≡ true → names_set_behind are_same length last (expanded rs) ≡ names_in rs
names_of_runs a last [] h = refl
names_of_runs a last (r ∷ rs) h =
    let f = first_of a last r rs h in
    let n = r.end - r.start in
    let many : 0 < n = omega (arith, f.some) in
    let after : last_row last (replicate n r.row.value) ≡ Some r.row.value =
    ap (last_row last) (sym (append-nil (replicate n r.row.value))) ∙ last_many last n r.row.value [] many in
    names_more last (replicate n r.row.value) (expanded rs)
    ∙ ap₂ (λ (p q : ℕ). p + q) (names_new last r.row.value n f.differs many)
    (ap (λ l. names_set_behind are_same length l (expanded rs)) after ∙ names_of_runs r.end (Some r.row.value) rs f.behind)

pub names_are : (rs : List (RowRun Row)) → are_runs rs ≡ true → names_set are_same length (expanded rs) ≡ names_in rs
names_are rs h = names_of_runs 0 None rs h

-- where the rows behind are the same as the last ones, no name is counted anew
pub names_joined : (rs : List (RowRun Row)) (row : Row) (n : ℕ) → are_runs rs ≡ true → ends_with rs row ≡ true
    → names_set are_same length (expanded rs ++ replicate n row) ≡ names_set are_same length (expanded rs)
names_joined rs row n h ends =
    let last : last_row None (expanded rs) ≡ Some row = last_of_runs 0 None rs h ∙ last_same rs row ends in
    let none : names_set_behind are_same length (last_row None (expanded rs)) (replicate n row) ≡ 0 =
    ap (λ l. names_set_behind are_same length l (replicate n row)) last ∙ names_same row n in
    omega (arith, names_more None (expanded rs) (replicate n row), none)

-- else those of the row are
pub names_added : (rs : List (RowRun Row)) (row : Row) (n : ℕ) → are_runs rs ≡ true → ends_with rs row ≡ false → 1 ≤ n
    → names_set are_same length (expanded rs ++ replicate n row) ≡ names_set are_same length (expanded rs) + length row
names_added rs row n h ends some =
    let other : differs (last_row None (expanded rs)) row ≡ true =
    ap (λ l. differs l row) (last_of_runs 0 None rs h) ∙ differs_last rs row ∙ ap not ends in
    names_more None (expanded rs) (replicate n row)
    ∙ ap (λ k. names_set are_same length (expanded rs) + k) (names_new (last_row None (expanded rs)) row n other (omega (arith, some)))

pub names_split : (rs : List (RowRun Row)) (n : ℕ) → names_in rs ≡ names_in (take n rs) + names_in (drop n rs)
names_split rs zero = sym (zero-add (names_in rs))
names_split [] (suc n) = refl
names_split (r ∷ rs) (suc n) = omega (arith, names_split rs n)

-- ---- runs that end elsewhere

-- each of them begins before a cycle
abbrev pub BeginBefore : ℕ → List (RowRun Row) → Type 0
BeginBefore cycle rs = (i : ℕ) (d : RowRun Row) → i < length rs → (get_or rs i d).start < cycle

later_begin : (cycle : ℕ) (r : RowRun Row) (rs : List (RowRun Row)) → BeginBefore cycle (r ∷ rs) → BeginBefore cycle rs
later_begin cycle r rs h i d lt = h (suc i) d (omega (arith, lt))

pub ended_runs : (a : ℕ) (last : Option Row) (rs : List (RowRun Row)) (cycle : ℕ) → are_runs_behind a last rs ≡ true → BeginBefore cycle rs
    → are_runs_behind a last (with_end rs cycle) ≡ true
ended_runs a last [] cycle h before = refl
ended_runs a last (r ∷ []) cycle h before =
    let f = first_of a last r [] h in
    first_is a last (record { start = r.start; end = cycle; row = r.row }) []
    (record { start = f.start; some = before 0 r (omega arith); differs = f.differs; behind = refl })
ended_runs a last (r ∷ s ∷ rs) cycle h before =
    let f = first_of a last r (s ∷ rs) h in
    first_is a last r (with_end (s ∷ rs) cycle)
    (record {
      start = f.start;
      some = f.some;
      differs = f.differs;
      behind = ended_runs r.end (Some r.row.value) (s ∷ rs) cycle f.behind (later_begin cycle r (s ∷ rs) before);
    })

pub ended_names : (rs : List (RowRun Row)) (cycle : ℕ) → names_in (with_end rs cycle) ≡ names_in rs
ended_names [] cycle = refl
ended_names (r ∷ []) cycle = refl
ended_names (r ∷ s ∷ rs) cycle = ap (λ n. length r.row.value + n) (ended_names (s ∷ rs) cycle)

-- all begin before the last one ends
pub begun_before : (a : ℕ) (last : Option Row) (rs : List (RowRun Row)) → are_runs_behind a last rs ≡ true → BeginBefore (a + length (expanded rs)) rs
begun_before a last [] h i d lt = absurd (omega (arith, lt))
begun_before a last (r ∷ rs) h zero d lt = let f = first_of a last r rs h in omega (arith, f.start, f.some, first_length r rs)
begun_before a last (r ∷ rs) h (suc i) d lt =
    let f = first_of a last r rs h in
    omega (arith, f.start, f.some, first_length r rs, begun_before r.end (Some r.row.value) rs f.behind i d (omega (arith, lt)))

-- the last run lengthened
pub joined_rows : (a : ℕ) (last : Option Row) (rs : List (RowRun Row)) (row : Row) (n cycle : ℕ) → are_runs_behind a last rs ≡ true → ends_with rs row ≡ true
    → cycle ≡ a + length (expanded rs) + n → expanded (with_end rs cycle) ≡ expanded rs ++ replicate n row
joined_rows a last [] row n cycle h ends e = absurd (true≢false (sym ends))
joined_rows a last (r ∷ []) row n cycle h ends e =
    let f = first_of a last r [] h in
    let m = r.end - r.start in
    let v = r.row.value in
    let same : v ≡ row = (same_is v row).0 ends in
    let count : cycle - r.start ≡ m + n = omega (arith, e, f.start, f.some, first_length r []) in
    append-nil (replicate (cycle - r.start) v)
    ∙ ap (λ k. replicate k v) count
    ∙ sym (replicate-append-replicate m n v)
    ∙ ap₂ (λ (xs : List Row) (x : Row). xs ++ replicate n x) (sym (append-nil (replicate m v))) same
joined_rows a last (r ∷ s ∷ rs) row n cycle h ends e =
    let f = first_of a last r (s ∷ rs) h in
    let m = r.end - r.start in
    let rest = joined_rows r.end (Some r.row.value) (s ∷ rs) row n cycle f.behind ends (omega (arith, e, f.start, f.some, first_length r (s ∷ rs))) in
    ap (λ (xs : List Row). replicate m r.row.value ++ xs) rest
    ∙ sym (append_assoc (replicate m r.row.value) (expanded (s ∷ rs)) (replicate n row))

-- one run more
pub added_runs : (a : ℕ) (last : Option Row) (rs : List (RowRun Row)) (r : RowRun Row) → are_runs_behind a last rs ≡ true → r.start ≡ a + length (expanded rs) → r.start < r.end
    → differs (run_last last rs) r.row.value ≡ true → are_runs_behind a last (rs ++ r ∷ []) ≡ true
added_runs a last [] r h start some other = first_is a last r [] (record { start = omega (arith, start); some = some; differs = other; behind = refl })
added_runs a last (x ∷ xs) r h start some other =
    let f = first_of a last x xs h in
    first_is a last x (xs ++ r ∷ [])
    (record {
      start = f.start;
      some = f.some;
      differs = f.differs;
      behind = added_runs x.end (Some x.row.value) xs r f.behind (omega (arith, start, f.start, f.some, first_length x xs)) some other;
    })

-- ---- a cycle among runs

-- the runs before a place begin before a cycle, and those from there on don't
pub record IsCutAt (rs : List (RowRun Row)) (cycle place : ℕ) : Type 0 where
  pub before : AllWithin (λ r. r.start < cycle) rs 0 place
  pub after : AllWithin (λ r. cycle ≤ r.start) rs place (length rs)

-- the first run ends no earlier where those behind it begin no earlier
first_ends : (a : ℕ) (last : Option Row) (r : RowRun Row) (rs : List (RowRun Row)) (cycle : ℕ) → are_runs_behind a last (r ∷ rs) ≡ true → IsCutAt (r ∷ rs) cycle 1
    → cycle ≤ a + length (expanded (r ∷ rs)) → cycle ≤ r.end
first_ends a last r [] cycle h cut within = let f = first_of a last r [] h in omega (arith, f.start, f.some, within, first_length r [])
first_ends a last r (s ∷ rs) cycle h cut within =
    let f = first_of a last r (s ∷ rs) h in
    let g = first_of r.end (Some r.row.value) s rs f.behind in
    omega (arith, g.start, cut.after 1 s (omega arith) (omega arith))

later_cut : (r : RowRun Row) (rs : List (RowRun Row)) (cycle place : ℕ) → IsCutAt (r ∷ rs) cycle (suc place) → IsCutAt rs cycle place
later_cut r rs cycle place cut = record {
  before = λ i d le lt. cut.before (suc i) d (omega arith) (omega (arith, lt));
  after = λ i d le lt. cut.after (suc i) d (omega (arith, le)) (omega (arith, lt));
}

nothing_taken : (rows : List Row) (n : ℕ) → n ≡ 0 → [] ≡ take n rows
nothing_taken rows n none = ap (λ k. take k rows) (sym none)

-- the first run alone, where the cycle is one of its own
cut_first : (a : ℕ) (last : Option Row) (r : RowRun Row) (rs : List (RowRun Row)) (cycle : ℕ) → are_runs_behind a last (r ∷ rs) ≡ true → cycle ≤ r.end
    → expanded (with_end (r ∷ []) cycle) ≡ take (cycle - a) (expanded (r ∷ rs))
cut_first a last r rs cycle h few =
    let f = first_of a last r rs h in
    let n = r.end - r.start in
    let v = r.row.value in
    let many : length (replicate n v) ≡ n = length-replicate n v in
    let count : cycle - r.start ≡ cycle - a = omega (arith, f.start) in
    append-nil (replicate (cycle - r.start) v)
    ∙ ap (λ k. replicate k v) count
    ∙ sym (take-replicate (cycle - a) n v (omega (arith, few, f.start)))
    ∙ sym (take-append-le (cycle - a) (replicate n v) (expanded rs) (omega (arith, few, f.start, many)))

-- what is left of the rows up to a cycle
pub cut_rows : (a : ℕ) (last : Option Row) (rs : List (RowRun Row)) (cycle place : ℕ) → are_runs_behind a last rs ≡ true → IsCutAt rs cycle place → a ≤ cycle
    → cycle ≤ a + length (expanded rs) → expanded (with_end (take place rs) cycle) ≡ take (cycle - a) (expanded rs)
cut_rows a last [] cycle zero h cut from within = let none : cycle - a ≡ 0 = omega (arith, from, within) in nothing_taken [] (cycle - a) none
cut_rows a last [] cycle (suc place) h cut from within = let none : cycle - a ≡ 0 = omega (arith, from, within) in nothing_taken [] (cycle - a) none
cut_rows a last (r ∷ rs) cycle zero h cut from within =
    let f = first_of a last r rs h in
    let none : cycle - a ≡ 0 = omega (arith, f.start, cut.after 0 r (omega arith) (omega arith)) in
    ap (λ n. take n (expanded (r ∷ rs))) (sym none)
cut_rows a last (r ∷ rs) cycle (suc zero) h cut from within = cut_first a last r rs cycle h (first_ends a last r rs cycle h cut within)
cut_rows a last (r ∷ []) cycle (suc (suc place)) h cut from within =
    let f = first_of a last r [] h in
    cut_first a last r [] cycle h (omega (arith, within, f.start, f.some, first_length r []))
cut_rows a last (r ∷ s ∷ rs) cycle (suc (suc place)) h cut from within =
    let f = first_of a last r (s ∷ rs) h in
    let g = first_of r.end (Some r.row.value) s rs f.behind in
    let n = r.end - r.start in
    let v = r.row.value in
    let many : length (replicate n v) ≡ n = length-replicate n v in
    let past : r.end < cycle = omega (arith, g.start, cut.before 1 s (omega arith) (omega arith)) in
    let count : length (replicate n v) + (cycle - r.end) ≡ cycle - a = omega (arith, many, f.start, f.some, past) in
    ap (λ (xs : List Row). replicate n v ++ xs)
    (cut_rows r.end (Some v) (s ∷ rs) cycle (suc place) f.behind (later_cut r (s ∷ rs) cycle (suc place) cut) (omega (arith, past))
    (omega (arith, within, f.start, f.some, first_length r (s ∷ rs))))
    ∙ sym (take-append-add (replicate n v) (expanded (s ∷ rs)) (cycle - r.end))
    ∙ ap (λ k. take k (expanded (r ∷ s ∷ rs))) count

-- the runs before a place end before a cycle is over, and those from there on don't
pub record IsFoundAt (rs : List (RowRun Row)) (cycle place : ℕ) : Type 0 where
  pub before : AllWithin (λ r. r.end ≤ cycle) rs 0 place
  pub after : AllWithin (λ r. cycle < r.end) rs place (length rs)

later_found : (r : RowRun Row) (rs : List (RowRun Row)) (cycle place : ℕ) → IsFoundAt (r ∷ rs) cycle (suc place) → IsFoundAt rs cycle place
later_found r rs cycle place found = record {
  before = λ i d le lt. found.before (suc i) d (omega arith) (omega (arith, lt));
  after = λ i d le lt. found.after (suc i) d (omega (arith, le)) (omega (arith, lt));
}

-- the run at the place has the row of the cycle
pub row_found : (a : ℕ) (last : Option Row) (rs : List (RowRun Row)) (cycle place : ℕ) → are_runs_behind a last rs ≡ true → IsFoundAt rs cycle place → a ≤ cycle
    → cycle < a + length (expanded rs)
    → (place < length rs) × ((g : RowRun Row) → get_or (expanded rs) (cycle - a) [] ≡ (get_or rs place g).row.value)
row_found a last [] cycle place h found from within = absurd (omega (arith, from, within))
row_found a last (r ∷ rs) cycle zero h found from within =
    let f = first_of a last r rs h in
    let n = r.end - r.start in
    let v = r.row.value in
    let upto : cycle < r.end = found.after 0 r (omega arith) (omega arith) in
    let many : length (replicate n v) ≡ n = length-replicate n v in
    (omega arith, λ g. get_or_append_left (replicate n v) (expanded rs) [] (cycle - a) (omega (arith, many, upto, f.start, from)) ∙ get_or-replicate n (cycle - a) v [] (omega (arith, upto, f.start, from)))
row_found a last (r ∷ rs) cycle (suc place) h found from within =
    let f = first_of a last r rs h in
    let n = r.end - r.start in
    let v = r.row.value in
    let past : r.end ≤ cycle = found.before 0 r (omega arith) (omega arith) in
    let rest = row_found r.end (Some v) rs cycle place f.behind (later_found r rs cycle place found) past (omega (arith, within, f.start, f.some, first_length r rs)) in
    let count : (cycle - a) - n ≡ cycle - r.end = omega (arith, f.start, f.some, past) in (
      omega (arith, rest.0),
      λ g.
          get_or-append_right (replicate n v) (expanded rs) n (cycle - a) [] (length-replicate n v) (omega (arith, f.start, f.some, past))
          ∙ ap (λ k. get_or (expanded rs) k []) count ∙ rest.1 g,
    )

-- ---- runs are in order

ends_after : (a : ℕ) (last : Option Row) (rs : List (RowRun Row)) (i : ℕ) (d : RowRun Row) → are_runs_behind a last rs ≡ true → i < length rs
    → (a ≤ (get_or rs i d).start) × (a < (get_or rs i d).end)
ends_after a last [] i d h lt = absurd (omega (arith, lt))
ends_after a last (r ∷ rs) zero d h lt = let f = first_of a last r rs h in (omega (arith, f.start), omega (arith, f.start, f.some))
ends_after a last (r ∷ rs) (suc i) d h lt =
    let f = first_of a last r rs h in
    let rest = ends_after r.end (Some r.row.value) rs i d f.behind (omega (arith, lt)) in
    (omega (arith, rest.0, f.start, f.some), omega (arith, rest.1, f.start, f.some))

pub ends_rise : (a : ℕ) (last : Option Row) (rs : List (RowRun Row)) → are_runs_behind a last rs ≡ true → IsNonDecreasingBy (λ (r : RowRun Row). r.end) rs
ends_rise a last [] h i j d le lt = absurd (omega (arith, lt))
ends_rise a last (r ∷ rs) h zero zero d le lt = omega arith
ends_rise a last (r ∷ rs) h zero (suc j) d le lt =
    let f = first_of a last r rs h in
    let rest = ends_after r.end (Some r.row.value) rs j d f.behind (omega (arith, lt)) in
    omega (arith, rest.1)
ends_rise a last (r ∷ rs) h (suc i) zero d le lt = absurd (omega (arith, le))
ends_rise a last (r ∷ rs) h (suc i) (suc j) d le lt =
    let f = first_of a last r rs h in
    ends_rise r.end (Some r.row.value) rs f.behind i j d (omega (arith, le)) (omega (arith, lt))

pub starts_rise : (a : ℕ) (last : Option Row) (rs : List (RowRun Row)) → are_runs_behind a last rs ≡ true → IsNonDecreasingBy (λ (r : RowRun Row). r.start) rs
starts_rise a last [] h i j d le lt = absurd (omega (arith, lt))
starts_rise a last (r ∷ rs) h zero zero d le lt = omega arith
starts_rise a last (r ∷ rs) h zero (suc j) d le lt =
    let f = first_of a last r rs h in
    let rest = ends_after r.end (Some r.row.value) rs j d f.behind (omega (arith, lt)) in
    omega (arith, rest.0, f.some)
starts_rise a last (r ∷ rs) h (suc i) zero d le lt = absurd (omega (arith, le))
starts_rise a last (r ∷ rs) h (suc i) (suc j) d le lt =
    let f = first_of a last r rs h in
    starts_rise r.end (Some r.row.value) rs f.behind i j d (omega (arith, le)) (omega (arith, lt))

-- ---- runs that are read and written

-- the last one, written with another end
pub set_last : (rs : List (RowRun Row)) (i : ℕ) (g : RowRun Row) (cycle : ℕ) → i + 1 ≡ length rs → g ≡ get_or rs i g
    → set rs i (record { start = g.start; end = cycle; row = g.row }) ≡ with_end rs cycle
set_last [] i g cycle last is = absurd (omega (arith, last))
set_last (r ∷ []) zero g cycle last is = ap (λ (x : RowRun Row). record { start = x.start; end = cycle; row = x.row } ∷ []) is
set_last (r ∷ []) (suc i) g cycle last is = absurd (omega (arith, last))
set_last (r ∷ s ∷ rs) zero g cycle last is = absurd (omega (arith, last))
set_last (r ∷ s ∷ rs) (suc i) g cycle last is = ap (λ (xs : List (RowRun Row)). r ∷ xs) (set_last (s ∷ rs) i g cycle (omega (arith, last)) is)

-- where a search by halving ends
pub found_by : (rs : List (RowRun Row)) (cycle place : ℕ) → IsPartitionPoint (λ (r : RowRun Row). leb r.end cycle ≡ true) (λ (r : RowRun Row). leb r.end cycle ≡ false) rs place
    → IsFoundAt rs cycle place
found_by rs cycle place h = record {
  before = λ k d le lt. leb-true (get_or rs k d).end cycle (h.0 k d le lt);
  after = λ k d le lt. leb-false (get_or rs k d).end cycle (h.1 k d le lt);
}

pub cut_by : (rs : List (RowRun Row)) (cycle place : ℕ) → IsPartitionPoint (λ (r : RowRun Row). nat_lt r.start cycle ≡ true) (λ (r : RowRun Row). nat_lt r.start cycle ≡ false) rs place
    → IsCutAt rs cycle place
cut_by rs cycle place h = record {
  before = λ k d le lt. ltb-true (get_or rs k d).start cycle (h.0 k d le lt);
  after = λ k d le lt. ltb-false (get_or rs k d).start cycle (h.1 k d le lt);
}

got_at : (rs : List (RowRun Row)) (i : ℕ) (g : RowRun Row) → slice_get rs i ≡ Some g → (i < length rs) × (g ≡ get_or rs i g)
got_at [] i g e = cc
got_at (r ∷ rs) zero g e = let same : g ≡ r = cc in (omega arith, same)
got_at (r ∷ rs) (suc i) g e = let rest = got_at rs i g e in (omega (arith, rest.0), rest.1)

pub last_got : (rs : List (RowRun Row)) (g : RowRun Row) → are_runs rs ≡ true → slice_get rs (length rs - 1) ≡ Some g → g.end ≡ length (expanded rs)
last_got rs g h e =
    let at = got_at rs (length rs - 1) g e in
    last_end rs (length rs - 1) g h (omega (arith, at.0)) at.1

-- what the last one has
pub ends_last : (rs : List (RowRun Row)) (i : ℕ) (g : RowRun Row) (row : Row) → i + 1 ≡ length rs → g ≡ get_or rs i g → ends_with rs row ≡ are_same g.row.value row
ends_last [] i g row last is = absurd (omega (arith, last))
ends_last (r ∷ []) zero g row last is = ap (λ (x : RowRun Row). are_same x.row.value row) (sym is)
ends_last (r ∷ []) (suc i) g row last is = absurd (omega (arith, last))
ends_last (r ∷ s ∷ rs) zero g row last is = absurd (omega (arith, last))
ends_last (r ∷ s ∷ rs) (suc i) g row last is = ends_last (s ∷ rs) i g row (omega (arith, last)) is

pub last_ends : (rs : List (RowRun Row)) (g : RowRun Row) (row : Row) → slice_get rs (length rs - 1) ≡ Some g → ends_with rs row ≡ are_same g.row.value row
last_ends rs g row e =
    let at = got_at rs (length rs - 1) g e in
    ends_last rs (length rs - 1) g row (omega (arith, at.0)) at.1

-- ---- a record that is changed

-- the runs `new` come of the runs `old` with rows behind them, for which so many names count anew
pub record Appended (old new : List (RowRun Row)) (row : Row) (n more : ℕ) : Type 0 where
  pub in_runs : are_runs new ≡ true
  pub rows : expanded new ≡ expanded old ++ replicate n row
  pub names : names_set are_same length (expanded new) ≡ names_set are_same length (expanded old) + more

pub joined_whole : (old new : List (RowRun Row)) (row : Row) (n cycle : ℕ) → are_runs old ≡ true → ends_with old row ≡ true → 1 ≤ n → cycle ≡ length (expanded old) + n
    → new ≡ with_end old cycle → Appended old new row n 0
joined_whole old new row n cycle h ends some e is =
    let rows : expanded new ≡ expanded old ++ replicate n row =
    ap (λ (rs : List (RowRun Row)). expanded rs) is ∙ joined_rows 0 None old row n cycle h ends (omega (arith, e)) in
    record {
      in_runs = ap are_runs is ∙ ended_runs 0 None old cycle h (λ i d lt. omega (arith, e, some, begun_before 0 None old h i d lt));
      rows = rows;
      names = ap (names_set are_same length) rows ∙ names_joined old row n h ends ∙ omega arith;
    }

pub added_whole : (old new : List (RowRun Row)) (r : RowRun Row) (row : Row) (n : ℕ) → are_runs old ≡ true → ends_with old row ≡ false → 1 ≤ n
    → r.start ≡ length (expanded old) → r.end ≡ r.start + n → r.row.value ≡ row → new ≡ old ++ r ∷ [] → Appended old new row n (length row)
added_whole old new r row n h ends some start end value is =
    let other : differs (run_last None old) r.row.value ≡ true =
    ap (differs (run_last None old)) value ∙ differs_last old row ∙ ap not ends in
    let count : r.end - r.start ≡ n = omega (arith, end) in
    let rows : expanded new ≡ expanded old ++ replicate n row =
    ap (λ (rs : List (RowRun Row)). expanded rs) is ∙ expanded-snoc old r
    ∙ ap₂ (λ (k : ℕ) (x : Row). expanded old ++ replicate k x) count value in
    record {
      in_runs = ap are_runs is ∙ added_runs 0 None old r h (omega (arith, start)) (omega (arith, end, some)) other;
      rows = rows;
      names = ap (names_set are_same length) rows ∙ names_added old row n h ends some;
    }

-- the runs `new` have the first rows of the runs `old`, and those from a place on are gone
pub record IsCut (old new : List (RowRun Row)) (cycle place : ℕ) : Type 0 where
  pub in_runs : are_runs new ≡ true
  pub rows : expanded new ≡ take cycle (expanded old)
  pub names : names_set are_same length (expanded new) + names_in (drop place old) ≡ names_set are_same length (expanded old)

pub cut_whole : (old new : List (RowRun Row)) (cycle place : ℕ) → are_runs old ≡ true → IsCutAt old cycle place → cycle ≤ length (expanded old)
    → new ≡ with_end (take place old) cycle → IsCut old new cycle place
cut_whole old new cycle place h cut within is =
    let before : BeginBefore cycle (take place old) = λ i d lt.
    let few : length (take place old) ≤ place = omega (arith, length-take place old) in
    let there : i < place = omega (arith, few, lt) in
    let read : get_or (take place old) i d ≡ get_or old i d = get_or-take place old i d there in
    omega (arith, ap (λ (r : RowRun Row). r.start) read, cut.before i d (omega arith) there) in
    let runs : are_runs (with_end (take place old) cycle) ≡ true = ended_runs 0 None (take place old) cycle (taken_runs 0 None old place h) before in
    let now : are_runs new ≡ true = ap are_runs is ∙ runs in
    let count : cycle - 0 ≡ cycle = omega arith in
    let left : names_in new ≡ names_in (take place old) = ap names_in is ∙ ended_names (take place old) cycle in
    record {
      in_runs = now;
      rows = ap (λ (rs : List (RowRun Row)). expanded rs) is ∙ cut_rows 0 None old cycle place h cut (omega arith) (omega (arith, within)) ∙ ap (λ k. take k (expanded old)) count;
      names = omega (arith, names_are new now, left, names_are old h, names_split old place);
    }
