-- A run that is refused or recorded, by the names that its rows set and by the room of the session.
use Rattle.std.proofs.Common.{◌≡◌, ◌∙◌, ℕ, zero, suc, ◌+◌, ◌≤◌, ◌||◌, Bool, true, false, not, cond, ltb, List, [], ◌∷◌, ◌++◌, map, take, drop, ◌-◌, length, replicate, Option, Some, None, Result, Ok, Err, refl, sym, ap, ap₂, arith}
use Rattle.std.specs.List.{All}
use Rattle.std.proofs.lemmas.Bool.{le-ltb, lt-ltb, ltb-false, ltb-true, ne_eqb}
use Rattle.std.proofs.lemmas.List.{length-append, length-replicate, length-map, map-append, take_all}
use Rattle.std.proofs.Math.Seq.{drop-append_seam, take-append_seam}
use Rattle.std.proofs.lemmas.List.Elements.{All-append, All-replicate}
use Rattle.machine.specs.Rows.{slice}
use Rattle.ls_text.specs.Texts.{HasEachOnce}
use Rattle.stimulus.specs.Rows.{AreAscending, names_set, are_same as same_numbers}
use Rattle.typed_ir.proofs.Cases.{by_cases}
use Rattle.live_session.specs.Rows.{Row, are_same, row_of}
use Rattle.live_session.specs.Runs.{run_code}
use Rattle.live_session.specs.Settings.{Settings}
use Rattle.live_session.specs.Verdicts.{counted_verdict, ran}
use Rattle.live_session.specs.Worlds.{World, Refused, cycle, refused_at}
use Rattle.live_session.proofs.AscendingRows.{AreWithin}
use Rattle.live_session.proofs.TextRows.{same_count}

-- ---- verdicts

-- a run that is refused with this code, or recorded
abbrev pub verdict_by : Settings → World → (line n : ℕ) → Option ℕ → Result World Refused
verdict_by st w line n None = Ok (ran st w n)
verdict_by st w line n (Some code) = Err (refused_at code line [])

one_more : (a b : ℕ) → ltb b (a + 1) ≡ not (ltb a b)
one_more a b =
    by_cases (ltb a b)
    (λ yes. le-ltb b (a + 1) (omega (arith, ltb-true a b yes)) ∙ ap not (sym yes))
    (λ no. lt-ltb b (a + 1) (omega (arith, ltb-false a b no)) ∙ ap not (sym no))

module _ (st : Settings) (w : World) (line n : ℕ) (some : 1 ≤ n) (few : n ≤ 1000000000) (below : cycle w + n ≤ st.cycles) where
  abbrev names : ℕ
  names = names_set are_same length (w.record_ ++ replicate n w.row)

  abbrev with_room : Bool → Result World Refused
  with_room full = cond full (Err (refused_at 68 line [])) (Ok (ran st w n))

  counted : counted_verdict st w line n ≡ cond (ltb st.stimulus names) (Err (refused_at 69 line [])) (with_room (ltb st.room (w.charge + 1)))
  counted =
      ap₂ (λ (a b : Bool). cond (a || b) (Err (refused_at 64 line [])) (cond (ltb st.cycles (cycle w + n)) (Err (refused_at 65 line []))
      (cond (ltb st.stimulus names) (Err (refused_at 69 line [])) (with_room (ltb st.room (w.charge + 1))))))
      (ne_eqb n 0 (λ none. absurd (omega (arith, some, none)))) (le-ltb 1000000000 n few)
      ∙ ap (λ (t : Bool). cond t (Err (refused_at 65 line []))
      (cond (ltb st.stimulus names) (Err (refused_at 69 line [])) (with_room (ltb st.room (w.charge + 1)))))
      (le-ltb st.cycles (cycle w + n) below)

  pub judged_by_code : (has_room : Bool) → has_room ≡ ltb w.charge st.room
      → counted_verdict st w line n ≡ verdict_by st w line n (run_code st.stimulus names has_room)
  judged_by_code has_room is =
      counted
      ∙ ap (λ (full : Bool). cond (ltb st.stimulus names) (Err (refused_at 69 line [])) (with_room full))
      (one_more w.charge st.room ∙ ap not (sym is))
      ∙ by (ltb st.stimulus names) has_room
    where
      by : (over there : Bool) → cond over (Err (refused_at 69 line [])) (with_room (not there))
          ≡ verdict_by st w line n (cond over (Some 69) (cond there None (Some 68)))
      by true there = refl
      by false true = refl
      by false false = refl

-- ---- rows

pub map_replicate : {A B : Type 0} (f : A → B) (n : ℕ) (x : A) → map f (replicate n x) ≡ replicate n (f x)
map_replicate f zero x = refl
map_replicate f (suc n) x = ap (λ xs. f x ∷ xs) (map_replicate f n x)

pub rows_named : (names : List (List ℕ)) (rows : List (List (ℕ × ℕ))) (row : List (ℕ × ℕ)) (n : ℕ)
    → map (row_of names) (rows ++ replicate n row) ≡ map (row_of names) rows ++ replicate n (row_of names row)
rows_named names rows row n =
    map-append (row_of names) rows (replicate n row) ∙ ap (λ (more : List Row). map (row_of names) rows ++ more) (map_replicate (row_of names) n row)

pub names_counted : (names : List (List ℕ)) → HasEachOnce names → (rows : List (List (ℕ × ℕ))) (row : List (ℕ × ℕ)) (n : ℕ)
    → All (AreWithin (length names)) rows → AreWithin (length names) row → All AreAscending rows → AreAscending row
    → names_set are_same length (map (row_of names) rows ++ replicate n (row_of names row)) ≡ names_set same_numbers length (rows ++ replicate n row)
names_counted names once rows row n within also ascend too =
    ap (names_set are_same length) (sym (rows_named names rows row n))
    ∙ same_count names once (rows ++ replicate n row) (record {
      within = All-append (AreWithin (length names)) rows (replicate n row) within (All-replicate (AreWithin (length names)) n row also);
      ascend = All-append AreAscending rows (replicate n row) ascend (All-replicate AreAscending n row too);
    })

-- rows that are cut off again
pub cut_back : (rows more new behind : List (List (ℕ × ℕ))) (from : ℕ) → from ≡ length rows → new ≡ rows ++ more → behind ≡ take from new
    → behind ≡ rows
cut_back rows more new behind from is appended cut =
    cut ∙ ap₂ (λ (n : ℕ) (xs : List (List (ℕ × ℕ))). take n xs) is appended ∙ take-append_seam rows more

pub length_run : (rows : List (List (ℕ × ℕ))) (row : List (ℕ × ℕ)) (n : ℕ) → length (rows ++ replicate n row) ≡ length rows + n
length_run rows row n = length-append rows (replicate n row) ∙ ap (λ (m : ℕ). length rows + m) (length-replicate n row)

-- the cycle behind a run
pub cycles_behind : (names : List (List ℕ)) (rows : List (List (ℕ × ℕ))) (row : List (ℕ × ℕ)) (n : ℕ)
    → length (map (row_of names) rows ++ replicate n (row_of names row)) ≡ length rows + n
cycles_behind names rows row n =
    length-append (map (row_of names) rows) (replicate n (row_of names row))
    ∙ ap₂ ◌+◌ (length-map rows (row_of names)) (length-replicate n (row_of names row))

-- the rows behind a record are those that were added
pub rows_added : (rows : List (List (ℕ × ℕ))) (row : List (ℕ × ℕ)) (n : ℕ)
    → slice (rows ++ replicate n row) (length rows) (length (rows ++ replicate n row)) ≡ replicate n row
rows_added rows row n =
    let many : length (rows ++ replicate n row) - length rows ≡ n = omega (arith, length_run rows row n) in
    ap (λ (k : ℕ). take k (drop (length rows) (rows ++ replicate n row))) many
    ∙ ap (take n) (drop-append_seam rows (replicate n row))
    ∙ take_all n (replicate n row) (omega (arith, length-replicate n row))
