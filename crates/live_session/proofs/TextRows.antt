-- Rows by the numbers of names are rows by their texts: what is put, looked up, compared and counted is the same.
use Rattle.std.proofs.Common.{◌≡◌, ◌∙◌, ℕ, suc, ◌+◌, ◌<◌, Bool, true, false, eqb, ltb, cond, List, [], ◌∷◌, map, length, All, refl, sym, ap, ap₂, eqb-true}
use Rattle.std.specs.Prelude.{Option, Some, None}
use Rattle.std.specs.Option.{unwrap_or}
use Rattle.std.proofs.lemmas.Bool.Decides.{same_from_decides, Decides-like}
use Rattle.std.proofs.lemmas.List.Elements.{All-head, All-tail}
use Rattle.ls_text.specs.Texts.{HasEachOnce, text_at}
use Rattle.ls_text.proofs.Tables.{one_text}
use Rattle.stimulus.specs.Rows.{AreAscending, names_set, names_set_behind, value_in, are_same as same_numbers, with_value as put_number}
use Rattle.stimulus.specs.SameRows.{same_is}
use Rattle.live_session.specs.Rows.{Row, value_of, with_value, are_same, row_of}
use Rattle.live_session.proofs.AscendingRows.{AreWithin, ascends_above, ascends_on, found_in, found_number, none_above, one_row}
use Rattle.live_session.proofs.PutValues.{commutes, count_put, decides_texts, found_of, found_put, found_value, overwrites}

-- the names of these rows are among so many, and ascend
pub record AreRows (count : ℕ) (rows : List (List (ℕ × ℕ))) : Type 0 where
  pub within : All (AreWithin count) rows
  pub ascend : All AreAscending rows

rows_on : (count : ℕ) (x : List (ℕ × ℕ)) (xs : List (List (ℕ × ℕ))) → AreRows count (x ∷ xs) → AreRows count xs
rows_on count x xs h = record {
  within = All-tail (AreWithin count) x xs h.within;
  ascend = All-tail AreAscending x xs h.ascend;
}

rows_first : (count : ℕ) (x : List (ℕ × ℕ)) (xs : List (List (ℕ × ℕ))) → AreRows count (x ∷ xs) → AreWithin count x × AreAscending x
rows_first count x xs h = (All-head (AreWithin count) x xs h.within, All-head AreAscending x xs h.ascend)

module _ (names : List (List ℕ)) (once : HasEachOnce names) where
  pub row_put : (row : List (ℕ × ℕ)) (id value : ℕ) → All (λ (p : ℕ × ℕ). p.0 < length names) row → id < length names
      → row_of names (put_number row id value) ≡ with_value (row_of names row) (text_at names id) value
  row_put [] id value within lt = refl
  row_put (x ∷ xs) id value within lt =
      by (eqb x.0 id) refl (ltb id x.0) (row_put xs id value (All-tail (λ (p : ℕ × ℕ). p.0 < length names) x xs within) lt)
    where
      here : x.0 < length names
      here = All-head (λ (p : ℕ × ℕ). p.0 < length names) x xs within

      by : (same : Bool) → eqb x.0 id ≡ same → (before : Bool)
          → row_of names (put_number xs id value) ≡ with_value (row_of names xs) (text_at names id) value
          → row_of names (cond same ((id, value) ∷ xs) (cond before ((id, value) ∷ x ∷ xs) (x ∷ put_number xs id value)))
          ≡ with_value (with_value (row_of names xs) (text_at names x.0) x.1) (text_at names id) value
      by true is before rest =
          sym (overwrites (row_of names xs) (text_at names id) x.1 value)
          ∙ ap (λ n. with_value (with_value (row_of names xs) (text_at names n) x.1) (text_at names id) value) (sym (eqb-true x.0 id is))
      by false is true rest = refl
      by false is false rest =
          ap (λ (r : Row). with_value r (text_at names x.0) x.1) rest
          ∙ sym (commutes (row_of names xs) (text_at names x.0) (text_at names id) x.1 value (one_text names once x.0 id here lt ∙ is))

  found_row : (row : List (ℕ × ℕ)) (id : ℕ) → AreWithin (length names) row → id < length names
      → found_of (row_of names row) (text_at names id) ≡ found_in row id
  found_row [] id within lt = refl
  found_row (x ∷ xs) id within lt =
      found_put (row_of names xs) (text_at names x.0) (text_at names id) x.1
      ∙ ap₂ (λ b rest. cond b (Some x.1) rest) (one_text names once x.0 id (All-head (λ (p : ℕ × ℕ). p.0 < length names) x xs within) lt)
      (found_row xs id (All-tail (λ (p : ℕ × ℕ). p.0 < length names) x xs within) lt)

  pub row_look : (row : List (ℕ × ℕ)) (id : ℕ) → All (λ (p : ℕ × ℕ). p.0 < length names) row → id < length names
      → value_of (row_of names row) (text_at names id) ≡ value_in row id
  row_look row id within lt =
      found_value (row_of names row) (text_at names id) ∙ ap (λ (o : Option ℕ). unwrap_or o 0) (found_row row id within lt)
      ∙ sym (found_number row id)

  pub row_count : (row : List (ℕ × ℕ)) → All (λ (p : ℕ × ℕ). p.0 < length names) row → AreAscending row
      → length (row_of names row) ≡ length row
  row_count [] within ascends = refl
  row_count (x ∷ xs) within ascends =
      let none : found_of (row_of names xs) (text_at names x.0) ≡ None =
      found_row xs x.0 (All-tail (λ (p : ℕ × ℕ). p.0 < length names) x xs within) (All-head (λ (p : ℕ × ℕ). p.0 < length names) x xs within)
      ∙ none_above x.0 xs (ascends_above x xs ascends) in
      count_put (row_of names xs) (text_at names x.0) x.1 none
      ∙ ap suc (row_count xs (All-tail (λ (p : ℕ × ℕ). p.0 < length names) x xs within) (ascends_on x xs ascends))

  -- rows of one text are one
  row_back : (x y : List (ℕ × ℕ)) → AreWithin (length names) x → AreWithin (length names) y → AreAscending x → AreAscending y
      → row_of names x ≡ row_of names y → x ≡ y
  row_back x y within also ascends too same =
      one_row (length names) x y within also ascends too
      (λ (id : ℕ) (lt : id < length names).
      sym (found_row x id within lt) ∙ ap (λ (r : Row). found_of r (text_at names id)) same ∙ found_row y id also lt)

  pub same_rows : (x y : List (ℕ × ℕ)) → All (λ (p : ℕ × ℕ). p.0 < length names) x → All (λ (p : ℕ × ℕ). p.0 < length names) y
      → AreAscending x → AreAscending y → are_same (row_of names x) (row_of names y) ≡ same_numbers x y
  same_rows x y within also ascends too =
      same_from_decides (are_same (row_of names x) (row_of names y)) (same_numbers x y)
      (decides_texts (row_of names x) (row_of names y))
      (Decides-like (same_numbers x y) (ap (row_of names)) (row_back x y within also ascends too) (same_is x y))

  -- ---- records

  -- the count of a row that stands behind this one
  same_behind : (last : List (ℕ × ℕ)) (rows : List (List (ℕ × ℕ))) → AreRows (length names) (last ∷ rows)
      → names_set_behind are_same length (Some (row_of names last)) (map (row_of names) rows)
      ≡ names_set_behind same_numbers length (Some last) rows
  same_behind last [] h = refl
  same_behind last (row ∷ rows) h =
      let rest : AreRows (length names) (row ∷ rows) = rows_on (length names) last (row ∷ rows) h in
      let first = rows_first (length names) last (row ∷ rows) h in
      let second = rows_first (length names) row rows rest in
      ap₂ ◌+◌
      (ap₂ (λ (b : Bool) (n : ℕ). cond b 0 n) (same_rows last row first.0 second.0 first.1 second.1) (row_count row second.0 second.1))
      (same_behind row rows rest)

  pub same_count : (rows : List (List (ℕ × ℕ))) → AreRows (length names) rows
      → names_set are_same length (map (row_of names) rows) ≡ names_set same_numbers length rows
  same_count [] h = refl
  same_count (row ∷ rows) h =
      ap₂ ◌+◌
      (row_count row (All-head (AreWithin (length names)) row rows h.within) (All-head AreAscending row rows h.ascend))
      (same_behind row rows h)
