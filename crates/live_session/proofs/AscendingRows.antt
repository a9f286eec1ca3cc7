-- A row by numbers, which ascend: what it has tells which row it is.
use Rattle.std.proofs.Common.{◌≡◌, ◌∙◌, ℕ, suc, ◌<◌, Bool, true, false, eqb, ltb, cond, List, [], ◌∷◌, length, All, inl, inr, ◌⊎◌, refl, sym, ap, ap₂, subst, arith, eqb-true, eq-eqb}
use Rattle.std.specs.Prelude.{Option, Some, None}
use Rattle.std.specs.Option.{unwrap_or}
use Rattle.std.proofs.lemmas.Bool.{cases_order, ne_eqb}
use Rattle.std.proofs.lemmas.List.Elements.{All-cons, All-head, All-tail, All-from_get_or, All-weaker}
use Rattle.std.proofs.lemmas.Option.{none-some, same_Some}
use Rattle.stimulus.specs.Rows.{AreAscending, value_in, with_value}

-- ---- what it has

abbrev pub found_in : List (ℕ × ℕ) → ℕ → Option ℕ
found_in [] id = None
found_in (x ∷ xs) id = cond (eqb x.0 id) (Some x.1) (found_in xs id)

pub found_number : (row : List (ℕ × ℕ)) (id : ℕ) → value_in row id ≡ unwrap_or (found_in row id) 0
found_number [] id = refl
found_number (x ∷ xs) id = by (eqb x.0 id) (found_number xs id)
  where
    by : (b : Bool) → value_in xs id ≡ unwrap_or (found_in xs id) 0 → cond b x.1 (value_in xs id) ≡ unwrap_or (cond b (Some x.1) (found_in xs id)) 0
    by true rest = refl
    by false rest = rest

-- ---- ascending rows

-- the names of a row are above this one
abbrev AreAbove : ℕ → List (ℕ × ℕ) → Type 0
AreAbove id row = All (λ (p : ℕ × ℕ). id < p.0) row

pub ascends_above : (x : ℕ × ℕ) (xs : List (ℕ × ℕ)) → AreAscending (x ∷ xs) → AreAbove x.0 xs
ascends_above x xs h =
    All-from_get_or (λ (p : ℕ × ℕ). x.0 < p.0) xs (0, 0)
    (λ (i : ℕ) (within : i < length xs). h 0 (suc i) (omega arith) (omega (arith, within)))

pub ascends_on : (x : ℕ × ℕ) (xs : List (ℕ × ℕ)) → AreAscending (x ∷ xs) → AreAscending xs
ascends_on x xs h i j lt within = h (suc i) (suc j) (omega (arith, lt)) (omega (arith, within))

pub none_above : (id : ℕ) (row : List (ℕ × ℕ)) → AreAbove id row → found_in row id ≡ None
none_above id [] above = refl
none_above id (x ∷ xs) above =
    ap (λ b. cond b (Some x.1) (found_in xs id))
    (ne_eqb x.0 id (λ (is : x.0 ≡ id). absurd (omega (arith, is, All-head (λ (p : ℕ × ℕ). id < p.0) x xs above))))
    ∙ none_above id xs (All-tail (λ (p : ℕ × ℕ). id < p.0) x xs above)

-- a name that is below a row is not in it
none_below : (id : ℕ) (x : ℕ × ℕ) (xs : List (ℕ × ℕ)) → AreAscending (x ∷ xs) → id < x.0 → found_in (x ∷ xs) id ≡ None
none_below id x xs ascends below =
    none_above id (x ∷ xs)
    (All-cons (λ (p : ℕ × ℕ). id < p.0) x xs below
    (All-weaker (λ (p : ℕ × ℕ). x.0 < p.0) (λ (p : ℕ × ℕ). id < p.0) (λ (p : ℕ × ℕ) (lt : x.0 < p.0). omega (arith, lt, below)) xs
    (ascends_above x xs ascends)))

found_first : (x : ℕ × ℕ) (xs : List (ℕ × ℕ)) → found_in (x ∷ xs) x.0 ≡ Some x.1
found_first x xs = ap (λ b. cond b (Some x.1) (found_in xs x.0)) (eq-eqb x.0 x.0 refl)

-- the names of a row are among so many
abbrev pub AreWithin : ℕ → List (ℕ × ℕ) → Type 0
AreWithin count row = All (λ (p : ℕ × ℕ). p.0 < count) row

-- two ascending rows that say the same of each name are one
pub one_row : (count : ℕ) (xs ys : List (ℕ × ℕ)) → AreWithin count xs → AreWithin count ys → AreAscending xs → AreAscending ys
    → ((id : ℕ) → id < count → found_in xs id ≡ found_in ys id) → xs ≡ ys
one_row count [] [] within also ascends too same = refl
one_row count [] (y ∷ ys) within also ascends too same =
    absurd (none-some y.1 (same y.0 (All-head (λ (p : ℕ × ℕ). p.0 < count) y ys also) ∙ found_first y ys))
one_row count (x ∷ xs) [] within also ascends too same =
    absurd (none-some x.1 (sym (same x.0 (All-head (λ (p : ℕ × ℕ). p.0 < count) x xs within)) ∙ found_first x xs))
one_row count (x ∷ xs) (y ∷ ys) within also ascends too same =
    by (cases_order x.0 y.0)
    (one_row count xs ys (All-tail (λ (p : ℕ × ℕ). p.0 < count) x xs within) (All-tail (λ (p : ℕ × ℕ). p.0 < count) y ys also)
    (ascends_on x xs ascends) (ascends_on y ys too))
  where
    here : x.0 < count
    here = All-head (λ (p : ℕ × ℕ). p.0 < count) x xs within

    there : y.0 < count
    there = All-head (λ (p : ℕ × ℕ). p.0 < count) y ys also

    rests : x.0 ≡ y.0 → (id : ℕ) → id < count → found_in xs id ≡ found_in ys id
    rests one id lt = at (eqb x.0 id) refl (same id lt)
      where
        at : (b : Bool) → eqb x.0 id ≡ b → found_in (x ∷ xs) id ≡ found_in (y ∷ ys) id → found_in xs id ≡ found_in ys id
        at true is e =
            none_above id xs (subst (λ n. AreAbove n xs) (eqb-true x.0 id is) (ascends_above x xs ascends))
            ∙ sym (none_above id ys (subst (λ n. AreAbove n ys) (sym one ∙ eqb-true x.0 id is) (ascends_above y ys too)))
        at false is e =
            sym (ap (λ b. cond b (Some x.1) (found_in xs id)) is) ∙ e
            ∙ ap (λ b. cond b (Some y.1) (found_in ys id)) (ap (λ n. eqb n id) (sym one) ∙ is)

    by : (x.0 ≡ y.0) ⊎ ((x.0 < y.0) ⊎ (y.0 < x.0)) → (((id : ℕ) → id < count → found_in xs id ≡ found_in ys id) → xs ≡ ys) → x ∷ xs ≡ y ∷ ys
    by (inl one) rest =
        let values : x.1 ≡ y.1 = same_Some x.1 y.1 (sym (found_first x xs) ∙ same x.0 here ∙ ap (found_in (y ∷ ys)) one ∙ found_first y ys) in
        ap₂ (λ (p : ℕ × ℕ) (ps : List (ℕ × ℕ)). p ∷ ps) (ap₂ (λ (m n : ℕ). (m, n)) one values) (rest (rests one))
    by (inr (inl below)) rest =
        absurd (none-some x.1 (sym (none_below x.0 y ys too below) ∙ sym (same x.0 here) ∙ found_first x xs))
    by (inr (inr below)) rest =
        absurd (none-some y.1 (sym (none_below y.0 x xs ascends below) ∙ same y.0 there ∙ found_first y ys))

-- what is put stays within
pub row_within : (count : ℕ) (row : List (ℕ × ℕ)) (id value : ℕ) → All (λ (p : ℕ × ℕ). p.0 < count) row → id < count
    → All (λ (p : ℕ × ℕ). p.0 < count) (with_value row id value)
row_within count [] id value within lt =
    All-cons (λ (p : ℕ × ℕ). p.0 < count) (id, value) [] lt within
row_within count (x ∷ xs) id value within lt =
    by (eqb x.0 id) (ltb id x.0)
    (row_within count xs id value (All-tail (λ (p : ℕ × ℕ). p.0 < count) x xs within) lt)
  where
    here : x.0 < count
    here = All-head (λ (p : ℕ × ℕ). p.0 < count) x xs within

    by : (same before : Bool) → AreWithin count (with_value xs id value)
        → AreWithin count (cond same ((id, value) ∷ xs) (cond before ((id, value) ∷ x ∷ xs) (x ∷ with_value xs id value)))
    by true before rest = All-cons (λ (p : ℕ × ℕ). p.0 < count) (id, value) xs lt (All-tail (λ (p : ℕ × ℕ). p.0 < count) x xs within)
    by false true rest = All-cons (λ (p : ℕ × ℕ). p.0 < count) (id, value) (x ∷ xs) lt within
    by false false rest = All-cons (λ (p : ℕ × ℕ). p.0 < count) x (with_value xs id value) here rest
