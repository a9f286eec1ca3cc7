-- What is found of a name in a row, and what a row is once a name is set.
use Rattle.std.proofs.Common.{◌≡◌, ℕ, zero, suc, ◌+◌, ◌-◌, ◌<◌, ◌≤◌, List, [], ◌∷◌, length, get_or, set, Result, Ok, Err, IfOk, IfErr, refl, sym, ap, subst, ◌∙◌, arith}
use Rattle.std.specs.List.{insert}
use Rattle.std.specs.List.Sorted.{IsSearchInRange, IsBinarySearchResult, IsNonDecreasingBy}
use Rattle.std.specs.Ordering.{nat_cmp, ordering_index}
use Rattle.std.proofs.lemmas.Cmp.{ranked}
use Rattle.std.proofs.lemmas.List.{length-map}
use Rattle.std.proofs.lemmas.List.Sorted.{IsNonDecreasingBy-from_default}
use Rattle.std.proofs.lemmas.List.Edits.{length-insert, get_or-insert_below, get_or-insert_at, get_or-insert_above}
use Rattle.std.proofs.lemmas.Bool.Decides.{nat_tests}
use Rattle.std.proofs.lemmas.Grind.{common_steps}
use Rattle.stimulus.specs.declared.setting.Setting.{Setting}
use Rattle.stimulus.specs.Places.{IsAt, IsGapFor}
use Rattle.stimulus.specs.Rows.{value_in, with_value, name_at, AreAscending}
use Rattle.stimulus.specs.Settings.{pair_of, pairs_of}

-- ---- one name in a list of pairs

-- smaller names stand before the place
abbrev Below : List (ℕ × ℕ) → ℕ → ℕ → Type 0
Below row name place = (i : ℕ) → i < place → name_at row i < name

below_tail : (x : ℕ × ℕ) (row : List (ℕ × ℕ)) (name place : ℕ) → Below (x ∷ row) name (suc place) → Below row name place
below_tail x row name place below i lt = below (suc i) (omega arith)

value_present : (row : List (ℕ × ℕ)) (name place : ℕ) → Below row name place → place < length row → name_at row place ≡ name
    → value_in row name ≡ (get_or row place (0, 0)).1
value_present [] name place below within has = absurd (omega (arith, within))
value_present (x ∷ row) name zero below within has = grind (arith, nat_tests, has)
value_present (x ∷ row) name (suc place) below within has =
    grind (arith, nat_tests, below 0 (omega arith), value_present row name place (below_tail x row name place below) (omega (arith, within)) has)

-- a name that isn't there reads 0
pub value_absent : (row : List (ℕ × ℕ)) (name : ℕ) → ((i : ℕ) → i < length row → name_at row i ≡ name → ⊥) → value_in row name ≡ 0
value_absent [] name none = refl
value_absent (x ∷ row) name none =
    grind (arith, nat_tests, none 0 (omega arith), value_absent row name (λ i lt. none (suc i) (omega (arith, lt))))

with_set : (row : List (ℕ × ℕ)) (name value place : ℕ) → Below row name place → place < length row → name_at row place ≡ name
    → with_value row name value ≡ set row place (name, value)
with_set [] name value place below within has = absurd (omega (arith, within))
with_set (x ∷ row) name value zero below within has = grind (arith, nat_tests, has)
with_set (x ∷ row) name value (suc place) below within has =
    grind (arith, nat_tests, below 0 (omega arith), with_set row name value place (below_tail x row name place below) (omega (arith, within)) has)

-- the name goes into its gap
pub with_inserted : (row : List (ℕ × ℕ)) (name value place : ℕ) → IsGapFor row name place → with_value row name value ≡ insert row place (name, value)
with_inserted [] name value zero gap = refl
with_inserted [] name value (suc place) gap = refl
with_inserted (x ∷ row) name value zero gap = grind (arith, nat_tests, gap.after 0 (omega arith) (omega arith))
with_inserted (x ∷ row) name value (suc place) gap =
    let rest : IsGapFor row name place = record {
      within = omega (arith, gap.within);
      before = λ i lt. gap.before (suc i) (omega arith);
      after = λ i le lt. gap.after (suc i) (omega arith) (omega (arith, lt));
    } in
    grind (arith, nat_tests, gap.before 0 (omega arith), with_inserted row name value place rest)

-- ---- in the order of the names

module _ (row : List (ℕ × ℕ)) (ascends : AreAscending row) (name place : ℕ) (at : IsAt row name place) where
  below_at : Below row name place
  below_at i lt = omega (arith, ascends i place lt at.within, at.has_name)

  -- what is at the place of a name is its value
  pub value_at_place : value_in row name ≡ (get_or row place (0, 0)).1
  value_at_place = value_present row name place below_at at.within at.has_name

  pub with_replaced : (value : ℕ) → with_value row name value ≡ set row place (name, value)
  with_replaced value = with_set row name value place below_at at.within at.has_name

  -- the order stays, since each name does
  pub ascending_set : (value : ℕ) → AreAscending (set row place (name, value))
  ascending_set value i j lt within = grind (arith, common_steps, ascends i j, ascends i place, ascends place j, at.within, at.has_name)

module _ (row : List (ℕ × ℕ)) (name place : ℕ) (gap : IsGapFor row name place) where
  -- a name that has a gap isn't set
  pub value_in_gap : value_in row name ≡ 0
  value_in_gap = value_absent row name (λ i lt same. grind (arith, gap.before i, gap.after i))

  -- the order stays: each name is an old one below the gap, the new one in it, or an old one moved up by one
  pub ascending_inserted : (value : ℕ) → AreAscending row → AreAscending (insert row place (name, value))
  ascending_inserted value ascends i j lt within =
      let new = insert row place (name, value) in
      let name_of = λ (x : ℕ × ℕ). x.0 in
      let length_new = length-insert row place (name, value) gap.within in
      let below : (i : ℕ) → i < place → name_at new i ≡ name_at row i = λ i under. ap name_of (get_or-insert_below row place (name, value) (0, 0) i under gap.within) in
      let here : (i : ℕ) → i ≡ place → name_at new i ≡ name = λ i is. rw is (ap name_of (get_or-insert_at row place (name, value) (0, 0) gap.within)) in
      let above : (i : ℕ) → place < i → name_at new i ≡ name_at row (i - 1) = λ i over. subst (λ q. name_at new q ≡ name_at row (i - 1)) {x = i - 1 + 1} (omega arith) (ap name_of (get_or-insert_above row place (name, value) (0, 0) (i - 1) (omega arith) gap.within)) in
      grind (arith, below i, here i, above i, below j, here j, above j, ascends i j, ascends i (j - 1), ascends (i - 1) (j - 1), gap.before i, gap.after (j - 1))

-- ---- a search among settings

-- settings read as pairs
abbrev pub none_set : Setting
none_set = record { name = record { 0 = 0 }; value = 0 }

pub name_read : (settings : List Setting) (i : ℕ) (d : Setting) → i < length settings → name_at (pairs_of settings) i ≡ (get_or settings i d).name.0
name_read [] i d lt = absurd (omega (arith, lt))
name_read (s ∷ settings) zero d lt = refl
name_read (s ∷ settings) (suc i) d lt = name_read settings i d (omega (arith, lt))

pub pair_read : (settings : List Setting) (i : ℕ) (d : Setting) → i < length settings → get_or (pairs_of settings) i (0, 0) ≡ pair_of (get_or settings i d)
pair_read [] i d lt = absurd (omega (arith, lt))
pair_read (s ∷ settings) zero d lt = refl
pair_read (s ∷ settings) (suc i) d lt = pair_read settings i d (omega (arith, lt))

module _ (settings : List Setting) (ascends : AreAscending (pairs_of settings)) (name : ℕ) where
  count_is : length (pairs_of settings) ≡ length settings
  count_is = length-map settings pair_of

  -- the comparisons with the name rise along the list, as a binary search asks
  comparisons_rise : (d : Setting) → IsNonDecreasingBy (λ (s : Setting). ordering_index (nat_cmp s.name.0 name)) settings
  comparisons_rise d = IsNonDecreasingBy-from_default (λ (s : Setting). ordering_index (nat_cmp s.name.0 name)) settings d (λ i j le within.
      let rise : (get_or settings i d).name.0 ≤ (get_or settings j d).name.0 =
      grind (arith, count_is, name_read settings i d (omega arith), name_read settings j d within, ascends i j, λ (same : i ≡ j). ap (λ k. (get_or settings k d).name.0) same) in
      grind (arith, nat_tests))

  -- a binary search by names ends at the name, or at the gap for it
  pub searched : (d : Setting) (r : Result ℕ ℕ) → IsSearchInRange r (length settings) → IsBinarySearchResult (λ (s : Setting). nat_cmp s.name.0 name) settings r
      → record { found : IfOk r (IsAt (pairs_of settings) name); absent : IfErr r (IsGapFor (pairs_of settings) name) }
  searched d (Ok at) within equal = record {
    found = record { within = omega (arith, within, count_is); has_name = name_read settings at d within ∙ ranked _ name _ (sym (equal d)) };
    absent = tt;
  }
  searched d (Err at) within parted = record {
    found = tt;
    absent = record {
      within = omega (arith, within, count_is);
      before = λ i lt. omega (arith, name_read settings i d (omega (arith, lt, within)), ranked (get_or settings i d).name.0 name _ (sym ((parted (comparisons_rise d)).0 i d (omega arith) lt)));
      after = λ i le lt. omega (arith, name_read settings i d (omega (arith, lt, count_is)), ranked (get_or settings i d).name.0 name _ (sym ((parted (comparisons_rise d)).1 i d le (omega (arith, lt, count_is)))));
    };
  }

-- ---- settings that are written

pub pairs_of-set : (settings : List Setting) (i : ℕ) (s : Setting) → pairs_of (set settings i s) ≡ set (pairs_of settings) i (pair_of s)
pairs_of-set [] i s = refl
pairs_of-set (x ∷ settings) zero s = refl
pairs_of-set (x ∷ settings) (suc i) s = ap (λ ps. pair_of x ∷ ps) (pairs_of-set settings i s)

pub pairs_of-insert : (settings : List Setting) (i : ℕ) (s : Setting) → pairs_of (insert settings i s) ≡ insert (pairs_of settings) i (pair_of s)
pairs_of-insert settings zero s = refl
pairs_of-insert [] (suc i) s = refl
pairs_of-insert (x ∷ settings) (suc i) s = ap (λ ps. pair_of x ∷ ps) (pairs_of-insert settings i s)
