-- Two tables of names in one that begins with the first: each text of the second has a number there too.
use Rattle.std.proofs.Common.{◌≡◌, ◌∙◌, ℕ, ◌+◌, ◌<◌, ◌≤◌, ◌⊎◌, zero, suc, List, [], ◌∷◌, ◌++◌}
use Rattle.std.proofs.Common.{length, nat_lt, cond, Bool, true, false, true≢false, inl, inr, refl, sym, ap, arith}
use Rattle.std.specs.Str.{bytes_eq}
use Rattle.std.proofs.lemmas.Bool.{cases_lt, ltb-true, ltb-false, lt-ltb}
use Rattle.std.proofs.lemmas.List.{length-append, get_or_past, get_or_append_left, get_or_push}
use Rattle.std.proofs.lemmas.Slice.Eq.{bytes_eq-Decides}
use Rattle.ls_text.specs.Texts.{Grows, HasEachOnce, text_at}
use Rattle.ls_text.specs.declared.name_id.NameId.{NameId}
use Rattle.ls_text.proofs.Growth.{grown_id, grown_text, grows_on, grows_none}
use Rattle.ls_text.proofs.Tables.{same_id}
use Rattle.elaborate.specs.Renaming.{KeepsApart, SpellsSame}

-- what a table begins has each text once where the table does
pub begins_once : (old new : List (List ℕ)) → Grows old new → HasEachOnce new → HasEachOnce old
begins_once old new grows once i j here there same =
    once i j (grown_id old new i grows here) (grown_id old new j grows there)
    (grown_text old new i grows here ∙ same ∙ sym (grown_text old new j grows there))

-- ---- the first place of a text

abbrev pick : Bool → ℕ → ℕ
pick true later = zero
pick false later = suc later

-- the length of the table where it has none
place_of : List (List ℕ) → List ℕ → ℕ
place_of [] text = zero
place_of (x ∷ xs) text = pick (bytes_eq x text) (place_of xs text)

record IsPlace (names : List (List ℕ)) (text : List ℕ) (n place : ℕ) : Type 0 where
  early : place ≤ n
  same : text_at names place ≡ text

-- a text that has some place has the first one
place_is : (names : List (List ℕ)) (text : List ℕ) (n : ℕ) → n < length names → text_at names n ≡ text → IsPlace names text n (place_of names text)
unfolding place_of
place_is [] text n below is = absurd (omega (arith, below))
place_is (x ∷ xs) text n below is = by (bytes_eq x text) refl n below is (λ m. place_is xs text m)
  where
    by : (b : Bool) → bytes_eq x text ≡ b → (n : ℕ) → n < length (x ∷ xs) → text_at (x ∷ xs) n ≡ text
        → ((m : ℕ) → m < length xs → text_at xs m ≡ text → IsPlace xs text m (place_of xs text))
        → IsPlace (x ∷ xs) text n (pick b (place_of xs text))
    by true e n below is later = record { early = omega arith; same = (bytes_eq-Decides x text).0 e }
    by false e zero below is later = absurd (true≢false (sym ((bytes_eq-Decides x text).1 is) ∙ e))
    by false e (suc m) below is later =
        let rest = later m (omega (arith, below)) is in
        let early = rest.early in
        record { early = omega (arith, early); same = rest.same }

-- a place within the table is that of the text
place_has : (names : List (List ℕ)) (text : List ℕ) → place_of names text < length names → text_at names (place_of names text) ≡ text
unfolding place_of
place_has [] text below = absurd (omega (arith, below))
place_has (x ∷ xs) text below = by (bytes_eq x text) refl below (place_has xs text)
  where
    by : (b : Bool) → bytes_eq x text ≡ b → pick b (place_of xs text) < length (x ∷ xs)
        → (place_of xs text < length xs → text_at xs (place_of xs text) ≡ text) → text_at (x ∷ xs) (pick b (place_of xs text)) ≡ text
    by true e below later = (bytes_eq-Decides x text).0 e
    by false e below later = later (omega (arith, below))

-- ---- one more text

with_text : List (List ℕ) → List ℕ → List (List ℕ)
with_text names text = cond (nat_lt (place_of names text) (length names)) names (names ++ text ∷ [])

-- what a table is that has one more text, whether it was there or not
record HasMore (names : List (List ℕ)) (text : List ℕ) (new : List (List ℕ)) : Type 0 where
  grows : Grows names new
  once : HasEachOnce names → HasEachOnce new
  number : ℕ
  within : number < length new
  same : text_at new number ≡ text

new_once : (names : List (List ℕ)) (text : List ℕ) → (place_of names text < length names → ⊥) → HasEachOnce names
    → HasEachOnce (names ++ text ∷ [])
new_once names text none once i j here there same =
    by (cases_lt i (length names)) (cases_lt j (length names))
  where
    count : length (names ++ text ∷ []) ≡ length names + 1
    count = length-append names (text ∷ [])

    old : (k : ℕ) → k < length names → text_at (names ++ text ∷ []) k ≡ text_at names k
    old k below = get_or_append_left names (text ∷ []) [] k below

    last : (k : ℕ) → k < length (names ++ text ∷ []) → length names ≤ k → text_at (names ++ text ∷ []) k ≡ text
    last k below above = get_or_push names text [] k (omega (arith, below, above, count))

    not_there : (k : ℕ) → k < length names → text_at names k ≡ text → ⊥
    not_there k below is = let early = (place_is names text k below is).early in none (omega (arith, early, below))

    by : (i < length names) ⊎ (length names ≤ i) → (j < length names) ⊎ (length names ≤ j) → i ≡ j
    by (inl a) (inl b) = once i j a b (sym (old i a) ∙ same ∙ old j b)
    by (inl a) (inr b) = absurd (not_there i a (sym (old i a) ∙ same ∙ last j there b))
    by (inr a) (inl b) = absurd (not_there j b (sym (old j b) ∙ sym same ∙ last i here a))
    by (inr a) (inr b) = omega (arith, here, there, a, b, count)

has_more : (names : List (List ℕ)) (text : List ℕ) → HasMore names text (with_text names text)
unfolding with_text
has_more names text = by (nat_lt (place_of names text) (length names)) refl
  where
    by : (b : Bool) → nat_lt (place_of names text) (length names) ≡ b → HasMore names text (cond b names (names ++ text ∷ []))
    by true is =
        let below = ltb-true (place_of names text) (length names) is in record {
          grows = grows_none names;
          once = λ once. once;
          number = place_of names text;
          within = below;
          same = place_has names text below;
        }
    by false is =
        let above = ltb-false (place_of names text) (length names) is in
        let count = length-append names (text ∷ []) in record {
          grows = record { more = text ∷ []; begins = refl };
          once = new_once names text (λ below. omega (arith, above, below));
          number = length names;
          within = omega (arith, count);
          same = get_or_push names text [] (length names) refl;
        }

-- ---- all of a second table

with_all : List (List ℕ) → List (List ℕ) → List (List ℕ)
with_all names [] = names
with_all names (text ∷ others) = with_all (with_text names text) others

record HasAll (names others new : List (List ℕ)) : Type 0 where
  grows : Grows names new
  once : HasEachOnce names → HasEachOnce new
  there : (n : ℕ) → n < length others → (m : ℕ) × (m < length new) × (text_at new m ≡ text_at others n)

has_all : (names others : List (List ℕ)) → HasAll names others (with_all names others)
unfolding with_all
has_all names [] = record { grows = grows_none names; once = λ once. once; there = λ n below. absurd (omega (arith, below)) }
has_all names (text ∷ others) =
    let first = has_more names text in
    let rest = has_all (with_text names text) others in record {
      grows = grows_on names (with_text names text) (with_all (with_text names text) others) first.grows rest.grows;
      once = λ once. rest.once (first.once once);
      there = λ n. by first rest n;
    }
  where
    by : HasMore names text (with_text names text) → HasAll (with_text names text) others (with_all (with_text names text) others) → (n : ℕ)
        → n < length (text ∷ others)
        → (m : ℕ) × (m < length (with_all (with_text names text) others))
        × (text_at (with_all (with_text names text) others) m ≡ text_at (text ∷ others) n)
    by first rest zero below = (
      first.number,
      grown_id (with_text names text) (with_all (with_text names text) others) first.number rest.grows first.within,
      grown_text (with_text names text) (with_all (with_text names text) others) first.number rest.grows first.within ∙ first.same,
    )
    by first rest (suc n) below = rest.there n (omega (arith, below))

-- ---- the names of the second by the numbers of the joint table; what is in neither stays apart behind it

abbrev id_if : Bool → ℕ → ℕ → NameId
id_if true m n = record { 0 = m }
id_if false m n = record { 0 = n }

abbrev renumbered : (joint others : List (List ℕ)) → NameId → NameId
renumbered joint others n = id_if (nat_lt n.0 (length others)) (place_of joint (text_at others n.0)) (length joint + n.0)

-- a table that the first begins, and the names of the second in it
pub record Joint (names others : List (List ℕ)) : Type 0 where
  pub table : List (List ℕ)
  pub name : NameId → NameId
  pub grows : Grows names table
  pub once : HasEachOnce table
  pub apart : KeepsApart name
  pub spells : SpellsSame name others table
  pub within : (n : NameId) → n.0 < length others → (name n).0 < length table

module _ (names others : List (List ℕ)) (once : HasEachOnce names) (also : HasEachOnce others) where
  abbrev all : List (List ℕ)
  all = with_all names others

  abbrev moved : NameId → NameId
  moved n = renumbered all others n

  -- the place of a name of the second table
  is_place : (n : ℕ) → n < length others
      → (place_of all (text_at others n) < length all) × (text_at all (place_of all (text_at others n)) ≡ text_at others n)
  is_place n below =
      let there = (has_all names others).there n below in
      let first = place_is all (text_at others n) there.0 there.1 there.2 in
      let early = first.early in
      let low = there.1 in
      (omega (arith, early, low), first.same)

  apart_so : KeepsApart moved
  apart_so m n is = cases (nat_lt m.0 (length others)) (nat_lt n.0 (length others)) refl refl is
    where
      cases : (b c : Bool) → nat_lt m.0 (length others) ≡ b → nat_lt n.0 (length others) ≡ c
          → id_if b (place_of all (text_at others m.0)) (length all + m.0) ≡ id_if c (place_of all (text_at others n.0)) (length all + n.0) → m ≡ n
      cases true true here there same =
          let first = ltb-true m.0 (length others) here in
          let second = ltb-true n.0 (length others) there in
          same_id m n (also m.0 n.0 first second
          (sym (is_place m.0 first).1 ∙ ap (λ (k : NameId). text_at all k.0) same ∙ (is_place n.0 second).1))
      cases true false here there same =
          let low = (is_place m.0 (ltb-true m.0 (length others) here)).0 in
          absurd (omega (arith, low, ap (λ (k : NameId). k.0) same))
      cases false true here there same =
          let low = (is_place n.0 (ltb-true n.0 (length others) there)).0 in
          absurd (omega (arith, low, ap (λ (k : NameId). k.0) same))
      cases false false here there same = same_id m n (omega (arith, ap (λ (k : NameId). k.0) same))

  spells_so : SpellsSame moved others all
  spells_so n = cases (nat_lt n.0 (length others)) refl
    where
      cases : (b : Bool) → nat_lt n.0 (length others) ≡ b
          → text_at all (id_if b (place_of all (text_at others n.0)) (length all + n.0)).0 ≡ text_at others n.0
      cases true here = (is_place n.0 (ltb-true n.0 (length others) here)).1
      cases false here =
          get_or_past all (length all + n.0) [] (omega arith) ∙ sym (get_or_past others n.0 [] (ltb-false n.0 (length others) here))

  within_so : (n : NameId) → n.0 < length others → (moved n).0 < length all
  within_so n below = cases (nat_lt n.0 (length others)) (lt-ltb n.0 (length others) below)
    where
      cases : (b : Bool) → b ≡ true → (id_if b (place_of all (text_at others n.0)) (length all + n.0)).0 < length all
      cases true here = (is_place n.0 below).0
      cases false here = absurd (true≢false (sym here))

  pub joint : Joint names others
  joint = record {
    table = all;
    name = moved;
    grows = (has_all names others).grows;
    once = (has_all names others).once once;
    apart = apart_so;
    spells = spells_so;
    within = within_so;
  }
