-- Tables of names: their numbers and texts, and tables that are the texts of a set of keys.
use Rattle.std.proofs.Common.{Vec, Global, ◌≡◌, ℕ, zero, suc, ◌<◌, Bool, true, false, cond, ◌||◌, List, [], ◌∷◌, ◌++◌, map, length, get_or, slice_get, position, Some, refl, sym, ap, ◌∙◌, subst, arith, true≢false, eqb, eqb-true, eq-eqb}
use Rattle.std.proofs.lemmas.Option.{slice_get-map, slice_get_within, slice_get-get_or, get_or_from_slice_get, same_Some, none-some}
use Rattle.std.proofs.lemmas.List.{length-map}
use Rattle.std.proofs.lemmas.List.Quantifiers.{position-Some}
use Rattle.std.proofs.lemmas.List.Folds.{list_any_at}
use Rattle.std.proofs.lemmas.Map.Keys.{IsDistinct-head, IsDistinct-tail}
use Rattle.std.specs.List.{IsDistinct, AllByRecursion, AllZip, list_any}
use Rattle.std.specs.Option.{option_map}
use Rattle.std.specs.Str.{bytes_eq}
use Rattle.std.specs.Cmp.Lexicographic.{bytes_decides}
use Rattle.std.proofs.lemmas.List.Elements.{same_from_all_zip}
use Rattle.indexmap.specs.IndexSet.{insert_key}
use Rattle.ls_text.specs.Texts.{HasEachOnce, IsIdOf, interned, text_at}
use Rattle.ls_text.specs.declared.name_id.NameId.{NameId}

-- ids are one where their numbers are
pub same_id : (m n : NameId) → m.0 ≡ n.0 → m ≡ n
same_id m n number = λ i. record { 0 = number i }

pub same_bytes : (text : List ℕ) → bytes_eq text text ≡ true
same_bytes text = (bytes_decides text text).1 refl

-- two texts of a table are one where their numbers are
pub one_text : (names : List (List ℕ)) → HasEachOnce names → (i j : ℕ) → i < length names → j < length names
    → bytes_eq (text_at names i) (text_at names j) ≡ eqb i j
one_text names each i j within other = by (bytes_eq (text_at names i) (text_at names j)) refl (eqb i j) refl
  where
    by : (b : Bool) → bytes_eq (text_at names i) (text_at names j) ≡ b → (d : Bool) → eqb i j ≡ d → b ≡ d
    by true h true e = refl
    by true h false e = sym (eq-eqb i j (each i j within other ((bytes_decides (text_at names i) (text_at names j)).0 h))) ∙ e
    by false h true e = sym h ∙ (bytes_decides (text_at names i) (text_at names j)).1 (ap (text_at names) (eqb-true i j e))
    by false h false e = refl

-- ---- the texts of a set of keys

abbrev Text : Type 0
Text = Vec ℕ Global

abbrev texts : List Text → List (List ℕ)
texts ks = map (λ (k : Text). k.items) ks

abbrev same_text : Text → Text → Bool
same_text x y = bytes_eq x.items y.items

-- a test of the texts is one of the keys
any_text : (p : List ℕ → Bool) (ks : List Text) → list_any p (texts ks) ≡ list_any (λ k. p k.items) ks
any_text p [] = refl
any_text p (k ∷ ks) = ap (λ b. p k.items || b) (any_text p ks)

all_at : (P : Text → Type 0) (ks : List Text) (i : ℕ) (k : Text) → AllByRecursion P ks → slice_get ks i ≡ Some k → P k
all_at P [] i k all at = absurd (none-some _ at)
all_at P (x ∷ ks) zero k all at = subst P (same_Some _ _ at) all.0
all_at P (x ∷ ks) (suc i) k all at = all_at P ks i k all.1 at

-- two places of one text are the same
once : (ks : List Text) (i j : ℕ) (x y : Text) → IsDistinct same_text ks → slice_get ks i ≡ Some x → slice_get ks j ≡ Some y → x.items ≡ y.items → j ≡ i
once [] i j x y apart at_i at_j same = absurd (none-some _ at_i)
once (k ∷ ks) zero zero x y apart at_i at_j same = refl
once (k ∷ ks) zero (suc j) x y apart at_i at_j same =
    let differs = all_at (λ z. same_text k z ≡ false) ks j y (IsDistinct-head same_text k ks apart) at_j in
    absurd (true≢false (sym ((bytes_decides k.items y.items).1 (ap (λ (z : Text). z.items) (same_Some _ _ at_i) ∙ same)) ∙ differs))
once (k ∷ ks) (suc i) zero x y apart at_i at_j same =
    let differs = all_at (λ z. same_text k z ≡ false) ks i x (IsDistinct-head same_text k ks apart) at_i in
    absurd (true≢false (sym ((bytes_decides k.items x.items).1 (ap (λ (z : Text). z.items) (same_Some _ _ at_j) ∙ sym same)) ∙ differs))
once (k ∷ ks) (suc i) (suc j) x y apart at_i at_j same =
    ap suc (once ks i j x y (IsDistinct-tail same_text k ks apart) at_i at_j same)

-- the place of a key is the id of its text
pub id_at : (ks : List Text) (text : List ℕ) (i : ℕ) (k : Text) → IsDistinct same_text ks → slice_get ks i ≡ Some k → bytes_eq text k.items ≡ true → IsIdOf (texts ks) text i
id_at ks text i k apart at same =
    let is : text ≡ k.items = (bytes_decides text k.items).0 same in
    let here : slice_get (texts ks) i ≡ Some k.items = slice_get-map (λ (t : Text). t.items) ks i ∙ ap (option_map (λ (t : Text). t.items)) at in
    record {
      within = slice_get_within (texts ks) i k.items here;
      same = get_or_from_slice_get (texts ks) i k.items [] here ∙ sym is;
      only = λ other within other_is.
          let there : other < length ks = omega (arith, within, length-map ks (λ (t : Text). t.items)) in
          let y = get_or ks other k in
          let at_other = slice_get-get_or ks other k there in
          let text_there : slice_get (texts ks) other ≡ Some y.items = slice_get-map (λ (t : Text). t.items) ks other ∙ ap (option_map (λ (t : Text). t.items)) at_other in
          let read = get_or_from_slice_get (texts ks) other y.items [] text_there in
          once ks i other k y apart at at_other (sym is ∙ sym other_is ∙ read);
    }

-- the key that a search found passes the test
pub found_passes : (p : Text → Bool) (ks : List Text) (i : ℕ) (k : Text) → position p ks ≡ Some i → slice_get ks i ≡ Some k → p k ≡ true
found_passes p ks i k found at =
    ap p (sym (get_or_from_slice_get ks i k k at)) ∙ (position-Some p ks i k found).1

-- a table that has the text stays
pub known : (ks : List Text) (text : List ℕ) (i : ℕ) (k : Text) → slice_get ks i ≡ Some k → bytes_eq text k.items ≡ true → texts ks ≡ interned (texts ks) text
known ks text i k at same =
    let test = λ (t : Text). bytes_eq text t.items in
    let here = list_any_at test ks i k (slice_get_within ks i k at) (ap test (get_or_from_slice_get ks i k k at) ∙ same) in
    sym (ap (λ b. cond b (texts ks) (texts ks ++ text ∷ [])) (any_text (bytes_eq text) ks ∙ here))

texts_more : (ks : List Text) (k : Text) → texts (ks ++ k ∷ []) ≡ texts ks ++ k.items ∷ []
texts_more [] k = refl
texts_more (x ∷ ks) k = ap (λ ts. x.items ∷ ts) (texts_more ks k)

-- inserting a key interns its text
pub inserted : (ks new : List Text) (k : Text) (text : List ℕ) → k.items ≡ text → new ≡ insert_key same_text ks k → texts new ≡ interned (texts ks) text
inserted ks new k text is keys =
    ap texts keys ∙ by (list_any (same_text k) ks) refl
  where
    by : (b : Bool) → list_any (same_text k) ks ≡ b → texts (cond b ks (ks ++ k ∷ [])) ≡ interned (texts ks) text
    by true h = sym (ap (λ b. cond b (texts ks) (texts ks ++ text ∷ [])) (any_text (bytes_eq text) ks ∙ ap (λ t. list_any (λ (x : Text). bytes_eq t x.items) ks) (sym is) ∙ h))
    by false h =
        texts_more ks k ∙ ap (λ t. texts ks ++ t ∷ []) is
        ∙ sym (ap (λ b. cond b (texts ks) (texts ks ++ text ∷ [])) (any_text (bytes_eq text) ks ∙ ap (λ t. list_any (λ (x : Text). bytes_eq t x.items) ks) (sym is) ∙ h))

key_at : (ks : List Text) (i : ℕ) → i < length (texts ks) → (k : Text) × (slice_get ks i ≡ Some k)
key_at [] i within = absurd (omega (arith, within))
key_at (k ∷ ks) zero within = (k, refl)
key_at (k ∷ ks) (suc i) within = key_at ks i (omega (arith, within))

text_of : (ks : List Text) (i : ℕ) (k : Text) → slice_get ks i ≡ Some k → text_at (texts ks) i ≡ k.items
text_of ks i k at =
    get_or_from_slice_get (texts ks) i k.items [] (slice_get-map (λ (t : Text). t.items) ks i ∙ ap (option_map (λ (t : Text). t.items)) at)

-- the texts of a set of keys are all different
pub each_once : (ks : List Text) → IsDistinct same_text ks → HasEachOnce (texts ks)
each_once ks apart i j within_i within_j same =
    let x = key_at ks i within_i in
    let y = key_at ks j within_j in
    once ks j i y.0 x.0 apart y.1 x.1 (sym (text_of ks j y.0 y.1) ∙ sym same ∙ text_of ks i x.0 x.1)

-- clones of keys have their texts
pub copied : (C : ℕ → ℕ → Type 0) (D : Text → Text → Type 0) (ks new : List Text) → ((x y : ℕ) → C x y → y ≡ x) → AllZip (λ (x y : Text). AllZip C x.items y.items × D x y) ks new → texts new ≡ texts ks
copied C D [] [] same all = refl
copied C D [] (y ∷ new) same all = absurd all
copied C D (x ∷ ks) [] same all = absurd all
copied C D (x ∷ ks) (y ∷ new) same all =
    ap (λ t. t ∷ texts new) (same_from_all_zip C x.items y.items all.0.0 same)
    ∙ ap (λ ts. x.items ∷ ts) (copied C D ks new same all.1)
