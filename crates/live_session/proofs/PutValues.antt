-- A row by texts: values that are put into it, and what it has.
use Rattle.std.proofs.Common.{◌≡◌, ◌∙◌, ℕ, suc, Bool, true, false, eqb, cond, ◌&&◌, List, [], ◌∷◌, length, refl, sym, ap, ap₂, eqb-true, eq-eqb, true≢false}
use Rattle.std.specs.Prelude.{Option, Some, None}
use Rattle.std.specs.Bool.{Decides}
use Rattle.std.specs.Option.{unwrap_or}
use Rattle.std.specs.Str.{bytes_eq}
use Rattle.std.specs.Cmp.Lexicographic.{bytes_decides}
use Rattle.std.proofs.lemmas.Bool.{and_parts, and_from, false_from_ne_true}
use Rattle.std.proofs.lemmas.Option.{none-some}
use Rattle.ls_text.proofs.Tables.{same_bytes}
use Rattle.live_session.specs.Rows.{Row, is_before, value_of, with_value, are_same}
use Rattle.live_session.proofs.TextOrder.{AreInOrder, before_on, before_or, differs_too, in_order}

-- ---- what is put into a row

-- where a text stands to the first name of a row
data Stands (head text : List ℕ) : Type 0 where
  is_it : bytes_eq head text ≡ true → Stands head text
  before_it : bytes_eq head text ≡ false → is_before text head ≡ true → Stands head text
  behind_it : bytes_eq head text ≡ false → is_before text head ≡ false → Stands head text

stands : (head text : List ℕ) → Stands head text
stands head text = by (bytes_eq head text) refl (is_before text head) refl
  where
    by : (same : Bool) → bytes_eq head text ≡ same → (before : Bool) → is_before text head ≡ before → Stands head text
    by true same before h = is_it same
    by false differ true h = before_it differ h
    by false differ false h = behind_it differ h

put_here : (s : List ℕ × ℕ) (ss : Row) (t : List ℕ) (v : ℕ) → bytes_eq s.0 t ≡ true → with_value (s ∷ ss) t v ≡ (t, v) ∷ ss
put_here s ss t v same =
    ap (λ b. cond b ((t, v) ∷ ss) (cond (is_before t s.0) ((t, v) ∷ s ∷ ss) (s ∷ with_value ss t v))) same

put_before : (s : List ℕ × ℕ) (ss : Row) (t : List ℕ) (v : ℕ) → bytes_eq s.0 t ≡ false → is_before t s.0 ≡ true
    → with_value (s ∷ ss) t v ≡ (t, v) ∷ s ∷ ss
put_before s ss t v differ before =
    ap (λ b. cond b ((t, v) ∷ ss) (cond (is_before t s.0) ((t, v) ∷ s ∷ ss) (s ∷ with_value ss t v))) differ
    ∙ ap (λ b. cond b ((t, v) ∷ s ∷ ss) (s ∷ with_value ss t v)) before

put_behind : (s : List ℕ × ℕ) (ss : Row) (t : List ℕ) (v : ℕ) → bytes_eq s.0 t ≡ false → is_before t s.0 ≡ false
    → with_value (s ∷ ss) t v ≡ s ∷ with_value ss t v
put_behind s ss t v differ behind =
    ap (λ b. cond b ((t, v) ∷ ss) (cond (is_before t s.0) ((t, v) ∷ s ∷ ss) (s ∷ with_value ss t v))) differ
    ∙ ap (λ b. cond b ((t, v) ∷ s ∷ ss) (s ∷ with_value ss t v)) behind

-- the later value of a name replaces the earlier one
pub overwrites : (row : Row) (t : List ℕ) (v w : ℕ) → with_value (with_value row t v) t w ≡ with_value row t w
overwrites [] t v w = put_here (t, v) [] t w (same_bytes t)
overwrites (s ∷ ss) t v w = by (stands s.0 t) (overwrites ss t v w)
  where
    by : Stands s.0 t → with_value (with_value ss t v) t w ≡ with_value ss t w
        → with_value (with_value (s ∷ ss) t v) t w ≡ with_value (s ∷ ss) t w
    by (is_it same) rest =
        ap (λ (r : Row). with_value r t w) (put_here s ss t v same) ∙ put_here (t, v) ss t w (same_bytes t) ∙ sym (put_here s ss t w same)
    by (before_it differ h) rest =
        ap (λ (r : Row). with_value r t w) (put_before s ss t v differ h) ∙ put_here (t, v) (s ∷ ss) t w (same_bytes t)
        ∙ sym (put_before s ss t w differ h)
    by (behind_it differ h) rest =
        ap (λ (r : Row). with_value r t w) (put_behind s ss t v differ h) ∙ put_behind s (with_value ss t v) t w differ h
        ∙ ap (λ (r : Row). s ∷ r) rest ∙ sym (put_behind s ss t w differ h)

-- what stands before the first name is put before the row, whatever else is put there
put_first : (s : List ℕ × ℕ) (ss : Row) (t u : List ℕ) (v w : ℕ) → AreInOrder t u → bytes_eq s.0 t ≡ false → is_before t s.0 ≡ true
    → with_value (with_value (s ∷ ss) u w) t v ≡ (t, v) ∷ with_value (s ∷ ss) u w
put_first s ss t u v w o differ h = by (stands s.0 u)
  where
    by : Stands s.0 u → with_value (with_value (s ∷ ss) u w) t v ≡ (t, v) ∷ with_value (s ∷ ss) u w
    by (is_it same) =
        let e : with_value (s ∷ ss) u w ≡ (u, w) ∷ ss = put_here s ss u w same in
        ap (λ (r : Row). with_value r t v) e ∙ put_before (u, w) ss t v o.turned o.first ∙ ap (λ (r : Row). (t, v) ∷ r) (sym e)
    by (before_it apart before) =
        let e : with_value (s ∷ ss) u w ≡ (u, w) ∷ s ∷ ss = put_before s ss u w apart before in
        ap (λ (r : Row). with_value r t v) e ∙ put_before (u, w) (s ∷ ss) t v o.turned o.first ∙ ap (λ (r : Row). (t, v) ∷ r) (sym e)
    by (behind_it apart behind) =
        let e : with_value (s ∷ ss) u w ≡ s ∷ with_value ss u w = put_behind s ss u w apart behind in
        ap (λ (r : Row). with_value r t v) e ∙ put_before s (with_value ss u w) t v differ h ∙ ap (λ (r : Row). (t, v) ∷ r) (sym e)

-- what stands behind a text stands behind all that is before this one
behind_both : (head t u : List ℕ) → AreInOrder t u → bytes_eq head t ≡ false → is_before t head ≡ false
    → (bytes_eq head u ≡ false) × (is_before u head ≡ false)
behind_both head t u o differ h =
    let apart : bytes_eq head u ≡ false =
    false_from_ne_true (bytes_eq head u)
    (λ is. true≢false (sym o.first ∙ ap (is_before t) (sym ((bytes_decides head u).0 is)) ∙ h)) in
    let behind : is_before u head ≡ false =
    false_from_ne_true (is_before u head) (λ is. true≢false (sym (before_on t u head o.first is) ∙ h)) in
    (apart, behind)

put_in_order : (row : Row) (t u : List ℕ) (v w : ℕ) → AreInOrder t u
    → with_value (with_value row t v) u w ≡ with_value (with_value row u w) t v
put_in_order [] t u v w o =
    put_behind (t, v) [] u w o.apart o.second ∙ sym (put_before (u, w) [] t v o.turned o.first)
put_in_order (s ∷ ss) t u v w o = by (stands s.0 t) (put_in_order ss t u v w o)
  where
    by : Stands s.0 t → with_value (with_value ss t v) u w ≡ with_value (with_value ss u w) t v
        → with_value (with_value (s ∷ ss) t v) u w ≡ with_value (with_value (s ∷ ss) u w) t v
    by (is_it same) rest =
        let is : s.0 ≡ t = (bytes_decides s.0 t).0 same in
        let apart : bytes_eq s.0 u ≡ false = ap (λ (x : List ℕ). bytes_eq x u) is ∙ o.apart in
        let behind : is_before u s.0 ≡ false = ap (is_before u) is ∙ o.second in
        ap (λ (r : Row). with_value r u w) (put_here s ss t v same) ∙ put_behind (t, v) ss u w o.apart o.second
        ∙ sym (put_here s (with_value ss u w) t v same)
        ∙ ap (λ (r : Row). with_value r t v) (sym (put_behind s ss u w apart behind))
    by (before_it differ h) rest =
        ap (λ (r : Row). with_value r u w) (put_before s ss t v differ h) ∙ put_behind (t, v) (s ∷ ss) u w o.apart o.second
        ∙ sym (put_first s ss t u v w o differ h)
    by (behind_it differ h) rest =
        let also = behind_both s.0 t u o differ h in
        ap (λ (r : Row). with_value r u w) (put_behind s ss t v differ h) ∙ put_behind s (with_value ss t v) u w also.0 also.1
        ∙ ap (λ (r : Row). s ∷ r) rest
        ∙ sym (put_behind s (with_value ss u w) t v differ h)
        ∙ ap (λ (r : Row). with_value r t v) (sym (put_behind s ss u w also.0 also.1))

-- two names are put in either order
pub commutes : (row : Row) (t u : List ℕ) (v w : ℕ) → bytes_eq t u ≡ false
    → with_value (with_value row t v) u w ≡ with_value (with_value row u w) t v
commutes row t u v w differ = by (is_before t u) refl
  where
    by : (b : Bool) → is_before t u ≡ b → with_value (with_value row t v) u w ≡ with_value (with_value row u w) t v
    by true h = put_in_order row t u v w (in_order t u differ h)
    by false h = sym (put_in_order row u t w v (in_order u t (differs_too t u differ) (before_or t u differ h)))

-- ---- what a row has

abbrev pub found_of : Row → List ℕ → Option ℕ
found_of [] t = None
found_of (s ∷ ss) t = cond (bytes_eq s.0 t) (Some s.1) (found_of ss t)

pub found_put : (row : Row) (t u : List ℕ) (v : ℕ) → found_of (with_value row t v) u ≡ cond (bytes_eq t u) (Some v) (found_of row u)
found_put [] t u v = refl
found_put (s ∷ ss) t u v = by (stands s.0 t) (found_put ss t u v)
  where
    by : Stands s.0 t → found_of (with_value ss t v) u ≡ cond (bytes_eq t u) (Some v) (found_of ss u)
        → found_of (with_value (s ∷ ss) t v) u ≡ cond (bytes_eq t u) (Some v) (found_of (s ∷ ss) u)
    by (is_it same) rest =
        ap (λ (r : Row). found_of r u) (put_here s ss t v same)
        ∙ once (bytes_eq t u)
        ∙ ap (λ (x : List ℕ). cond (bytes_eq t u) (Some v) (cond (bytes_eq x u) (Some s.1) (found_of ss u))) (sym ((bytes_decides s.0 t).0 same))
      where
        once : (b : Bool) → cond b (Some v) (found_of ss u) ≡ cond b (Some v) (cond b (Some s.1) (found_of ss u))
        once true = refl
        once false = refl
    by (before_it differ h) rest = ap (λ (r : Row). found_of r u) (put_before s ss t v differ h)
    by (behind_it differ h) rest =
        ap (λ (r : Row). found_of r u) (put_behind s ss t v differ h)
        ∙ ap (cond (bytes_eq s.0 u) (Some s.1)) rest
        ∙ turned (bytes_eq s.0 u) refl (bytes_eq t u) refl
      where
        turned : (a : Bool) → bytes_eq s.0 u ≡ a → (b : Bool) → bytes_eq t u ≡ b
            → cond a (Some s.1) (cond b (Some v) (found_of ss u)) ≡ cond b (Some v) (cond a (Some s.1) (found_of ss u))
        turned false one b other = refl
        turned true one false other = refl
        turned true one true other =
            absurd (true≢false (sym ((bytes_decides s.0 t).1 ((bytes_decides s.0 u).0 one ∙ sym ((bytes_decides t u).0 other))) ∙ differ))

pub found_value : (row : Row) (t : List ℕ) → value_of row t ≡ unwrap_or (found_of row t) 0
found_value [] t = refl
found_value (s ∷ ss) t = by (bytes_eq s.0 t) (found_value ss t)
  where
    by : (b : Bool) → value_of ss t ≡ unwrap_or (found_of ss t) 0 → cond b s.1 (value_of ss t) ≡ unwrap_or (cond b (Some s.1) (found_of ss t)) 0
    by true rest = refl
    by false rest = rest

-- how many names are set once one more is put in
pub count_put : (row : Row) (t : List ℕ) (v : ℕ) → found_of row t ≡ None → length (with_value row t v) ≡ suc (length row)
count_put [] t v none = refl
count_put (s ∷ ss) t v none = by (stands s.0 t) (count_put ss t v)
  where
    by : Stands s.0 t → (found_of ss t ≡ None → length (with_value ss t v) ≡ suc (length ss))
        → length (with_value (s ∷ ss) t v) ≡ suc (suc (length ss))
    by (is_it same) rest = absurd (none-some s.1 (sym none ∙ ap (λ b. cond b (Some s.1) (found_of ss t)) same))
    by (before_it differ h) rest = ap length (put_before s ss t v differ h)
    by (behind_it differ h) rest =
        ap length (put_behind s ss t v differ h)
        ∙ ap suc (rest (sym (ap (λ b. cond b (Some s.1) (found_of ss t)) differ) ∙ none))

-- two rows are the same where they are one
pub decides_texts : (x y : Row) → Decides (are_same x y) (x ≡ y)
decides_texts x y = (one x y, other x y)
  where
    one : (x y : Row) → are_same x y ≡ true → x ≡ y
    one [] [] h = refl
    one [] (y ∷ ys) h = absurd (true≢false (sym h))
    one (x ∷ xs) [] h = absurd (true≢false (sym h))
    one (x ∷ xs) (y ∷ ys) h =
        let parts = and_parts (bytes_eq x.0 y.0 && eqb x.1 y.1) (are_same xs ys) h in
        let heads = and_parts (bytes_eq x.0 y.0) (eqb x.1 y.1) parts.0 in
        ap₂ (λ (p : List ℕ × ℕ) (ps : Row). p ∷ ps)
        (ap₂ (λ (t : List ℕ) (v : ℕ). (t, v)) ((bytes_decides x.0 y.0).0 heads.0) (eqb-true x.1 y.1 heads.1)) (one xs ys parts.1)

    itself : (x : Row) → are_same x x ≡ true
    itself [] = refl
    itself (x ∷ xs) =
        and_from (bytes_eq x.0 x.0 && eqb x.1 x.1) (are_same xs xs)
        (and_from (bytes_eq x.0 x.0) (eqb x.1 x.1) (same_bytes x.0) (eq-eqb x.1 x.1 refl)) (itself xs)

    other : (x y : Row) → x ≡ y → are_same x y ≡ true
    other x y is = ap (are_same x) (sym is) ∙ itself x
