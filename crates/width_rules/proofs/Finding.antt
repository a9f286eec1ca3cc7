-- Names in a map of the code.
use Rattle.std.proofs.Common.{◌≡◌, ℕ, Bool, true, false, ◌==◌, ◌||◌, List, [], ◌∷◌, refl, sym, ◌∙◌, ap, ap₂, cond, true≢false}
use Rattle.std.specs.Prelude.{Option, Some, None, Result, Ok, Err, OnOk, OnErr}
use Rattle.std.specs.Map.{lookup}
use Rattle.std.proofs.Math.Path.{fun_ext}
use Rattle.std.proofs.lemmas.Bool.{eqb-true, eq-eqb, cond-true, cond-false, and_from}
use Rattle.std.proofs.lemmas.Option.{none-some}
use Rattle.indexmap.specs.IndexMap.{insert_entry}
use Rattle.ls_text.specs.declared.name_id.NameId.{NameId}
use Rattle.typed_ir.proofs.Cases.{by_cases, and_left, and_right, left_or, right_or, turned}
use Rattle.width_rules.specs.declared.entry.Entry.{Entry}
use Rattle.width_rules.specs.declared.covered.Covered.{Covered}
use Rattle.width_rules.specs.declared.covered.Covered.TheVariants as covered
use Rattle.width_rules.specs.Scopes.{Scope, Meaning, Unknown, with_name}
use Rattle.width_rules.specs.Found.{meaning_of, found, is_held, are_held}

abbrev pub meaning_or : Option Entry → Meaning
meaning_or None = Unknown
meaning_or (Some x) = meaning_of x

chosen : (b : Bool) (x : Entry) (o : Option Entry) → meaning_or (cond b (Some x) o) ≡ cond b (meaning_of x) (meaning_or o)
chosen true x o = refl
chosen false x o = refl

-- what is looked up is what is found
pub looked_up : (name : ℕ) (test : NameId → Bool) → ((k : NameId) → test k ≡ (k.0 == name)) → (es : List (NameId × Entry)) → meaning_or (lookup test es) ≡ found es name
looked_up name test same [] = refl
looked_up name test same (e ∷ es) =
    chosen (test e.0) e.1 (lookup test es) ∙ ap₂ (λ (b : Bool) (m : Meaning). cond b (meaning_of e.1) m) (same e.0) (looked_up name test same es)

twice : (b : Bool) (x y z : Meaning) → cond b x z ≡ cond b x (cond b y z)
twice true x y z = refl
twice false x y z = refl

swapped : (b c : Bool) (x y z : Meaning) → (b ≡ true → c ≡ false) → cond b y (cond c x z) ≡ cond c x (cond b y z)
swapped true true x y z h = absurd (true≢false (h refl))
swapped true false x y z h = refl
swapped false true x y z h = refl
swapped false false x y z h = refl

-- one more entry
pub inserted : (E : NameId → NameId → Bool) → ((x y : NameId) → E x y ≡ (x.0 == y.0)) → (es : List (NameId × Entry)) (k : NameId) (v : Entry) (other : ℕ)
    → found (insert_entry E es k v) other ≡ cond (k.0 == other) (meaning_of v) (found es other)
inserted E same [] k v other = refl
inserted E same (e ∷ es) k v other = by_cases (E k e.0)
    (λ t. ap (λ (xs : List (NameId × Entry)). found xs other) (cond-true (E k e.0) ((e.0, v) ∷ es) (e ∷ insert_entry E es k v) t)
    ∙ twice (e.0.0 == other) (meaning_of v) (meaning_of e.1) (found es other)
    ∙ ap (λ (n : ℕ). cond (n == other) (meaning_of v) (cond (e.0.0 == other) (meaning_of e.1) (found es other))) (sym (equal t)))
    (λ f. ap (λ (xs : List (NameId × Entry)). found xs other) (cond-false (E k e.0) ((e.0, v) ∷ es) (e ∷ insert_entry E es k v) f)
    ∙ ap (cond (e.0.0 == other) (meaning_of e.1)) (inserted E same es k v other)
    ∙ swapped (e.0.0 == other) (k.0 == other) (meaning_of v) (meaning_of e.1) (found es other) (apart f))
  where
    equal : E k e.0 ≡ true → k.0 ≡ e.0.0
    equal t = eqb-true k.0 e.0.0 (sym (same k e.0) ∙ t)

    apart : E k e.0 ≡ false → (e.0.0 == other) ≡ true → (k.0 == other) ≡ false
    apart f t = by_cases (k.0 == other)
        (λ u. absurd (true≢false (sym (same k e.0 ∙ eq-eqb k.0 e.0.0 (eqb-true k.0 other u ∙ sym (eqb-true e.0.0 other t))) ∙ f)))
        (λ g. g)

-- ---- as a whole

-- one more entry is one more declaration
pub declared : (E : NameId → NameId → Bool) → ((x y : NameId) → E x y ≡ (x.0 == y.0)) → (es : List (NameId × Entry)) (k : NameId) (v : Entry)
    → found (insert_entry E es k v) ≡ with_name k.0 (meaning_of v) (found es)
declared E same es k v = fun_ext (λ (other : ℕ). inserted E same es k v other)

-- a declaration that is taken back
pub taken_back : (name : ℕ) (before now : Meaning) (scope : Scope) → before ≡ scope name → with_name name before (with_name name now scope) ≡ scope
taken_back name before now scope is = fun_ext (λ (other : ℕ). by_cases (name == other)
    (λ t. cond-true (name == other) before (with_name name now scope other) t ∙ is ∙ ap scope (eqb-true name other t))
    (λ f. cond-false (name == other) before (with_name name now scope other) f ∙ cond-false (name == other) now (scope other) f))

-- ---- names that have an entry

pub held_new : (E : NameId → NameId → Bool) → ((x y : NameId) → E x y ≡ (x.0 == y.0)) → (es : List (NameId × Entry)) (k : NameId) (v : Entry)
    → is_held (insert_entry E es k v) k.0 ≡ true
held_new E same [] k v = left_or (k.0 == k.0) false (eq-eqb k.0 k.0 refl)
held_new E same (e ∷ es) k v = by_cases (E k e.0)
    (λ t. ap (λ (xs : List (NameId × Entry)). is_held xs k.0) (cond-true (E k e.0) ((e.0, v) ∷ es) (e ∷ insert_entry E es k v) t)
    ∙ left_or (e.0.0 == k.0) (is_held es k.0) (turned e.0.0 k.0 ∙ sym (same k e.0) ∙ t))
    (λ f. ap (λ (xs : List (NameId × Entry)). is_held xs k.0) (cond-false (E k e.0) ((e.0, v) ∷ es) (e ∷ insert_entry E es k v) f)
    ∙ right_or (e.0.0 == k.0) (is_held (insert_entry E es k v) k.0) (held_new E same es k v))

-- an entry stays where its name is declared again
held_more : (E : NameId → NameId → Bool) (es : List (NameId × Entry)) (k : NameId) (v : Entry) (name : ℕ)
    → is_held es name ≡ true → is_held (insert_entry E es k v) name ≡ true
held_more E [] k v name h = absurd (true≢false (sym h))
held_more E (e ∷ es) k v name h = by_cases (E k e.0)
    (λ t. ap (λ (xs : List (NameId × Entry)). is_held xs name) (cond-true (E k e.0) ((e.0, v) ∷ es) (e ∷ insert_entry E es k v) t) ∙ h)
    (λ f. ap (λ (xs : List (NameId × Entry)). is_held xs name) (cond-false (E k e.0) ((e.0, v) ∷ es) (e ∷ insert_entry E es k v) f)
    ∙ by_cases (e.0.0 == name)
    (λ y. left_or (e.0.0 == name) (is_held (insert_entry E es k v) name) y)
    (λ n. right_or (e.0.0 == name) (is_held (insert_entry E es k v) name)
    (held_more E es k v name (sym (ap (λ (b : Bool). b || is_held es name) n) ∙ h))))

pub all_held_more : (E : NameId → NameId → Bool) (es : List (NameId × Entry)) (k : NameId) (v : Entry) (cs : List Covered)
    → are_held es cs ≡ true → are_held (insert_entry E es k v) cs ≡ true
all_held_more E es k v [] h = refl
all_held_more E es k v (covered.Block ∷ cs) h = all_held_more E es k v cs h
all_held_more E es k v (covered.Name n x ∷ cs) h =
    and_from (is_held (insert_entry E es k v) n.0) (are_held (insert_entry E es k v) cs)
    (held_more E es k v n.0 (and_left (is_held es n.0) (are_held es cs) h)) (all_held_more E es k v cs (and_right (is_held es n.0) (are_held es cs) h))

-- a declaration in a block: its name is held too
pub held_in_block : (E : NameId → NameId → Bool) → ((x y : NameId) → E x y ≡ (x.0 == y.0)) → (es : List (NameId × Entry)) (k : NameId) (v before : Entry) (cs : List Covered)
    → are_held es cs ≡ true → are_held (insert_entry E es k v) (covered.Name k before ∷ cs) ≡ true
held_in_block E same es k v before cs h =
    and_from (is_held (insert_entry E es k v) k.0) (are_held (insert_entry E es k v) cs) (held_new E same es k v) (all_held_more E es k v cs h)

-- what has an entry is looked up
pub not_held : (name : ℕ) (test : NameId → Bool) → ((k : NameId) → test k ≡ (k.0 == name)) → (es : List (NameId × Entry)) → lookup test es ≡ None → is_held es name ≡ false
not_held name test same [] h = refl
not_held name test same (e ∷ es) h = by_cases (test e.0)
    (λ t. absurd (none-some _ (sym h ∙ cond-true (test e.0) (Some e.1) (lookup test es) t)))
    (λ f. ap (λ (b : Bool). b || is_held es name) (sym (same e.0) ∙ f)
    ∙ not_held name test same es (sym (cond-false (test e.0) (Some e.1) (lookup test es) f) ∙ h))

-- ---- changes that may fail

-- after an insertion
pub held_after : {V A : Type 0} (E : NameId → NameId → Bool) (r : Result V A) (old new : List (NameId × Entry)) (k : NameId) (x : Entry) (cs : List Covered)
    → OnOk r (new ≡ insert_entry E old k x) → OnErr r (new ≡ old) → are_held old cs ≡ true → are_held new cs ≡ true
held_after E (Ok v) old new k x cs is same h = ap (λ (es : List (NameId × Entry)). are_held es cs) is ∙ all_held_more E old k x cs h
held_after E (Err a) old new k x cs is same h = ap (λ (es : List (NameId × Entry)). are_held es cs) same ∙ h
