-- Names and keys of registers in maps and sets of the code.
use Rattle.std.proofs.Common.{◌≡◌, ℕ, Bool, true, false, ◌&&◌, ◌||◌, ◌==◌, List, [], ◌∷◌, ◌++◌, refl, sym, ◌∙◌, ap, ap₂, cond, true≢false}
use Rattle.std.specs.Prelude.{Option, Some}
use Rattle.std.specs.List.{list_any}
use Rattle.std.specs.Map.{lookup, KeepsOthers}
use Rattle.std.specs.Option.{option_map}
use Rattle.std.proofs.Math.Bool.{or_comm, or-false}
use Rattle.std.proofs.lemmas.Bool.{eqb-true, eq-eqb, cond-true, cond-false, and_from}
use Rattle.std.proofs.lemmas.List.Folds.{list_any-append}
use Rattle.indexmap.specs.IndexSet.{insert_key}
use Rattle.ls_text.specs.declared.name_id.NameId.{NameId}
use Rattle.typed_ir.proofs.Cases.{by_cases, and_left, and_right}
use Rattle.reg_transform.specs.declared.qualified_name.QualifiedName.{QualifiedName}
use Rattle.reg_transform.specs.declared.register_key.RegisterKey.{RegisterKey}
use Rattle.typed_ir.specs.Paths.{same_path}
use Rattle.reg_transform.specs.Registers.{RegisterName, is_same}
use Rattle.reg_transform.specs.Found.{Key, name_of, key_of, same_key, found, is_among}

-- ---- paths

pub same_is : (xs ys : List ℕ) → same_path xs ys ≡ true → xs ≡ ys
same_is [] [] h = refl
same_is [] (y ∷ ys) h = absurd (true≢false (sym h))
same_is (x ∷ xs) [] h = absurd (true≢false (sym h))
same_is (x ∷ xs) (y ∷ ys) h =
    ap₂ (λ (n : ℕ) (ns : List ℕ). n ∷ ns) (eqb-true x y (and_left (x == y) (same_path xs ys) h)) (same_is xs ys (and_right (x == y) (same_path xs ys) h))

-- ---- names and keys

-- a test that tells whether two are one
pub record Decides {S : Type 0} (same : S → S → Bool) : Type 0 where
  pub is : (x y : S) → same x y ≡ true → x ≡ y
  pub own : (x : S) → same x x ≡ true

abbrev name_with : ℕ → ℕ → RegisterName
name_with m n = record { in_module = m; name = n }

abbrev key_with : ℕ → RegisterName → Key
key_with n name = record { number = n; called = name }

pub names_decide : Decides is_same
names_decide = record {
  is = λ x y h. ap₂ name_with (eqb-true x.in_module y.in_module (and_left (x.in_module == y.in_module) (x.name == y.name) h))
      (eqb-true x.name y.name (and_right (x.in_module == y.in_module) (x.name == y.name) h));
  own = λ x. and_from (x.in_module == x.in_module) (x.name == x.name) (eq-eqb x.in_module x.in_module refl) (eq-eqb x.name x.name refl);
}

pub keys_decide : Decides same_key
keys_decide = record {
  is = λ x y h. ap₂ key_with (eqb-true x.number y.number (and_left (x.number == y.number) (is_same x.called y.called) h))
      (names_decide.is x.called y.called (and_right (x.number == y.number) (is_same x.called y.called) h));
  own = λ x. and_from (x.number == x.number) (is_same x.called x.called) (eq-eqb x.number x.number refl) (names_decide.own x.called);
}

pub swap : {S : Type 0} (same : S → S → Bool) → Decides same → (x y : S) → same x y ≡ same y x
swap same d x y = by_cases (same x y)
    (λ t. t ∙ sym (ap (λ z. same z x) (sym (d.is x y t)) ∙ d.own x))
    (λ f. f ∙ sym (not_same f))
  where
    not_same : same x y ≡ false → same y x ≡ false
    not_same f = by_cases (same y x)
        (λ t. absurd (true≢false (sym (ap (λ z. same z y) (sym (d.is y x t)) ∙ d.own y) ∙ f)))
        (λ g. g)

pub name_same : (x y : QualifiedName) → ((x.in_module.0 == y.in_module.0) && (x.name.0 == y.name.0)) ≡ is_same (name_of x) (name_of y)
name_same x y = refl

pub key_same : (x y : RegisterKey)
    → ((x.instance == y.instance) && ((x.called.in_module.0 == y.called.in_module.0) && (x.called.name.0 == y.called.name.0))) ≡ same_key (key_of x) (key_of y)
key_same x y = refl

-- ---- maps

pub looked_up : {K S V : Type 0} (view : K → S) (same : S → S → Bool) (key : S) (test : K → Bool) → ((k : K) → test k ≡ same (view k) key)
    → (es : List (K × V)) → lookup test es ≡ found view same es key
looked_up view same key test is [] = refl
looked_up {K} {S} {V} view same key test is (e ∷ es) =
    ap₂ (λ (b : Bool) (o : Option V). cond b (Some e.1) o) (is e.0) (looked_up view same key test is es)

-- one more entry
pub put_found : {K S V : Type 0} (E : K → K → Bool) (view : K → S) (same : S → S → Bool) → Decides same → ((x y : K) → E x y ≡ same (view x) (view y))
    → (old new : List (K × V)) (key : K) (v : V) → lookup (E key) new ≡ Some v → KeepsOthers E (E key) old new
    → (other : S) → found view same new other ≡ cond (same (view key) other) (Some v) (found view same old other)
unfolding KeepsOthers
put_found {K} {S} {V} E view same d is old new key v has keeps other = by_cases (same (view key) other)
    (λ t. sym (looked_up view same other (E key) (as_key key t) new) ∙ has ∙ sym (cond-true (same (view key) other) (Some v) (found view same old other) t))
    (λ f. sym (looked_up view same other test (λ k. refl) new)
    ∙ keeps test (λ x y t. sym (as_key x t y)) (λ k t. apart k t f)
    ∙ looked_up view same other test (λ k. refl) old
    ∙ sym (cond-false (same (view key) other) (Some v) (found view same old other) f))
  where
    test : K → Bool
    test k = same (view k) other

    as_key : (x : K) → same (view x) other ≡ true → (y : K) → E x y ≡ same (view y) other
    as_key x t y = is x y ∙ swap same d (view x) (view y) ∙ ap (same (view y)) (d.is (view x) other t)

    apart : (k : K) → E key k ≡ true → same (view key) other ≡ false → same (view k) other ≡ false
    apart k t f = ap (λ z. same z other) (sym (d.is (view key) (view k) (sym (is key k) ∙ t))) ∙ f

-- the number of what one more entry has
pub number_put : (b : Bool) (from : NameId) (rest : Option NameId)
    → option_map (λ (n : NameId). n.0) (cond b (Some from) rest) ≡ cond b (Some from.0) (option_map (λ (n : NameId). n.0) rest)
number_put true from rest = refl
number_put false from rest = refl

-- ---- sets

pub any_same : {A : Type 0} (f g : A → Bool) → ((x : A) → f x ≡ g x) → (xs : List A) → list_any f xs ≡ list_any g xs
any_same f g same [] = refl
any_same f g same (x ∷ xs) = ap₂ (λ (a b : Bool). a || b) (same x) (any_same f g same xs)

pub among : (E : QualifiedName → QualifiedName → Bool) → ((x y : QualifiedName) → E x y ≡ is_same (name_of x) (name_of y))
    → (ks : List QualifiedName) (k : QualifiedName) → list_any (E k) ks ≡ is_among ks (name_of k)
among E is ks k = any_same (E k) (λ x. is_same (name_of x) (name_of k)) (λ x. is k x ∙ swap is_same names_decide (name_of k) (name_of x)) ks

-- one more name
pub added : (E : QualifiedName → QualifiedName → Bool) → ((x y : QualifiedName) → E x y ≡ is_same (name_of x) (name_of y))
    → (ks : List QualifiedName) (k : QualifiedName) (n : RegisterName) → is_among (insert_key E ks k) n ≡ (is_same (name_of k) n || is_among ks n)
added E is ks k n = by_cases (list_any (E k) ks)
    (λ t. ap (λ zs. is_among zs n) (cond-true (list_any (E k) ks) ks (ks ++ k ∷ []) t) ∙ there t)
    (λ f. ap (λ zs. is_among zs n) (cond-false (list_any (E k) ks) ks (ks ++ k ∷ []) f)
    ∙ list_any-append (λ (x : QualifiedName). is_same (name_of x) n) ks (k ∷ [])
    ∙ ap (λ b. is_among ks n || b) (or-false (is_same (name_of k) n))
    ∙ or_comm (is_among ks n) (is_same (name_of k) n))
  where
    there : list_any (E k) ks ≡ true → is_among ks n ≡ (is_same (name_of k) n || is_among ks n)
    there t = by_cases (is_same (name_of k) n)
        (λ s. ap (is_among ks) (sym (names_decide.is (name_of k) n s)) ∙ sym (among E is ks k) ∙ t ∙ sym (ap (λ b. b || is_among ks n) s))
        (λ s. sym (ap (λ b. b || is_among ks n) s))
