-- Lists that are the same, taken apart and joined, and what a function makes of their elements.
use Rattle.std.proofs.Common.{◌≡◌, ℕ, List, [], ◌∷◌, ◌++◌, map, refl, sym, ap, ap₂, subst, ◌∙◌, append-nil, ◌<◌, length, get_or}
use Rattle.std.proofs.lemmas.List.{append_cancel_left, get_or_default}

-- a list that has an element isn't empty
pub none_is_some : {A P : Type 0} (x : A) (xs : List A) → [] ≡ x ∷ xs → P
none_is_some {A} x xs h = absurd (subst is_none h tt)
  where
    is_none : List A → Type 0
    is_none [] = Unit {0}
    is_none (y ∷ ys) = ⊥

pub some_is_none : {A P : Type 0} (x : A) (xs : List A) → x ∷ xs ≡ [] → P
some_is_none x xs h = none_is_some x xs (sym h)

pub same_first : {A : Type 0} (x y : A) (xs ys : List A) → x ∷ xs ≡ y ∷ ys → x ≡ y
same_first {A} x y xs ys h = ap first_or h
  where
    first_or : List A → A
    first_or [] = x
    first_or (z ∷ zs) = z

pub same_others : {A : Type 0} (x y : A) (xs ys : List A) → x ∷ xs ≡ y ∷ ys → xs ≡ ys
same_others {A} x y xs ys h = ap others h
  where
    others : List A → List A
    others [] = []
    others (z ∷ zs) = zs

-- the first number of a list, which is 0 where there is none, and the others
abbrev pub first_of : List ℕ → ℕ
first_of [] = 0
first_of (x ∷ xs) = x

abbrev pub rest_of : List ℕ → List ℕ
rest_of [] = []
rest_of (x ∷ xs) = xs

-- lists that are joined of the same parts
pub joined_so : {A : Type 0} {ps qs xs ys : List A} → ps ≡ xs → qs ≡ ys → ps ++ qs ≡ xs ++ ys
joined_so {A} first rest = ap₂ (λ (a b : List A). a ++ b) first rest

-- two functions that are the same at each element
pub same_map : {A B : Type 0} (f g : A → B) → ((x : A) → f x ≡ g x) → (xs : List A) → map f xs ≡ map g xs
same_map f g same [] = refl
same_map {A} {B} f g same (x ∷ xs) = ap₂ (λ (y : B) (ys : List B). y ∷ ys) (same x) (same_map f g same xs)

-- what a function makes of moved elements
pub map_so : {A B : Type 0} (f : A → B) (moved : A → A) (made : B → B) → ((x : A) → f (moved x) ≡ made (f x)) → (xs : List A)
    → map f (map moved xs) ≡ map made (map f xs)
map_so f moved made is [] = refl
map_so {A} {B} f moved made is (x ∷ xs) = ap₂ (λ (y : B) (ys : List B). y ∷ ys) (is x) (map_so f moved made is xs)

-- nothing stands behind a list that stays as it is
pub none_behind : {A : Type 0} (xs ys : List A) → xs ++ ys ≡ xs → ys ≡ []
none_behind xs ys e = append_cancel_left xs ys [] (e ∙ sym (append-nil xs))

-- what is read twice is the same
pub get_or_one : {A : Type 0} (xs : List A) (i : ℕ) (x y : A) → i < length xs → x ≡ get_or xs i x → y ≡ get_or xs i y → x ≡ y
get_or_one xs i x y h is also = is ∙ get_or_default xs i x y h ∙ sym also
