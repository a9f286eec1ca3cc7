-- Names that are below a bound.
use Rattle.std.proofs.Common.{◌≡◌, ◌<◌, ℕ, List, [], ◌∷◌, ◌++◌, All, sym, subst}
use Rattle.std.proofs.lemmas.List.Elements.{All-nil, All-cons, All-append}
use Rattle.ls_text.specs.declared.name_id.NameId.{NameId}

pub record IsWithin (n : ℕ) (names : List NameId) : Type 0 where
  pub all : All (λ (id : NameId). id.0 < n) names

pub no_name : {n : ℕ} → IsWithin n []
no_name {n} = record { all = All-nil (λ (id : NameId). id.0 < n) }

pub one_more : {n : ℕ} {x : NameId} {xs : List NameId} → x.0 < n → IsWithin n xs → IsWithin n (x ∷ xs)
one_more {n} {x} {xs} h k = record { all = All-cons (λ (id : NameId). id.0 < n) x xs h k.all }

pub one_name : {n : ℕ} {x : NameId} → x.0 < n → IsWithin n (x ∷ [])
one_name h = one_more h no_name

infixr 10 ◌⊕◌
pub ◌⊕◌ : {n : ℕ} {xs ys : List NameId} → IsWithin n xs → IsWithin n ys → IsWithin n (xs ++ ys)
◌⊕◌ {n} {xs} {ys} h k = record { all = All-append (λ (id : NameId). id.0 < n) xs ys h.all k.all }

pub are : {n : ℕ} {xs ys : List NameId} → xs ≡ ys → IsWithin n ys → IsWithin n xs
are {n} is h = subst (IsWithin n) (sym is) h
