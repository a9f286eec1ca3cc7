-- One more element of a list that is walked from its head.
use Rattle.std.proofs.Common.{◌≡◌, ◌<◌, ◌≤◌, ℕ, ◌+◌, List, [], ◌∷◌, ◌++◌, map, drop, length, get_or, append-nil, sym, ◌∙◌, ap, subst}
use Rattle.std.proofs.lemmas.List.{at_drop_all}
use Rattle.typed_ir.proofs.Lists.{drop_read}
use Rattle.ls_text.specs.declared.fault.Fault.{Fault}
use Rattle.ls_text.specs.declared.refusal.Refusal.{Refusal}
use Rattle.width_rules.specs.Faults.{IsFirst}
use Rattle.width_rules.proofs.Firsts.{earlier}

-- what is left from it on, as it is seen
pub head_is : {A B : Type 0} (view : A → B) (xs : List A) (k : ℕ) (x : A) → k < length xs → x ≡ get_or xs k x
    → map view (drop k xs) ≡ view x ∷ map view (drop (k + 1) xs)
head_is view xs k x h is = ap (map view) (drop_read xs k x h is)

-- where it has no fault, what is left after it has those of what was left
pub ahead : {A B : Type 0} (view : A → B) (all : List B → List Fault) (one : B → List Fault) → ((y : B) (ys : List B) → all (y ∷ ys) ≡ one y ++ all ys)
    → (xs : List A) (k : ℕ) (x : A) → k < length xs → x ≡ get_or xs k x → one (view x) ≡ []
    → all (map view (drop (k + 1) xs)) ≡ all (map view (drop k xs))
ahead view all one step xs k x h is none =
    ap (λ (zs : List Fault). zs ++ all (map view (drop (k + 1) xs))) (sym none)
    ∙ sym (step (view x) (map view (drop (k + 1) xs)))
    ∙ ap all (sym (head_is view xs k x h is))

-- its first fault is that of what is left
pub refused_here : {A B : Type 0} (view : A → B) (all : List B → List Fault) (one : B → List Fault) → ((y : B) (ys : List B) → all (y ∷ ys) ≡ one y ++ all ys)
    → (xs : List A) (k : ℕ) (x : A) (r : Refusal) → k < length xs → x ≡ get_or xs k x → IsFirst (one (view x)) r
    → IsFirst (all (map view (drop k xs))) r
refused_here {A} {B} view all one step xs k x r h is first =
    subst (λ (ys : List B). IsFirst (all ys) r) (sym (head_is view xs k x h is))
    (subst (λ (fs : List Fault). IsFirst fs r) (sym (step (view x) (map view (drop (k + 1) xs))))
    (earlier (one (view x)) (all (map view (drop (k + 1) xs))) r first))

-- ---- lists that are made

-- all are made
pub made_all : {A B C D : Type 0} (view : B → D) (make : C → D) (see : A → C) (done : List B) (xs : List A) (k : ℕ) → length xs ≤ k
    → map view done ++ map make (map see (drop k xs)) ≡ map make (map see xs) → map view done ≡ map make (map see xs)
made_all {A} view make see done xs k h kept =
    sym (append-nil (map view done))
    ∙ sym (at_drop_all (λ (ys : List A). map view done ++ map make (map see ys)) xs k h) ∙ kept
