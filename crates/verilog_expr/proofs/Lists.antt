-- A list that a loop makes, item by item.
use Rattle.std.proofs.Common.{◌≡◌, List, [], ◌∷◌, ◌++◌, subst, sym, ap, ◌∙◌, append_assoc}
use Rattle.std.proofs.lemmas.List.{append-nil}
use Rattle.verilog_lex.specs.declared.token.Token.{Token}

-- whatever further items stand here, all the items so far and those are the list
abbrev pub Grows : {A : Type 0} → (List A → List Token → List Token → Type 0) → (List A → List Token → Type 0) → List A → List Token → Type 0
Grows {A} Further Whole all s = (xs : List A) (r : List Token) → Further xs s r → Whole (all ++ xs) r

pub grows_more : {A : Type 0} (Further : List A → List Token → List Token → Type 0) (Whole : List A → List Token → Type 0) (all new : List A) (x : A) (s t : List Token) → Grows Further Whole all s → new ≡ all ++ x ∷ []
    → ((xs : List A) (r : List Token) → Further xs t r → Further (x ∷ xs) s r) → Grows Further Whole new t
grows_more Further Whole all new x s t before is one xs r h =
    subst (λ z. Whole z r) (sym (ap (λ z. z ++ xs) is ∙ append_assoc all (x ∷ []) xs)) (before (x ∷ xs) r (one xs r h))

pub grows_end : {A : Type 0} (Further : List A → List Token → List Token → Type 0) (Whole : List A → List Token → Type 0) (all : List A) (s : List Token) → Grows Further Whole all s → Further [] s s → Whole all s
grows_end Further Whole all s before last = subst (λ z. Whole z s) (append-nil all) (before [] s last)
