-- Lists and choices of which each part is moved.
use Rattle.std.proofs.Common.{◌≡◌, Bool, true, false, if◌then◌else◌, List, ◌++◌, map, sym, ◌∙◌, ap₂}
use Rattle.std.proofs.lemmas.List.{map-append}

pub append_so : {A : Type 0} (moved : A → A) (ps qs xs ys : List A) → ps ≡ map moved xs → qs ≡ map moved ys → (ps ++ qs) ≡ map moved (xs ++ ys)
append_so {A} moved ps qs xs ys first rest = ap₂ (λ (a b : List A). a ++ b) first rest ∙ sym (map-append moved xs ys)

-- a test that comes out alike
pub if_moved : {A B : Type 0} (f : A → B) (b : Bool) (p q : A) (r s : B) → r ≡ f p → s ≡ f q → (if b then r else s) ≡ f (if b then p else q)
if_moved f true p q r s first second = first
if_moved f false p q r s first second = second
