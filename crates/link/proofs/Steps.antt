-- Loops over a list, part by part.
use Rattle.std.proofs.Common.{◌≡◌, ℕ, ◌+◌, ◌<◌, List, [], ◌∷◌, ◌++◌, map, length, get_or, drop, append_assoc, sym, ◌∙◌, ap}
use Rattle.std.proofs.lemmas.List.{map-append}
use Rattle.typed_ir.proofs.Lists.{drop_read}

-- F is what the list gives from x on, G what it gives after x
pub stepped : {X A : Type 0} (F G : List X → List A) (xs : List X) (k : ℕ) (x : X) (part mid new whole : List A)
    → k < length xs → x ≡ get_or xs k x
    → F (x ∷ drop (k + 1) xs) ≡ part ++ G (drop (k + 1) xs)
    → new ≡ mid ++ part → mid ++ F (drop k xs) ≡ whole → new ++ G (drop (k + 1) xs) ≡ whole
stepped F G xs k x part mid new whole h is cut new_is left =
    ap (λ zs. zs ++ G (drop (k + 1) xs)) new_is
    ∙ append_assoc mid part (G (drop (k + 1) xs))
    ∙ ap (λ zs. mid ++ zs) (sym (ap F (drop_read xs k x h is) ∙ cut))
    ∙ left

-- one value pushed
pub pushed : {X A : Type 0} (f : X → A) (old new : List X) (x : X) (y : A) → new ≡ old ++ x ∷ [] → f x ≡ y → map f new ≡ map f old ++ y ∷ []
pushed f old new x y e is = ap (map f) e ∙ map-append f old (x ∷ []) ∙ ap (λ z. map f old ++ z ∷ []) is
