-- What a list has from a place on.
use Rattle.std.proofs.Common.{◌≡◌, ℕ, ◌+◌, ◌<◌, ◌≤◌, List, [], ◌∷◌, map, length, get_or, drop, ◌∙◌, ap}
use Rattle.std.proofs.lemmas.List.{drop-map, drop_all}
use Rattle.typed_ir.proofs.Lists.{drop_read}

-- an element, viewed, is the first one from its place on
pub from_place_viewed : {A B C : Type 0} (F : List B → C) (view : A → B) (xs : List A) (i : ℕ) (x : A) → i < length xs → x ≡ get_or xs i x
    → F (drop i (map view xs)) ≡ F (view x ∷ map view (drop (i + 1) xs))
from_place_viewed F view xs i x h is = ap F (drop-map view i xs ∙ ap (map view) (drop_read xs i x h is))

-- nothing stands past the end
pub past_end : {A B C : Type 0} (F : List B → C) (view : A → B) (xs : List A) (i : ℕ) → length xs ≤ i → F (drop i (map view xs)) ≡ F []
past_end F view xs i h = ap F (drop-map view i xs ∙ ap (map view) (drop_all i xs h))
