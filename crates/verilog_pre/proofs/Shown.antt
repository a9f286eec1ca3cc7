-- The word that a fault shows.
use Rattle.std.proofs.Common.{◌≡◌, ℕ, List, [], ◌∷◌, map, ap}
use Rattle.ls_text.specs.Texts.{IsIdOf, text_at}
use Rattle.ls_text.specs.declared.name_id.NameId.{NameId}

pub one_word : (names : List (List ℕ)) (id : NameId) (word : List ℕ) → IsIdOf names word id.0 → map (λ (n : NameId). text_at names n.0) (id ∷ []) ≡ word ∷ []
one_word names id word is = ap (λ w. w ∷ []) is.same
