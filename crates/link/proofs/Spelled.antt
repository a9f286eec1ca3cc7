-- Names of instances, signals and nodes, piece by piece.
use Rattle.std.proofs.Common.{◌≡◌, ℕ, List, [], ◌∷◌, ◌++◌, map, length, All, ◌∙◌, ap, ap₂}
use Rattle.std.proofs.lemmas.List.{map_push}
use Rattle.ls_text.specs.declared.name_id.NameId.{NameId}
use Rattle.ls_text.specs.Texts.{Grows, IsIdOf}
use Rattle.ls_text.proofs.Growth.{IsKnown, texts_grown}
use Rattle.ls_text.proofs.Pieces.{two_pieces}
use Rattle.ls_text.specs.TextViews.{text_of}

-- ---- pieces behind one another

pub two_then_one : (old a b c one two new : List ℕ) → one ≡ old ++ a → two ≡ one ++ b → new ≡ two ++ c → new ≡ old ++ ((a ++ b) ++ c)
two_then_one old a b c one two new x y z = two_pieces old (a ++ b) c two new (two_pieces old a b one two x y) z

-- ---- names of a table that grows

pub texts_more : (old new : List (List ℕ)) (ids next : List NameId) (id : NameId) (text : List ℕ) → Grows old new → All (IsKnown (length old)) ids
    → next ≡ ids ++ id ∷ [] → IsIdOf new text id.0 → map (text_of new) next ≡ map (text_of old) ids ++ text ∷ []
texts_more old new ids next id text g all is known =
    ap (map (text_of new)) is
    ∙ map_push (text_of new) ids id
    ∙ ap₂ (λ xs x. xs ++ x ∷ []) (texts_grown old new ids g all) known.same
