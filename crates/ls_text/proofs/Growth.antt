-- A table of names that has grown gives the same texts for its old ids.
use Rattle.std.proofs.Common.{◌≡◌, ℕ, ◌<◌, ◌≤◌, List, [], ◌∷◌, ◌++◌, map, length, All, refl, sym, ap, ap₂, subst, ◌∙◌, append_assoc, append-nil, arith}
use Rattle.std.proofs.lemmas.List.{length-append, get_or_append_left}
use Rattle.std.proofs.lemmas.List.Elements.{All-head, All-tail, All-push}
use Rattle.ls_text.specs.declared.name_id.NameId.{NameId}
use Rattle.ls_text.specs.Texts.{Grows, IsIdOf, text_at}
use Rattle.ls_text.specs.TextViews.{text_of}

-- a table has grown from itself
pub grows_none : (texts : List (List ℕ)) → Grows texts texts
grows_none texts = record { more = []; begins = sym (append-nil texts) }

-- growth after growth is growth
pub grows_on : (a b c : List (List ℕ)) → Grows a b → Grows b c → Grows a c
grows_on a b c g h = record {
  more = g.more ++ h.more;
  begins = h.begins ∙ ap (λ t. t ++ h.more) g.begins ∙ append_assoc a g.more h.more;
}

-- a grown table is no shorter
pub grown_length : (old new : List (List ℕ)) → Grows old new → length old ≤ length new
grown_length old new g = omega (arith, ap length g.begins, length-append old g.more)

-- an id of the earlier table is one of the later
pub grown_id : (old new : List (List ℕ)) (id : ℕ) → Grows old new → id < length old → id < length new
grown_id old new id g within = omega (arith, within, grown_length old new g)

-- and keeps its text
pub grown_text : (old new : List (List ℕ)) (id : ℕ) → Grows old new → id < length old → text_at new id ≡ text_at old id
grown_text old new id g within = ap (λ t. text_at t id) g.begins ∙ get_or_append_left old g.more [] id within

-- ---- names of a table that grows

-- the table has the name
abbrev pub IsKnown : ℕ → NameId → Type 0
IsKnown count n = n.0 < count

pub known_grown : (old new : List (List ℕ)) (ns : List NameId) → Grows old new → All (IsKnown (length old)) ns → All (IsKnown (length new)) ns
known_grown old new ns g all = λ k d within. grown_id old new _ g (all k d within)

pub texts_grown : (old new : List (List ℕ)) (ns : List NameId) → Grows old new → All (IsKnown (length old)) ns
    → map (text_of new) ns ≡ map (text_of old) ns
texts_grown old new [] g all = refl
texts_grown old new (n ∷ ns) g all =
    ap₂ (λ (t : List ℕ) (ts : List (List ℕ)). t ∷ ts) (grown_text old new n.0 g (All-head (IsKnown (length old)) n ns all))
    (texts_grown old new ns g (All-tail (IsKnown (length old)) n ns all))

-- one name more
pub known_more : (old new : List (List ℕ)) (before now : List NameId) (n : NameId) (text : List ℕ) → Grows old new → All (IsKnown (length old)) before
    → now ≡ before ++ n ∷ [] → IsIdOf new text n.0 → All (IsKnown (length new)) now
known_more old new before now n text g all is id =
    subst (All (IsKnown (length new))) (sym is) (All-push (IsKnown (length new)) before n (known_grown old new before g all) id.within)
