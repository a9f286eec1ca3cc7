-- Parts and items stand for the same by a table of words that has grown.
use Rattle.std.proofs.Common.{◌≡◌, ℕ, suc, ◌-◌, List, [], ◌∷◌, ◌++◌, length, map, take, drop, refl, sym, ap, subst, ◌∙◌, arith}
use Rattle.std.specs.List.{All}
use Rattle.std.proofs.lemmas.List.{length-map, map-append, take-map, drop-map}
use Rattle.std.proofs.lemmas.List.Elements.{All-append, All-map, All-take, All-drop}
use Rattle.ls_text.specs.Texts.{Grows}
use Rattle.ls_text.proofs.Growth.{grown_id, grown_text}
use Rattle.verilog_pre.specs.Expansions.{body_items}
use Rattle.verilog_pre.specs.Parts.{Use, Read}
use Rattle.verilog_pre.specs.Views.{part_of, item_of, parts_of, body_work, IsListed, IsListedItem}
use Rattle.verilog_pre.specs.declared.part.Part as code
use Rattle.verilog_pre.specs.declared.part.Part.TheVariants as part
use Rattle.verilog_pre.specs.declared.item.Item as work
use Rattle.verilog_pre.specs.declared.item.Item.TheVariants as item
use Rattle.verilog_pre.specs.declared.macro_body.Macro.{Macro}
use Rattle.verilog_pre.specs.declared.macros.Macros.{Macros}

same_part : (old new : List (List ℕ)) → Grows old new → (p : code.Part) → IsListed (length old) p → part_of new p ≡ part_of old p
same_part old new g (part.Text s) is = refl
same_part old new g (part.Use id) is = ap Use (grown_text old new id.0 g is)
same_part old new g part.Open is = refl

listed_more : (old new : List (List ℕ)) → Grows old new → (p : code.Part) → IsListed (length old) p → IsListed (length new) p
listed_more old new g (part.Text s) is = tt
listed_more old new g (part.Use id) is = grown_id old new id.0 g is
listed_more old new g part.Open is = tt

pub same_parts : (old new : List (List ℕ)) → Grows old new → (ps : List code.Part) → All (IsListed (length old)) ps → map (part_of new) ps ≡ map (part_of old) ps
same_parts old new g [] all = refl
same_parts old new g (p ∷ ps) all =
    ap (λ q. q ∷ map (part_of new) ps) (same_part old new g p (all 0 p (omega arith)))
    ∙ ap (λ qs. part_of old p ∷ qs) (same_parts old new g ps (λ k d within. all (suc k) d (omega arith)))

pub still_listed : (old new : List (List ℕ)) → Grows old new → (ps : List code.Part) → All (IsListed (length old)) ps → All (IsListed (length new)) ps
still_listed old new g ps all = λ k d within. listed_more old new g _ (all k d within)

pub one_more : (words : List (List ℕ)) (old new : List code.Part) (p : code.Part) → new ≡ old ++ p ∷ [] → map (part_of words) new ≡ map (part_of words) old ++ part_of words p ∷ []
one_more words old new p is = ap (map (part_of words)) is ∙ map-append (part_of words) old (p ∷ [])

pub part_count : (m : Macros) → length (parts_of m) ≡ length m.parts.items
unfolding parts_of
part_count m = length-map m.parts.items (part_of m.words)

-- ---- the body of a macro before the work

items_viewed : (words : List (List ℕ)) (ps : List code.Part) → map (item_of words) (map item.Part ps) ≡ map Read (map (part_of words) ps)
items_viewed words [] = refl
items_viewed words (p ∷ ps) = ap (λ is. Read (part_of words p) ∷ is) (items_viewed words ps)

pub body_viewed : (words : List (List ℕ)) (parts : List code.Part) (m : Macro) (now rest : List work.Item) → now ≡ body_work parts m ++ rest
    → map (item_of words) now ≡ body_items (map (part_of words) parts) m ++ map (item_of words) rest
body_viewed words parts m now rest is =
    ap (map (item_of words)) is
    ∙ map-append (item_of words) (body_work parts m) rest
    ∙ ap (λ xs. xs ++ map (item_of words) rest)
    (items_viewed words (take (m.last - m.first) (drop m.first parts))
    ∙ ap (map Read) (sym (take-map (part_of words) (m.last - m.first) (drop m.first parts)))
    ∙ ap (λ ps. map Read (take (m.last - m.first) ps)) (sym (drop-map (part_of words) m.first parts)))

pub body_listed : (n : ℕ) (parts : List code.Part) (m : Macro) (now rest : List work.Item) → now ≡ body_work parts m ++ rest
    → All (IsListed n) parts → All (IsListedItem n) rest → All (IsListedItem n) now
body_listed n parts m now rest is all more =
    subst (All (IsListedItem n)) (sym is)
    (All-append (IsListedItem n) (body_work parts m) rest
    (All-map (IsListedItem n) item.Part (take (m.last - m.first) (drop m.first parts))
    (All-take (IsListed n) (m.last - m.first) (drop m.first parts) (All-drop (IsListed n) m.first parts all))) more)
