-- What a name within a block is called, by a table in which the other names have the same texts.
use Rattle.std.proofs.Common.{◌≡◌, ℕ, ◌==◌, if◌then◌else◌, List, [], ◌∷◌, ◌++◌, length, map, reverse, Option, Some, None, codes, refl, sym, ◌∙◌, ap, ap₂}
use Rattle.std.proofs.lemmas.List.{length-map, map-append, reverse-append}
use Rattle.std.specs.Option.{option_map}
use Rattle.ls_text.specs.declared.name_id.NameId.{NameId}
use Rattle.gen_unroll.specs.Spoken.{index_text, own_text, prefix_in, spoken}
use Rattle.gen_unroll.specs.Steps.{LoopTurn, GenerateBlock}
use Rattle.elaborate.specs.Renaming.{SpellsSame, turn_as, block_as}

index_so : (f : NameId → NameId) (t : Option LoopTurn) → index_text (option_map (turn_as f) t) ≡ index_text t
index_so f None = refl
index_so f (Some t) = refl

own_so : (f : NameId → NameId) (texts others : List (List ℕ)) (b : GenerateBlock) → SpellsSame f texts others → own_text others (block_as f b) ≡ own_text texts b
own_so f texts others b same = ap₂ (λ (name index : List ℕ). name ++ (index ++ codes ".")) (same b.label.name) (index_so f b.turn)

prefix_so : (f : NameId → NameId) (texts others : List (List ℕ)) (bs : List GenerateBlock) (k : Option ℕ) → SpellsSame f texts others
    → prefix_in others (map (block_as f) bs) k ≡ prefix_in texts bs k
prefix_so f texts others [] None same = refl
prefix_so f texts others (b ∷ bs) None same = refl
prefix_so f texts others [] (Some k) same = refl
prefix_so f texts others (b ∷ bs) (Some k) same =
    ap₂ (λ (n : ℕ) (own : List ℕ). if k == n then prefix_in others (map (block_as f) bs) b.parent ++ own else prefix_in others (map (block_as f) bs) (Some k))
    (length-map bs (block_as f)) (own_so f texts others b same)
    ∙ ap₂ (λ (above behind : List ℕ). if k == length bs then above ++ own_text texts b else behind)
    (prefix_so f texts others bs b.parent same) (prefix_so f texts others bs (Some k) same)

-- the last block first
reverse_so : (f : NameId → NameId) (bs : List GenerateBlock) → reverse (map (block_as f) bs) ≡ map (block_as f) (reverse bs)
reverse_so f [] = refl
reverse_so f (b ∷ bs) =
    reverse-append (block_as f b ∷ []) (map (block_as f) bs)
    ∙ ap (λ (cs : List GenerateBlock). cs ++ block_as f b ∷ []) (reverse_so f bs)
    ∙ sym (map-append (block_as f) (reverse bs) (b ∷ []))
    ∙ ap (map (block_as f)) (sym (reverse-append (b ∷ []) bs))

pub same_spoken : (f : NameId → NameId) (texts others : List (List ℕ)) (bs : List GenerateBlock) (k : Option ℕ) (n : NameId) → SpellsSame f texts others
    → spoken others (map (block_as f) bs) k (f n).0 ≡ spoken texts bs k n.0
unfolding spoken
same_spoken f texts others bs k n same =
    ap₂ (λ (before name : List ℕ). before ++ name)
    (ap (λ (cs : List GenerateBlock). prefix_in others cs k) (reverse_so f bs) ∙ prefix_so f texts others (reverse bs) k same)
    (same n)
