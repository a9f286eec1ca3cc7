-- What stands within generate blocks is called alike, wherever its tokens stand (IEEE Std 1364-2005, 12.4 and 12.5).
use Rattle.std.proofs.Common.{◌≡◌, ℕ, ◌==◌, if◌then◌else◌, List, [], ◌∷◌, ◌++◌, length, map, reverse, codes, Option, Some, None, refl, sym, ◌∙◌, ap, ap₂}
use Rattle.std.specs.Option.{option_map}
use Rattle.std.proofs.lemmas.List.{length-map, map-append, reverse-append}
use Rattle.ls_text.specs.Texts.{text_at}
use Rattle.ls_text.specs.declared.name_id.NameId.{NameId}
use Rattle.verilog_ast.specs.declared.identifier.Identifier.{Identifier}
use Rattle.verilog_ast.specs.Items as i
use Rattle.verilog_ast.specs.Items.{ModuleItem}
use Rattle.gen_unroll.specs.Declarations.{declared_name, declared_reg_name}
use Rattle.gen_unroll.specs.Reaches.{innermost, blocks_around}
use Rattle.gen_unroll.specs.Spoken.{index_text, own_text, prefix_in, spoken}
use Rattle.gen_unroll.specs.Steps.{LoopTurn, GenerateBlock, ModuleStep, Listed, Port, Parameter, Item, Labelled, Opened, Closed, blocks_in}
use Rattle.unit_jobs.specs.BlockNames.{called_in, item_texts, texts_within}
use Rattle.version_swap.specs.Unplaced.{unplaced_declared, unplaced_declared_reg, unplaced_item}
use Rattle.version_swap.specs.UnplacedFindings.{turn_unplaced, block_unplaced, step_unplaced}

-- ---- what a name is called

index_so : (turn : Option LoopTurn) → index_text (option_map turn_unplaced turn) ≡ index_text turn
index_so None = refl
index_so (Some t) = refl

own_so : (texts : List (List ℕ)) (b : GenerateBlock) → own_text texts (block_unplaced b) ≡ own_text texts b
own_so texts b = ap (λ (index : List ℕ). text_at texts b.label.name.0 ++ (index ++ codes ".")) (index_so b.turn)

prefix_so : (texts : List (List ℕ)) (bs : List GenerateBlock) (k : Option ℕ) → prefix_in texts (map block_unplaced bs) k ≡ prefix_in texts bs k
prefix_so texts [] None = refl
prefix_so texts (b ∷ bs) None = refl
prefix_so texts [] (Some k) = refl
prefix_so texts (b ∷ bs) (Some k) =
    let others : List GenerateBlock = map block_unplaced bs in
    ap₂ (λ (n : ℕ) (own : List ℕ). if k == n then prefix_in texts others b.parent ++ own else prefix_in texts others (Some k))
    (length-map bs block_unplaced) (own_so texts b)
    ∙ ap₂ (λ (above behind : List ℕ). if k == length bs then above ++ own_text texts b else behind)
    (prefix_so texts bs b.parent) (prefix_so texts bs (Some k))

reverse_so : (bs : List GenerateBlock) → reverse (map block_unplaced bs) ≡ map block_unplaced (reverse bs)
reverse_so [] = refl
reverse_so (b ∷ bs) =
    reverse-append (block_unplaced b ∷ []) (map block_unplaced bs)
    ∙ ap (λ (cs : List GenerateBlock). cs ++ block_unplaced b ∷ []) (reverse_so bs)
    ∙ sym (map-append block_unplaced (reverse bs) (b ∷ []))
    ∙ ap (map block_unplaced) (sym (reverse-append (b ∷ []) bs))

spoken_so : (texts : List (List ℕ)) (bs : List GenerateBlock) (k : Option ℕ) (name : ℕ)
    → spoken texts (map block_unplaced bs) k name ≡ spoken texts bs k name
unfolding spoken
spoken_so texts bs k name =
    ap (λ (prefix : List ℕ). prefix ++ text_at texts name)
    (ap (λ (cs : List GenerateBlock). prefix_in texts cs k) (reverse_so bs) ∙ prefix_so texts (reverse bs) k)

-- ---- what stands within blocks

called_so : {A : Type 0} (texts : List (List ℕ)) (bs : List GenerateBlock) (block : ℕ) (moved : A → A) (named : A → Identifier)
    → ((x : A) → (named (moved x)).name ≡ (named x).name) → (xs : List A)
    → map (called_in texts (map block_unplaced bs) block) (map named (map moved xs)) ≡ map (called_in texts bs block) (map named xs)
called_so texts bs block moved named is [] = refl
called_so texts bs block moved named is (x ∷ xs) =
    ap₂ (λ (t : List ℕ) (ts : List (List ℕ)). t ∷ ts)
    (ap (λ (n : NameId). spoken texts (map block_unplaced bs) (Some block) n.0) (is x) ∙ spoken_so texts bs (Some block) (named x).name.0)
    (called_so texts bs block moved named is xs)

block_so : (texts : List (List ℕ)) (bs : List GenerateBlock) (block : ℕ) (x : ModuleItem)
    → item_texts texts (map block_unplaced bs) (Some block) (unplaced_item x) ≡ item_texts texts bs (Some block) x
block_so texts bs block (i.Wires at k nets) = called_so texts bs block unplaced_declared declared_name (λ x. refl) nets
block_so texts bs block (i.Regs at k regs) = called_so texts bs block unplaced_declared_reg declared_reg_name (λ x. refl) regs
block_so texts bs block other = refl

item_so : (texts : List (List ℕ)) (bs : List GenerateBlock) (block : Option ℕ) (x : ModuleItem)
    → item_texts texts (map block_unplaced bs) block (unplaced_item x) ≡ item_texts texts bs block x
item_so texts bs None x = refl
item_so texts bs (Some block) x = block_so texts bs block x

within_so : (texts : List (List ℕ)) (bs : List GenerateBlock) (around : List ℕ) (steps : List ModuleStep)
    → texts_within texts (map block_unplaced bs) around (map step_unplaced steps) ≡ texts_within texts bs around steps
within_so texts bs around [] = refl
within_so texts bs around (Listed n ∷ steps) = within_so texts bs around steps
within_so texts bs around (Port p ∷ steps) = within_so texts bs around steps
within_so texts bs around (Parameter s n v ∷ steps) = within_so texts bs around steps
within_so texts bs around (Item x ∷ steps) =
    ap₂ (λ (here behind : List (List ℕ)). here ++ behind) (item_so texts bs (innermost around) x) (within_so texts bs around steps)
within_so texts bs around (Labelled n ∷ steps) = within_so texts bs around steps
within_so texts bs around (Opened b items ∷ steps) = within_so texts bs (b.number ∷ around) steps
within_so texts bs around (Closed ∷ steps) = within_so texts bs (blocks_around around) steps

-- ---- the blocks

blocks_so : (steps : List ModuleStep) → blocks_in (map step_unplaced steps) ≡ map block_unplaced (blocks_in steps)
blocks_so [] = refl
blocks_so (Listed n ∷ steps) = blocks_so steps
blocks_so (Port p ∷ steps) = blocks_so steps
blocks_so (Parameter s n v ∷ steps) = blocks_so steps
blocks_so (Item x ∷ steps) = blocks_so steps
blocks_so (Labelled n ∷ steps) = blocks_so steps
blocks_so (Opened b items ∷ steps) = ap (λ (bs : List GenerateBlock). block_unplaced b ∷ bs) (blocks_so steps)
blocks_so (Closed ∷ steps) = blocks_so steps

unplaced_texts : (texts : List (List ℕ)) (steps : List ModuleStep)
    → texts_within texts (blocks_in (map step_unplaced steps)) [] (map step_unplaced steps) ≡ texts_within texts (blocks_in steps) [] steps
unplaced_texts texts steps =
    ap (λ (bs : List GenerateBlock). texts_within texts bs [] (map step_unplaced steps)) (blocks_so steps)
    ∙ within_so texts (blocks_in steps) [] steps

-- steps that differ in places alone have the same texts within blocks
pub same_texts : (texts : List (List ℕ)) (xs ys : List ModuleStep) → map step_unplaced xs ≡ map step_unplaced ys
    → texts_within texts (blocks_in xs) [] xs ≡ texts_within texts (blocks_in ys) [] ys
same_texts texts xs ys same =
    sym (unplaced_texts texts xs)
    ∙ ap (λ (steps : List ModuleStep). texts_within texts (blocks_in steps) [] steps) same
    ∙ unplaced_texts texts ys
