-- The tree of a design under other names, which have the same texts.
use Rattle.std.proofs.Common.{◌≡◌, ℕ, zero, suc, List, [], ◌∷◌, map, Option, Some, None, Ok, refl, ◌∙◌, ap, ap₂}
use Rattle.ls_text.specs.declared.name_id.NameId.{NameId}
use Rattle.verilog_ast.specs.Items.{ModuleDeclaration}
use Rattle.verilog_ast.specs.Renaming.{declaration_as}
use Rattle.gen_unroll.specs.Spoken.{spoken}
use Rattle.gen_unroll.specs.Steps.{GenerateBlock}
use Rattle.elaborate.specs.declared.limits.Limits.{Limits}
use Rattle.elaborate.specs.Elaborated.{Standing}
use Rattle.elaborate.specs.Trees.{TreeInstance, blocks_of, blocks_around, called, seen_as, seen, tree}
use Rattle.elaborate.specs.Findings.{standing_as, seen_instance_as}
use Rattle.elaborate.specs.Renaming.{KeepsApart, SpellsSame, number_as, found_as, block_as}
use Rattle.elaborate.proofs.RenamedAnswers.{found_so}
use Rattle.elaborate.proofs.RenamedDesigns.{same_elaborated}
use Rattle.elaborate.proofs.RenamedTexts.{same_spoken}

blocks_so : (f : NameId → NameId) (all : List Standing) (k : ℕ) → blocks_of (map (standing_as f) all) k ≡ map (block_as f) (blocks_of all k)
blocks_so f [] k = refl
blocks_so f (s ∷ ss) zero = refl
blocks_so f (s ∷ ss) (suc k) = blocks_so f ss k

around_so : (f : NameId → NameId) (all : List Standing) (k : Option ℕ) → blocks_around (map (standing_as f) all) k ≡ map (block_as f) (blocks_around all k)
around_so f all None = refl
around_so f all (Some k) = blocks_so f all k

pub called_so : (f : NameId → NameId) (texts others : List (List ℕ)) (all : List Standing) (s : Standing) → SpellsSame f texts others
    → called others (map (standing_as f) all) (standing_as f s) ≡ called texts all s
called_so f texts others all s same =
    ap (λ (bs : List GenerateBlock). spoken others bs s.block (f s.name.name).0) (around_so f all s.parent)
    ∙ same_spoken f texts others (blocks_around all s.parent) s.block s.name.name same

seen_so : (f : NameId → NameId) (texts others : List (List ℕ)) (all : List Standing) (s : Standing) → SpellsSame f texts others
    → seen others (map (standing_as f) all) (standing_as f s) ≡ seen_instance_as f (seen texts all s)
seen_so f texts others all s same = ap (λ (name : List ℕ). seen_as name (standing_as f s)) (called_so f texts others all s same)

each_seen : (f : NameId → NameId) (texts others : List (List ℕ)) (all some : List Standing) → SpellsSame f texts others
    → map (seen others (map (standing_as f) all)) (map (standing_as f) some) ≡ map (seen_instance_as f) (map (seen texts all) some)
each_seen f texts others all [] same = refl
each_seen f texts others all (s ∷ ss) same =
    ap₂ (λ (i : TreeInstance) (is : List TreeInstance). i ∷ is) (seen_so f texts others all s same) (each_seen f texts others all ss same)

pub same_tree : (f : NameId → NameId) (l : Limits) (texts others : List (List ℕ)) (ms : List ModuleDeclaration) (top clock : ℕ) → KeepsApart f → SpellsSame f texts others
    → tree l others (map (declaration_as f) ms) (number_as f top) (number_as f clock) ≡ found_as f (map (seen_instance_as f)) (tree l texts ms top clock)
unfolding tree
same_tree f l texts others ms top clock apart same =
    found_so f (map (standing_as f)) (map (seen_instance_as f)) _ _ _ _ (same_elaborated f l ms top clock apart) (λ all. ap Ok (each_seen f texts others all all same))
