-- What a name within a block is called (IEEE Std 1364-2005, 12.4.1, 12.4.2 and 12.5).
use Rattle.std.specs.Prelude.{ℕ, ◌==◌, if◌then◌else◌, codes, List, [], ◌∷◌, ◌++◌, length, Option, Some, None, reverse}
use Rattle.std.specs.Fmt.{signed_decimal}
use Rattle.ls_text.specs.Texts.{text_at}
use Rattle.width_rules.specs.Sizes.{read_as}
use Rattle.gen_unroll.specs.Steps.{LoopTurn, GenerateBlock}

-- the genvar's value in its turn, in decimal with a sign below 0
abbrev pub index_text : Option LoopTurn → List ℕ
index_text None = []
index_text (Some t) = codes "[" ++ (signed_decimal (read_as t.value.signed t.value.width t.value.value) ++ codes "]")

-- what stands before a name of a block
abbrev pub own_text : List (List ℕ) → GenerateBlock → List ℕ
own_text texts b = text_at texts b.label.name.0 ++ (index_text b.turn ++ codes ".")

-- the same with the blocks around it, by the table of blocks, the last one first; a block stands behind those around it
abbrev pub prefix_in : List (List ℕ) → List GenerateBlock → Option ℕ → List ℕ
prefix_in texts blocks None = []
prefix_in texts [] (Some k) = []
prefix_in texts (b ∷ earlier) (Some k) =
    if k == length earlier then prefix_in texts earlier b.parent ++ own_text texts b else prefix_in texts earlier (Some k)

-- a name of a block, or of the module itself
unfoldable pub spoken : List (List ℕ) → List GenerateBlock → Option ℕ → ℕ → List ℕ
spoken texts blocks block name = prefix_in texts (reverse blocks) block ++ text_at texts name
