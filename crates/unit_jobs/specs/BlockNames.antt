-- What the nets and variables within the generate blocks of a module are called, in the order of their declarations (IEEE Std
-- 1364-2005, 12.4 and 12.5).
use Rattle.std.specs.Prelude.{ℕ, List, [], ◌∷◌, ◌++◌, map, Option, Some, None}
use Rattle.verilog_ast.specs.declared.identifier.Identifier.{Identifier}
use Rattle.verilog_ast.specs.Items as i
use Rattle.verilog_ast.specs.Items.{ModuleItem}
use Rattle.gen_unroll.specs.Declarations.{declared_name, declared_reg_name}
use Rattle.gen_unroll.specs.Reaches.{innermost, blocks_around}
use Rattle.gen_unroll.specs.Spoken.{spoken}
use Rattle.gen_unroll.specs.Steps.{GenerateBlock, ModuleStep, Item, Opened, Closed}

-- the nets and variables that an item declares
abbrev pub declared_by : ModuleItem → List Identifier
declared_by (i.Wires at k nets) = map declared_name nets
declared_by (i.Regs at k regs) = map declared_reg_name regs
declared_by other = []

-- what a name is called in a block
abbrev pub called_in : (texts : List (List ℕ)) → List GenerateBlock → (block : ℕ) → Identifier → List ℕ
called_in texts blocks block n = spoken texts blocks (Some block) n.name.0

-- those of an item in the innermost block; none in the module itself
abbrev pub item_texts : (texts : List (List ℕ)) → List GenerateBlock → (block : Option ℕ) → ModuleItem → List (List ℕ)
item_texts texts blocks None x = []
item_texts texts blocks (Some block) x = map (called_in texts blocks block) (declared_by x)

-- those of steps within these blocks, the innermost one first
abbrev pub texts_within : (texts : List (List ℕ)) → List GenerateBlock → (around : List ℕ) → List ModuleStep → List (List ℕ)
texts_within texts blocks around [] = []
texts_within texts blocks around (Item x ∷ steps) = item_texts texts blocks (innermost around) x ++ texts_within texts blocks around steps
texts_within texts blocks around (Opened b items ∷ steps) = texts_within texts blocks (b.number ∷ around) steps
texts_within texts blocks around (Closed ∷ steps) = texts_within texts blocks (blocks_around around) steps
texts_within texts blocks around (other ∷ steps) = texts_within texts blocks around steps
