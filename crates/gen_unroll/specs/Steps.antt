-- What a module is, unrolled: steps in the order of the text (IEEE Std 1364-2005, 12.4).
use Rattle.std.specs.Prelude.{ℕ, List, [], ◌∷◌, Option}
use Rattle.verilog_ast.specs.declared.identifier.Identifier.{Identifier}
use Rattle.verilog_ast.specs.Declarations.{PortDeclaration}
use Rattle.verilog_ast.specs.Items.{ModuleItem}
use Rattle.gen_unroll.specs.declared.parameter_sort.ParameterSort.{ParameterSort}
use Rattle.gen_unroll.specs.Values.{ConstantValue}

-- a turn of a loop: the genvar, and its value
pub record LoopTurn : Type 0 where
  pub genvar : Identifier
  pub value : ConstantValue

-- a block of a turn or of a taken branch: its number in the order in which blocks are opened, the block around it, or the module
-- itself, its label, and for a loop the turn
pub record GenerateBlock : Type 0 where
  pub number : ℕ
  pub parent : Option ℕ
  pub label : Identifier
  pub turn : Option LoopTurn

pub data ModuleStep : Type 0 where
  -- a name of a header that lists the names of its ports
  Listed : (name : Identifier) → ModuleStep
  -- a port that the header declares
  Port : (port : PortDeclaration) → ModuleStep
  -- from here on the name stands for the value
  Parameter : (sort : ParameterSort) (name : Identifier) (value : ConstantValue) → ModuleStep
  -- a declaration, an assignment, an `always` block or instances
  Item : (item : ModuleItem) → ModuleStep
  -- the label of a loop, once, or of the branch that is taken
  Labelled : (label : Identifier) → ModuleStep
  -- around what stands in a block, with the items of the block
  Opened : (block : GenerateBlock) (items : ModuleItem) → ModuleStep
  Closed : ModuleStep

-- the blocks that are opened
abbrev pub blocks_in : List ModuleStep → List GenerateBlock
blocks_in [] = []
blocks_in (Opened b items ∷ steps) = b ∷ blocks_in steps
blocks_in (other ∷ steps) = blocks_in steps
