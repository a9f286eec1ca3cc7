-- The names within generate blocks, step by step, and those of a module.
use Rattle.std.specs.Prelude.{ℕ, List, [], ◌∷◌, Result, Ok}
use Rattle.ls_text.specs.declared.fault.Fault.{Fault}
use Rattle.typed_ir.specs.declared.constant.Const.{Const}
use Rattle.verilog_ast.specs.Items.{ModuleDeclaration}
use Rattle.gen_unroll.specs.Reaches.{innermost, blocks_around}
use Rattle.gen_unroll.specs.Steps.{GenerateBlock, ModuleStep, Item, Opened, Closed, blocks_in}
use Rattle.ls_text.specs.Answers.{◌>>=◌}
use Rattle.unit_jobs.specs.BlockNames.{item_texts, texts_within}
use Rattle.unit_jobs.specs.Jobs.{steps_under}

-- what a step declares within these blocks
abbrev pub step_texts : (texts : List (List ℕ)) → List GenerateBlock → (around : List ℕ) → ModuleStep → List (List ℕ)
step_texts texts blocks around (Item x) = item_texts texts blocks (innermost around) x
step_texts texts blocks around other = []

-- the blocks that are open behind a step
abbrev pub open_behind : (around : List ℕ) → ModuleStep → List ℕ
open_behind around (Opened b items) = b.number ∷ around
open_behind around Closed = blocks_around around
open_behind around other = around

-- the names within the blocks of a module under these values of its parameters, or the first fault of unrolling it
abbrev pub module_texts : (texts : List (List ℕ)) → ModuleDeclaration → List Const → Result (List (List ℕ)) Fault
module_texts texts m values = steps_under m values >>= λ steps. Ok (texts_within texts (blocks_in steps) [] steps)
