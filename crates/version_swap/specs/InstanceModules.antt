-- The modules of the instances of a design (IEEE Std 1364-2005, 12.1).
use Rattle.std.specs.Prelude.{◌≡◌, ℕ, List, Option, Some, Ok}
use Rattle.verilog_ast.specs.Items.{ModuleDeclaration}
use Rattle.module_names.specs.Modules.{module_named}
use Rattle.elaborate.specs.Elaborated.{Standing}
use Rattle.elaborate.specs.Visits.{visited}

-- an instance whose module is the first of its name, and which has what a visit of that module finds
pub record IsVisited (turns : ℕ) (ms : List ModuleDeclaration) (s : Standing) : Type 0 where
  pub declaration : ModuleDeclaration
  pub most : Option ℕ
  pub named : module_named s.instantiated ms ≡ Some declaration
  pub found : visited turns ms most declaration s.overrides s.clock ≡ Ok s.visited
