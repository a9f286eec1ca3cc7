-- Constants that a pool holds.
use Rattle.std.specs.Prelude.{ℕ, List, [], ◌∷◌, ◌++◌}
use Rattle.typed_ir.specs.Orders.{Member, Each}
use Rattle.typed_ir.specs.Nodes.{FlatNode}
use Rattle.design_steps.specs.Statements.{stmt_constants}
use Rattle.design_steps.specs.Nodes.{as_statement}

-- the pool grew, and has these
pub record Holds (old new needed : List ℕ) : Type 0 where
  pub kept : (v : ℕ) → Member v old → Member v new
  pub there : Each (λ v. Member v new) needed

abbrev pub nodes_constants : List FlatNode → List ℕ
nodes_constants [] = []
nodes_constants (k ∷ ks) = stmt_constants (as_statement k) ++ nodes_constants ks
