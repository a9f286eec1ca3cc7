-- How nodes are laid out as steps: as the statements that do the same.
use Rattle.std.specs.Prelude.{ℕ, zero, suc, List, [], ◌∷◌, ◌++◌, map}
use Rattle.typed_ir.specs.declared.lane.Lane.{Lane}
use Rattle.typed_ir.specs.declared.update.Update.{Update}
use Rattle.typed_ir.specs.Valuations.{Valuation}
use Rattle.typed_ir.specs.Stmts.{SizedTarget, Fixed, SizedStmt, Assign, pending}
use Rattle.typed_ir.specs.Nodes.{FlatNode, Drive, Block, drive}
use Rattle.word_steps.specs.declared.step.Step.{Step}
use Rattle.design_steps.specs.Plans.{Plan}
use Rattle.design_steps.specs.Statements.{stmt_code}

-- lanes as the parts left of an assignment
abbrev pub parts_of : List Lane → List SizedTarget
parts_of lanes = map (λ (lane : Lane). Fixed lane) lanes

abbrev pub as_statement : FlatNode → SizedStmt
as_statement (Drive form lanes e) = Assign (parts_of lanes) e
as_statement (Block shown body) = body

abbrev pub nodes_code : Plan → List FlatNode → ℕ → List Step
nodes_code l [] mark = []
nodes_code l (k ∷ ks) mark = stmt_code l (as_statement k) mark ++ nodes_code l ks mark

-- the node of a number; none where there is none
abbrev pub node_at : List FlatNode → ℕ → List FlatNode
node_at [] k = []
node_at (n ∷ ns) zero = n ∷ []
node_at (n ∷ ns) (suc k) = node_at ns k

-- the nodes of these numbers
abbrev pub in_order : List FlatNode → List ℕ → List FlatNode
in_order nodes [] = []
in_order nodes (k ∷ ks) = node_at nodes k ++ in_order nodes ks

-- the nonblocking updates of nodes that are driven one after another
abbrev pub all_later : List FlatNode → Valuation → List Update
all_later [] env = []
all_later (k ∷ ks) env = pending (as_statement k) env ++ all_later ks (drive k env env)
