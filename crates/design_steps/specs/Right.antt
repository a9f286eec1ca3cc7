-- What laid out steps do.
use Rattle.std.specs.Prelude.{◌≡◌, ◌<◌, ℕ, true, List}
use Rattle.typed_ir.specs.declared.span.Span.{Span}
use Rattle.typed_ir.specs.declared.update.Update.{Update}
use Rattle.typed_ir.specs.Valuations.{Valuation}
use Rattle.typed_ir.specs.Orders.{Each, Member}
use Rattle.typed_ir.specs.Stmts.{SizedStmt, all_applied, is_legal, targets, later_targets}
use Rattle.typed_ir.specs.Nodes.{FlatNode, is_legal_node}
use Rattle.word_steps.specs.Walks.{walk, at}
use Rattle.word_steps.specs.declared.step.Step.{Step}
use Rattle.design_steps.specs.Plans.{Plan, IsReady, IsKnown, IsAlone}
use Rattle.design_steps.specs.Statements.{stmt_constants}
use Rattle.design_steps.specs.Nodes.{as_statement}

-- x stands at the place `to`, and all else below the mark is as before
pub record Puts (steps : List Step) (w : Valuation) (to mark x : ℕ) : Type 0 where
  pub value : (walk steps (at 0 w)).words to ≡ x
  pub kept : (k : ℕ) → k < mark → (k ≡ to → ⊥) → (walk steps (at 0 w)).words k ≡ w k

-- the signals are as in `env`, the next values are those after the updates, and all else below n is as before
pub record Leaves (l : Plan) (registers : List ℕ) (steps : List Step) (w : Valuation) (n : ℕ) (env : Valuation) (us : List Update) : Type 0 where
  pub now : (s : ℕ) → (walk steps (at 0 w)).words (l.slot s) ≡ env s
  pub later : (s : ℕ) → Member s registers → (walk steps (at 0 w)).words (l.next s) ≡ all_applied us (λ t. w (l.next t)) s
  pub kept : (k : ℕ) → k < n → ((s : ℕ) → k ≡ l.slot s → ⊥) → ((s : ℕ) → Member s registers → k ≡ l.next s → ⊥)
      → (walk steps (at 0 w)).words k ≡ w k
  pub ready : IsReady l registers (walk steps (at 0 w)).words

-- a statement over the signals of a plan: it writes signals whose slots no other has, and registers, and its constants stand somewhere
pub record IsLaid (l : Plan) (registers : List ℕ) (st : SizedStmt) : Type 0 where
  pub legal : is_legal st l.widths ≡ true
  pub alone : Each (λ (p : Span). IsAlone l p.signal) (targets st)
  pub among : Each (λ (p : Span). Member p.signal registers) (later_targets st)
  pub known : Each (IsKnown l) (stmt_constants st)

-- the same of a node
pub record IsLaidNode (l : Plan) (registers : List ℕ) (k : FlatNode) : Type 0 where
  pub legal : is_legal_node k l.widths ≡ true
  pub alone : Each (λ (p : Span). IsAlone l p.signal) (targets (as_statement k))
  pub among : Each (λ (p : Span). Member p.signal registers) (later_targets (as_statement k))
  pub known : Each (IsKnown l) (stmt_constants (as_statement k))
