-- The reads of a sized statement one by one, and the signals that mentions name.
use Rattle.std.specs.Prelude.{ℕ, List, [], ◌++◌, map}
use Rattle.typed_ir.specs.declared.span.Span.{Span}
use Rattle.typed_ir.specs.Stmts.{SizedStmt, SizedArms, Skip, Assign, Later, Then, If, Case, Arm, Default}
use Rattle.typed_ir.specs.declared.mention.Mention.{Mention}
use Rattle.width_rules.specs.Scopes.{Scope}
use Rattle.block_rules.specs.Paths.{leaves, index_leaves, item_leaves}
use Rattle.statement_rules.specs.DeclaredValues.{signal_in}

abbrev mutual
  -- in the order of its text, a default of a case last
  pub statement_leaves : SizedStmt → List Span
  statement_leaves Skip = []
  statement_leaves (Assign parts e) = index_leaves parts ++ leaves e
  statement_leaves (Later parts e) = index_leaves parts ++ leaves e
  statement_leaves (Then a b) = statement_leaves a ++ statement_leaves b
  statement_leaves (If c a b) = leaves c ++ (statement_leaves a ++ statement_leaves b)
  statement_leaves (Case e arms) = leaves e ++ arm_leaves arms

  pub arm_leaves : SizedArms → List Span
  arm_leaves (Arm items body rest) = item_leaves items ++ (statement_leaves body ++ arm_leaves rest)
  arm_leaves (Default otherwise) = statement_leaves otherwise

abbrev pub signals_of : List Span → List ℕ
signals_of spans = map (λ (p : Span). p.signal) spans

abbrev pub signals_named : Scope → List Mention → List ℕ
signals_named scope ms = map (λ (m : Mention). signal_in (scope m.name.0)) ms
