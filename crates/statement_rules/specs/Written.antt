-- Texts as a parser writes them: an operand is an expression, lists stand in braces alone, and what is written is a name with its select
-- or without (IEEE Std 1364-2005, A.6.2 to A.6.7, A.8.1 to A.8.5).
use Rattle.std.specs.Prelude.{⊤, List, [], ◌∷◌}
use Rattle.verilog_ast.specs.Expressions.{Expression, Literal, Whole, BitSelect, PartSelect, UpwardSelect, DownwardSelect, Unary, Binary, Conditional, Concatenation, Replication, Bracketed, NoPart, Parts, Target, Reference, Joined, NoTarget, Targets}
use Rattle.verilog_ast.specs.Items.{ContinuousAssignment}
use Rattle.verilog_ast.specs.Statements.{CaseLabel, DontCare, Compared, Statement, Block, If, IfElse, Case, Assignment, Null, Default, Match, NoStatement, Statements}

abbrev mutual
  -- an expression
  pub IsWritten : Expression → Type 0
  IsWritten (Literal at x) = ⊤
  IsWritten (Whole n) = ⊤
  IsWritten (BitSelect n x) = IsWritten x
  IsWritten (PartSelect n x y) = IsWritten x × IsWritten y
  IsWritten (UpwardSelect n x y) = IsWritten x × IsWritten y
  IsWritten (DownwardSelect n x y) = IsWritten x × IsWritten y
  IsWritten (Unary at op x) = IsWritten x
  IsWritten (Binary op x y) = IsWritten x × IsWritten y
  IsWritten (Conditional c x y) = IsWritten c × (IsWritten x × IsWritten y)
  IsWritten (Concatenation at xs) = ArePartsWritten xs
  IsWritten (Replication at c xs) = IsWritten c × ArePartsWritten xs
  IsWritten (Bracketed at x) = IsWritten x
  IsWritten NoPart = ⊥
  IsWritten (Parts x xs) = ⊥

  -- the parts of a concatenation
  pub ArePartsWritten : Expression → Type 0
  ArePartsWritten NoPart = ⊤
  ArePartsWritten (Parts x xs) = IsWritten x × ArePartsWritten xs
  ArePartsWritten other = ⊥

-- a name with its select or without
abbrev pub IsReference : Expression → Type 0
IsReference (Whole n) = ⊤
IsReference (BitSelect n x) = IsWritten x
IsReference (PartSelect n x y) = IsWritten x × IsWritten y
IsReference (UpwardSelect n x y) = IsWritten x × IsWritten y
IsReference (DownwardSelect n x y) = IsWritten x × IsWritten y
IsReference other = ⊥

abbrev mutual
  -- what stands left of an assignment
  pub IsTargetWritten : Target → Type 0
  IsTargetWritten (Reference x) = IsReference x
  IsTargetWritten (Joined at ts) = AreTargetsWritten ts
  IsTargetWritten NoTarget = ⊥
  IsTargetWritten (Targets t ts) = ⊥

  -- the targets of a concatenation
  pub AreTargetsWritten : Target → Type 0
  AreTargetsWritten NoTarget = ⊤
  AreTargetsWritten (Targets t ts) = IsTargetWritten t × AreTargetsWritten ts
  AreTargetsWritten other = ⊥

abbrev pub IsLabelWritten : CaseLabel → Type 0
IsLabelWritten (DontCare at x) = ⊤
IsLabelWritten (Compared x) = IsWritten x

abbrev pub AreLabelsWritten : List CaseLabel → Type 0
AreLabelsWritten [] = ⊤
AreLabelsWritten (l ∷ ls) = IsLabelWritten l × AreLabelsWritten ls

-- each expression and each target of a statement, or of the items of a case
abbrev pub IsStatementWritten : Statement → Type 0
IsStatementWritten (Block at label body) = IsStatementWritten body
IsStatementWritten (If at c x) = IsWritten c × IsStatementWritten x
IsStatementWritten (IfElse at c x y) = IsWritten c × (IsStatementWritten x × IsStatementWritten y)
IsStatementWritten (Case at kind x items) = IsWritten x × IsStatementWritten items
IsStatementWritten (Assignment t x) = IsTargetWritten t × IsWritten x
IsStatementWritten (Null at) = ⊤
IsStatementWritten (Default at body) = IsStatementWritten body
IsStatementWritten (Match ls body) = AreLabelsWritten ls × IsStatementWritten body
IsStatementWritten NoStatement = ⊤
IsStatementWritten (Statements x xs) = IsStatementWritten x × IsStatementWritten xs

-- each continuous assignment of an item
abbrev pub AreAssignsWritten : List ContinuousAssignment → Type 0
AreAssignsWritten [] = ⊤
AreAssignsWritten (x ∷ xs) = (IsTargetWritten x.target × IsWritten x.value) × AreAssignsWritten xs
