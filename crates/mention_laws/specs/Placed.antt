-- Statements in which items of a case stand within a case alone (IEEE Std 1364-2005, A.6.4, A.6.7).
use Rattle.std.specs.Prelude.{⊤}
use Rattle.verilog_ast.specs.Statements.{Statement, Block, If, IfElse, Case, Assignment, Null, Default, Match, NoStatement, Statements}

abbrev mutual
  -- a statement, or statements one after another
  pub AreStatements : Statement → Type 0
  AreStatements (Block at label body) = AreStatements body
  AreStatements (If at c x) = AreStatements x
  AreStatements (IfElse at c x y) = AreStatements x × AreStatements y
  AreStatements (Case at kind x items) = AreItems items
  AreStatements (Assignment t x) = ⊤
  AreStatements (Null at) = ⊤
  AreStatements (Default at body) = ⊥
  AreStatements (Match ls body) = ⊥
  AreStatements NoStatement = ⊤
  AreStatements (Statements x xs) = AreStatements x × AreStatements xs

  -- the items of a case
  pub AreItems : Statement → Type 0
  AreItems NoStatement = ⊤
  AreItems (Statements x xs) = IsItem x × AreItems xs
  AreItems other = ⊥

  pub IsItem : Statement → Type 0
  IsItem (Default at body) = AreStatements body
  IsItem (Match ls body) = AreStatements body
  IsItem other = ⊥
