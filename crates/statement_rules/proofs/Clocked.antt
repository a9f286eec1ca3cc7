-- The statement of a clocked block has no blocking assignment.
use Rattle.std.proofs.Common.{◌≡◌, ℕ, Bool, true, ◌&&◌, max, refl, ◌∙◌, ap}
use Rattle.std.proofs.lemmas.Bool.{and_from}
use Rattle.typed_ir.specs.Stmts.{SizedStmt, SizedArms, is_clocked, are_clocked_arms}
use Rattle.verilog_ast.specs.Statements.{Statement, Block, If, IfElse, Case, Assignment, Null, Default, Match, NoStatement, Statements}
use Rattle.width_rules.specs.declared.writer.Writer.{Writer}
use Rattle.width_rules.specs.declared.writer.Writer.TheVariants as writer
use Rattle.width_rules.specs.Scopes.{Scope}
use Rattle.width_rules.specs.Signs.{is_signed}
use Rattle.width_rules.specs.Sizes.{length}
use Rattle.statement_rules.specs.Statements.{items_length, items_signed, item_before, default_or, sized_statement, sized_arms, sized_default}

item_clocked : (scope : Scope) (l : ℕ) (t : Bool) (x : Statement) (body : SizedStmt) (rest : SizedArms) → is_clocked body ≡ true → are_clocked_arms rest ≡ true
    → are_clocked_arms (item_before scope l t x body rest) ≡ true
item_clocked scope l t (Match ls x) body rest h k = and_from (is_clocked body) (are_clocked_arms rest) h k
item_clocked scope l t (Block at label x) body rest h k = k
item_clocked scope l t (If at c x) body rest h k = k
item_clocked scope l t (IfElse at c x y) body rest h k = k
item_clocked scope l t (Case at kind x items) body rest h k = k
item_clocked scope l t (Assignment written x) body rest h k = k
item_clocked scope l t (Null at) body rest h k = k
item_clocked scope l t (Default at x) body rest h k = k
item_clocked scope l t NoStatement body rest h k = k
item_clocked scope l t (Statements x xs) body rest h k = k

default_clocked : (x : Statement) (body rest : SizedStmt) → is_clocked body ≡ true → is_clocked rest ≡ true → is_clocked (default_or x body rest) ≡ true
default_clocked (Default at x) body rest h k = h
default_clocked (Match ls x) body rest h k = k
default_clocked (Block at label x) body rest h k = k
default_clocked (If at c x) body rest h k = k
default_clocked (IfElse at c x y) body rest h k = k
default_clocked (Case at kind x items) body rest h k = k
default_clocked (Assignment written x) body rest h k = k
default_clocked (Null at) body rest h k = k
default_clocked NoStatement body rest h k = k
default_clocked (Statements x xs) body rest h k = k

mutual
  clocked : (scope : Scope) (x : Statement) → is_clocked (sized_statement scope writer.Clocked x) ≡ true
  clocked scope (Block at label body) = clocked scope body
  clocked scope (If at c x) = and_from (is_clocked (sized_statement scope writer.Clocked x)) true (clocked scope x) refl
  clocked scope (IfElse at c x y) =
      and_from (is_clocked (sized_statement scope writer.Clocked x)) (is_clocked (sized_statement scope writer.Clocked y)) (clocked scope x) (clocked scope y)
  clocked scope (Case at kind x items) =
      arms_clocked scope (max (length scope x) (items_length scope items)) (is_signed scope x && items_signed scope items)
      (sized_default scope writer.Clocked items) items (otherwise_clocked scope items)
  clocked scope (Assignment written x) = refl
  clocked scope (Null at) = refl
  clocked scope (Default at body) = clocked scope body
  clocked scope (Match ls body) = clocked scope body
  clocked scope NoStatement = refl
  clocked scope (Statements x xs) =
      and_from (is_clocked (sized_statement scope writer.Clocked x)) (is_clocked (sized_statement scope writer.Clocked xs)) (clocked scope x) (clocked scope xs)

  arms_clocked : (scope : Scope) (l : ℕ) (t : Bool) (o : SizedStmt) (x : Statement) → is_clocked o ≡ true → are_clocked_arms (sized_arms scope writer.Clocked l t o x) ≡ true
  arms_clocked scope l t o (Statements x xs) h =
      item_clocked scope l t x (sized_statement scope writer.Clocked x) (sized_arms scope writer.Clocked l t o xs) (clocked scope x) (arms_clocked scope l t o xs h)
  arms_clocked scope l t o (Block at label body) h = h
  arms_clocked scope l t o (If at c x) h = h
  arms_clocked scope l t o (IfElse at c x y) h = h
  arms_clocked scope l t o (Case at kind x items) h = h
  arms_clocked scope l t o (Assignment written x) h = h
  arms_clocked scope l t o (Null at) h = h
  arms_clocked scope l t o (Default at body) h = h
  arms_clocked scope l t o (Match ls body) h = h
  arms_clocked scope l t o NoStatement h = h

  otherwise_clocked : (scope : Scope) (x : Statement) → is_clocked (sized_default scope writer.Clocked x) ≡ true
  otherwise_clocked scope (Statements x xs) =
      default_clocked x (sized_statement scope writer.Clocked x) (sized_default scope writer.Clocked xs) (clocked scope x) (otherwise_clocked scope xs)
  otherwise_clocked scope (Block at label body) = refl
  otherwise_clocked scope (If at c x) = refl
  otherwise_clocked scope (IfElse at c x y) = refl
  otherwise_clocked scope (Case at kind x items) = refl
  otherwise_clocked scope (Assignment written x) = refl
  otherwise_clocked scope (Null at) = refl
  otherwise_clocked scope (Default at body) = refl
  otherwise_clocked scope (Match ls body) = refl
  otherwise_clocked scope NoStatement = refl

pub stays_clocked : (scope : Scope) (by : Writer) (x : Statement) (st : SizedStmt) → by ≡ writer.Clocked → st ≡ sized_statement scope by x → is_clocked st ≡ true
stays_clocked scope by x st by_is is =
    ap is_clocked (is ∙ ap (λ (w : Writer). sized_statement scope w x) by_is) ∙ clocked scope x
