-- Which item of a generate block stands for which tokens (IEEE 1364-2005, clause 12.4).
use Rattle.std.specs.Prelude.{◌≡◌, ◌≢◌, List, [], ◌∷◌, true, false, Some, None}
use Rattle.ls_text.specs.declared.place.Place.{Place}
use Rattle.verilog_lex.specs.declared.token.Token.{Token}
use Rattle.verilog_lex.specs.declared.kind.Kind.TheVariants as k
use Rattle.verilog_ast.specs.declared.identifier.Identifier.{Identifier}
use Rattle.verilog_ast.specs.declared.expression.Expr.{Expr}
use Rattle.verilog_ast.specs.declared.parameter.Parameter.{Parameter}
use Rattle.verilog_ast.specs.declared.plain_item.PlainItem.{PlainItem}
use Rattle.verilog_ast.specs.declared.generate_loop.Loop.{Loop}
use Rattle.verilog_ast.specs.declared.generate_item.Branch.{Branch}
use Rattle.verilog_ast.specs.declared.generate_item.GenerateItem.{GenerateItem}
use Rattle.verilog_ast.specs.declared.generate_item.GenerateItem.TheVariants as item
use Rattle.verilog_expr.specs.Tokens.{next, Takes, identifier_of}
use Rattle.verilog_expr.specs.Grammar.{begins_generate_item}
use Rattle.verilog_expr.specs.Spells as expressions
use Rattle.verilog_decl.specs.Declarations as declarations
use Rattle.verilog_parse.specs.Items as items

pub data Phrase : Type 0 where
  GenerateItems : List GenerateItem → Phrase
  AGenerateItem : GenerateItem → Phrase
  ALoop : GenerateItem → Phrase
  ALoopHead : Loop → Phrase
  -- a labelled block, with the place of its `begin`
  ABlock : Place → Identifier → List GenerateItem → Phrase
  ABranch : Branch → Phrase
  AnOtherwise : Branch → Phrase
  -- the branch, and further ones, which stand here
  BranchesBehind : Branch → List Branch → Phrase
  OtherBranches : List Branch → Phrase

-- The phrase stands at the front of the first tokens, and the second are left. An option or repetition is
-- taken where the next token can begin it.
pub data Spells : Phrase → List Token → List Token → Type 0 where
  no_item : {s : List Token}
      → begins_generate_item (next s) ≡ false
      → Spells (GenerateItems []) s s
  another_item : {x : GenerateItem} {xs : List GenerateItem} {s a r : List Token}
      → begins_generate_item (next s) ≡ true
      → Spells (AGenerateItem x) s a
      → Spells (GenerateItems xs) a r
      → Spells (GenerateItems (x ∷ xs)) s r
  loop_item : {x : GenerateItem} {s r : List Token}
      → k.For ≡ next s
      → Spells (ALoop x) s r
      → Spells (AGenerateItem x) s r
  if_item : {x : Branch} {xs : List Branch} {s a r : List Token}
      → k.If ≡ next s
      → Spells (ABranch x) s a
      → Spells (BranchesBehind x xs) a r
      → Spells (AGenerateItem (item.If xs)) s r
  plain_item : {x : PlainItem} {s r : List Token}
      → next s ≢ k.For
      → next s ≢ k.If
      → items.Spells (items.APlainItem x) s r
      → Spells (AGenerateItem (item.Plain x)) s r
  generate_loop : {x : Loop} {y : Identifier} {ys : List GenerateItem} {at : Place} {s a b c d r : List Token} {t u v : Token}
      → Takes k.For s a t
      → Takes k.LeftParen a b u
      → Spells (ALoopHead x) b c
      → Takes k.RightParen c d v
      → Spells (ABlock at y ys) d r
      → Spells (ALoop (item.For t.at x y ys)) s r
  loop_head : {x z : Parameter} {y : Expr} {s a b c d r : List Token} {t u : Token}
      → declarations.Spells (declarations.AParameter x) s a
      → Takes k.Semicolon a b t
      → expressions.Spells (expressions.AnExpression y) b c
      → Takes k.Semicolon c d u
      → declarations.Spells (declarations.AParameter z) d r
      → Spells (ALoopHead (record { start = x; condition = y; step = z })) s r
  block : {xs : List GenerateItem} {s a b c d r : List Token} {t u v z : Token}
      → Takes k.Begin s a t
      → Takes k.Colon a b u
      → Takes k.Word b c v
      → Spells (GenerateItems xs) c d
      → Takes k.BlockEnd d r z
      → Spells (ABlock t.at (identifier_of v) xs) s r
  branch : {x : Expr} {y : Identifier} {ys : List GenerateItem} {at : Place} {s a b c d r : List Token} {t u v : Token}
      → Takes k.If s a t
      → Takes k.LeftParen a b u
      → expressions.Spells (expressions.AnExpression x) b c
      → Takes k.RightParen c d v
      → Spells (ABlock at y ys) d r
      → Spells (ABranch (record { at = t.at; condition = Some x; label = y; items = ys })) s r
  otherwise : {at : Place} {y : Identifier} {ys : List GenerateItem} {s r : List Token}
      → Spells (ABlock at y ys) s r
      → Spells (AnOtherwise (record { at = at; condition = None; label = y; items = ys })) s r
  branches_behind : {x : Branch} {xs : List Branch} {s r : List Token}
      → Spells (OtherBranches xs) s r
      → Spells (BranchesBehind x (x ∷ xs)) s r
  no_branch : {s : List Token}
      → next s ≢ k.Else
      → Spells (OtherBranches []) s s
  another_branch : {x : Branch} {xs : List Branch} {s a b r : List Token} {t : Token}
      → Takes k.Else s a t
      → k.If ≡ next a
      → Spells (ABranch x) a b
      → Spells (OtherBranches xs) b r
      → Spells (OtherBranches (x ∷ xs)) s r
  last_branch : {x : Branch} {s a r : List Token} {t : Token}
      → Takes k.Else s a t
      → next a ≢ k.If
      → Spells (AnOtherwise x) a r
      → Spells (OtherBranches (x ∷ [])) s r
