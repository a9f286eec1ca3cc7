-- Which statement stands for which tokens (IEEE 1364-2005, clause 9; a `case` 9.5).
use Rattle.std.specs.Prelude.{◌≡◌, ◌≢◌, List, [], ◌∷◌, true, false, Option, Some, None}
use Rattle.ls_text.specs.declared.place.Place.{Place}
use Rattle.verilog_lex.specs.declared.token.Token.{Token}
use Rattle.verilog_lex.specs.declared.kind.Kind.TheVariants as k
use Rattle.verilog_ast.specs.declared.identifier.Identifier.{Identifier}
use Rattle.verilog_ast.specs.declared.expression.Expr.{Expr}
use Rattle.verilog_ast.specs.declared.expression.Reference.{Reference}
use Rattle.verilog_ast.specs.declared.target.Lhs.{Lhs}
use Rattle.verilog_ast.specs.declared.target.Lhs.TheVariants as target
use Rattle.verilog_ast.specs.declared.sign.Sign.{Sign}
use Rattle.verilog_ast.specs.declared.sign.Sign.TheVariants.{Blocking, Nonblocking}
use Rattle.verilog_ast.specs.declared.case_kind.CaseKind.{CaseKind}
use Rattle.verilog_ast.specs.declared.case_kind.CaseKind.TheVariants.{Case, Casez}
use Rattle.verilog_ast.specs.declared.statement.Stmt.{Stmt}
use Rattle.verilog_ast.specs.declared.statement.Stmt.TheVariants as statement
use Rattle.verilog_ast.specs.declared.statement.Arm.{Arm}
use Rattle.verilog_ast.specs.declared.statement.Arm.TheVariants as arm
use Rattle.verilog_ast.specs.declared.label.Label.{Label}
use Rattle.verilog_ast.specs.declared.label.Label.TheVariants as label
use Rattle.verilog_expr.specs.Tokens.{next, Takes, identifier_of, pattern_of}
use Rattle.verilog_expr.specs.Grammar.{begins_statement, begins_arm}
use Rattle.verilog_expr.specs.Spells as expressions

pub data Phrase : Type 0 where
  ATarget : Lhs → Phrase
  -- what follows the brace of a concatenation
  Braces : List Lhs → Phrase
  -- the target, and further ones, which stand here
  TargetsBehind : Lhs → List Lhs → Phrase
  OtherTargets : List Lhs → Phrase
  AStatement : Sign → Stmt → Phrase
  Statements : Sign → List Stmt → Phrase
  -- what follows `if`
  AnIf : Sign → Place → Stmt → Phrase
  -- what follows the first branch
  Alternative : Sign → Place → Expr → Stmt → Stmt → Phrase
  -- what follows `case`
  ACase : Sign → CaseKind → Place → Stmt → Phrase
  AnArm : Sign → CaseKind → Arm → Phrase
  ArmsBehind : Sign → CaseKind → Arm → List Arm → Phrase
  OtherArms : Sign → CaseKind → List Arm → Phrase
  OptionalColon : Phrase
  ALabel : CaseKind → Label → Phrase
  LabelsBehind : CaseKind → Label → List Label → Phrase
  OtherLabels : CaseKind → List Label → Phrase
  OptionalLabel : Option Identifier → Phrase
  -- what follows a target
  AnAssignment : Sign → Lhs → Stmt → Phrase
  ASign : Sign → Phrase

-- The phrase stands at the front of the first tokens, and the second are left. An option or repetition is
-- taken where the next token can begin it.
pub data Spells : Phrase → List Token → List Token → Type 0 where
  target_name : {x : Reference} {s a r : List Token} {t : Token}
      → Takes k.Word s a t
      → expressions.Spells (expressions.ASelect (identifier_of t) x) a r
      → Spells (ATarget (target.Reference x)) s r
  target_braces : {xs : List Lhs} {s a r : List Token} {t : Token}
      → Takes k.LeftBrace s a t
      → Spells (Braces xs) a r
      → Spells (ATarget (target.Concatenation t.at xs)) s r
  braces : {x : Lhs} {xs : List Lhs} {s a b r : List Token} {t : Token}
      → Spells (ATarget x) s a
      → Spells (TargetsBehind x xs) a b
      → Takes k.RightBrace b r t
      → Spells (Braces xs) s r
  targets_behind : {x : Lhs} {xs : List Lhs} {s r : List Token}
      → Spells (OtherTargets xs) s r
      → Spells (TargetsBehind x (x ∷ xs)) s r
  no_target : {s : List Token}
      → next s ≢ k.Comma
      → Spells (OtherTargets []) s s
  another_target : {x : Lhs} {xs : List Lhs} {s a b r : List Token} {t : Token}
      → Takes k.Comma s a t
      → Spells (ATarget x) a b
      → Spells (OtherTargets xs) b r
      → Spells (OtherTargets (x ∷ xs)) s r
  empty : {g : Sign} {s r : List Token} {t : Token}
      → Takes k.Semicolon s r t
      → Spells (AStatement g (statement.Empty t.at)) s r
  block : {g : Sign} {l : Option Identifier} {xs : List Stmt} {s a b c r : List Token} {t u : Token}
      → Takes k.Begin s a t
      → Spells (OptionalLabel l) a b
      → Spells (Statements g xs) b c
      → Takes k.BlockEnd c r u
      → Spells (AStatement g (statement.Block t.at l xs)) s r
  if_ : {g : Sign} {x : Stmt} {s a r : List Token} {t : Token}
      → Takes k.If s a t
      → Spells (AnIf g t.at x) a r
      → Spells (AStatement g x) s r
  case_ : {g : Sign} {x : Stmt} {s a r : List Token} {t : Token}
      → Takes k.Case s a t
      → Spells (ACase g Case t.at x) a r
      → Spells (AStatement g x) s r
  casez_ : {g : Sign} {x : Stmt} {s a r : List Token} {t : Token}
      → Takes k.Casez s a t
      → Spells (ACase g Casez t.at x) a r
      → Spells (AStatement g x) s r
  assign_name : {g : Sign} {x : Stmt} {y : Reference} {s a b r : List Token} {t : Token}
      → Takes k.Word s a t
      → expressions.Spells (expressions.ASelect (identifier_of t) y) a b
      → Spells (AnAssignment g (target.Reference y) x) b r
      → Spells (AStatement g x) s r
  assign_braces : {g : Sign} {x : Stmt} {ys : List Lhs} {s a b r : List Token} {t : Token}
      → Takes k.LeftBrace s a t
      → Spells (Braces ys) a b
      → Spells (AnAssignment g (target.Concatenation t.at ys) x) b r
      → Spells (AStatement g x) s r
  no_statement : {g : Sign} {s : List Token}
      → begins_statement (next s) ≡ false
      → Spells (Statements g []) s s
  another_statement : {g : Sign} {x : Stmt} {xs : List Stmt} {s a r : List Token}
      → begins_statement (next s) ≡ true
      → Spells (AStatement g x) s a
      → Spells (Statements g xs) a r
      → Spells (Statements g (x ∷ xs)) s r
  branch : {g : Sign} {at : Place} {x : Expr} {y z : Stmt} {s a b c d r : List Token} {t u : Token}
      → Takes k.LeftParen s a t
      → expressions.Spells (expressions.AnExpression x) a b
      → Takes k.RightParen b c u
      → Spells (AStatement g y) c d
      → Spells (Alternative g at x y z) d r
      → Spells (AnIf g at z) s r
  -- an `else` belongs to the nearest `if` (clause 9.4)
  if_alone : {g : Sign} {at : Place} {x : Expr} {y : Stmt} {s : List Token}
      → next s ≢ k.Else
      → Spells (Alternative g at x y (statement.If at x y)) s s
  if_else : {g : Sign} {at : Place} {x : Expr} {y z : Stmt} {s a r : List Token} {t : Token}
      → Takes k.Else s a t
      → Spells (AStatement g z) a r
      → Spells (Alternative g at x y (statement.IfElse at x y z)) s r
  choice : {g : Sign} {which : CaseKind} {at : Place} {x : Expr} {y : Arm} {ys : List Arm} {s a b c d f r : List Token} {t u v : Token}
      → Takes k.LeftParen s a t
      → expressions.Spells (expressions.AnExpression x) a b
      → Takes k.RightParen b c u
      → Spells (AnArm g which y) c d
      → Spells (ArmsBehind g which y ys) d f
      → Takes k.EndCase f r v
      → Spells (ACase g which at (statement.Case at which x ys)) s r
  arms_behind : {g : Sign} {which : CaseKind} {x : Arm} {xs : List Arm} {s r : List Token}
      → Spells (OtherArms g which xs) s r
      → Spells (ArmsBehind g which x (x ∷ xs)) s r
  no_arm : {g : Sign} {which : CaseKind} {s : List Token}
      → begins_arm which (next s) ≡ false
      → Spells (OtherArms g which []) s s
  another_arm : {g : Sign} {which : CaseKind} {x : Arm} {xs : List Arm} {s a r : List Token}
      → begins_arm which (next s) ≡ true
      → Spells (AnArm g which x) s a
      → Spells (OtherArms g which xs) a r
      → Spells (OtherArms g which (x ∷ xs)) s r
  default : {g : Sign} {which : CaseKind} {x : Stmt} {s a b r : List Token} {t : Token}
      → Takes k.Default s a t
      → Spells OptionalColon a b
      → Spells (AStatement g x) b r
      → Spells (AnArm g which (arm.Default t.at x)) s r
  matching : {g : Sign} {which : CaseKind} {l : Label} {ls : List Label} {x : Stmt} {s a b c r : List Token} {t : Token}
      → next s ≢ k.Default
      → Spells (ALabel which l) s a
      → Spells (LabelsBehind which l ls) a b
      → Takes k.Colon b c t
      → Spells (AStatement g x) c r
      → Spells (AnArm g which (arm.Match ls x)) s r
  colon : {s r : List Token} {t : Token}
      → Takes k.Colon s r t
      → Spells OptionalColon s r
  no_colon : {s : List Token}
      → next s ≢ k.Colon
      → Spells OptionalColon s s
  case_label : {x : Expr} {s r : List Token}
      → expressions.Spells (expressions.AnExpression x) s r
      → Spells (ALabel Case (label.Expr x)) s r
  casez_value : {x : Expr} {s r : List Token}
      → next s ≢ k.Wild
      → expressions.Spells (expressions.AnExpression x) s r
      → Spells (ALabel Casez (label.Expr x)) s r
  casez_pattern : {s r : List Token} {t : Token}
      → Takes k.Wild s r t
      → Spells (ALabel Casez (label.Pattern t.at (pattern_of t))) s r
  labels_behind : {which : CaseKind} {x : Label} {xs : List Label} {s r : List Token}
      → Spells (OtherLabels which xs) s r
      → Spells (LabelsBehind which x (x ∷ xs)) s r
  no_other_label : {which : CaseKind} {s : List Token}
      → next s ≢ k.Comma
      → Spells (OtherLabels which []) s s
  another_label : {which : CaseKind} {x : Label} {xs : List Label} {s a b r : List Token} {t : Token}
      → Takes k.Comma s a t
      → Spells (ALabel which x) a b
      → Spells (OtherLabels which xs) b r
      → Spells (OtherLabels which (x ∷ xs)) s r
  no_label : {s : List Token}
      → next s ≢ k.Colon
      → Spells (OptionalLabel None) s s
  a_label : {s a r : List Token} {t u : Token}
      → Takes k.Colon s a t
      → Takes k.Word a r u
      → Spells (OptionalLabel (Some (identifier_of u))) s r
  assigns : {g : Sign} {x : Lhs} {y : Expr} {s a b r : List Token} {t : Token}
      → Spells (ASign g) s a
      → expressions.Spells (expressions.AnExpression y) a b
      → Takes k.Semicolon b r t
      → Spells (AnAssignment g x (statement.Assign x y)) s r
  blocking : {s r : List Token} {t : Token}
      → Takes k.Equal s r t
      → Spells (ASign Blocking) s r
  nonblocking : {s r : List Token} {t : Token}
      → Takes k.LessEqual s r t
      → Spells (ASign Nonblocking) s r
