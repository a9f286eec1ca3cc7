-- Which expression stands for which tokens (IEEE 1364-2005, clauses 5.1 and 5.2).
use Rattle.std.specs.Prelude.{◌≡◌, ◌≢◌, ◌≤◌, ◌<◌, ℕ, ◌+◌, List, [], ◌∷◌, Option, Some, None}
use Rattle.ls_text.specs.declared.place.Place.{Place}
use Rattle.verilog_lex.specs.declared.token.Token.{Token}
use Rattle.verilog_lex.specs.declared.kind.Kind.{Kind}
use Rattle.verilog_lex.specs.declared.kind.Kind.TheVariants as k
use Rattle.verilog_ast.specs.declared.identifier.Identifier.{Identifier}
use Rattle.verilog_ast.specs.declared.unary_operator.UnaryOperator.{UnaryOperator}
use Rattle.verilog_ast.specs.declared.binary_operator.BinaryOperator.{BinaryOperator}
use Rattle.verilog_ast.specs.declared.expression.Expr.{Expr}
use Rattle.verilog_ast.specs.declared.expression.Expr.TheVariants as e
use Rattle.verilog_ast.specs.declared.expression.Reference.{Reference}
use Rattle.verilog_ast.specs.declared.expression.Reference.TheVariants as ref
use Rattle.verilog_ast.specs.declared.range.Range.{Range}
use Rattle.verilog_expr.specs.Tokens.{next, Takes, identifier_of, number_of, unary_operator, binary_operator, level}

pub data Phrase : Type 0 where
  AnExpression : Expr → Phrase
  -- with operators of this level and above
  AChain : ℕ → Expr → Phrase
  AnOperand : Expr → Phrase
  -- what follows a name
  ASelect : Identifier → Reference → Phrase
  -- what follows a name, an opening bracket and an expression
  APart : Identifier → Expr → Reference → Phrase
  -- what follows an opening brace and the first expression
  ABraced : Place → Expr → Expr → Phrase
  -- the expression, and further ones, which stand here
  Behind : Expr → List Expr → Phrase
  -- further expressions, each after a comma
  Others : List Expr → Phrase
  ARange : Range → Phrase

-- The phrase stands at the front of the first tokens, and the second are left. An option or repetition is
-- taken where the next token can begin it.
pub data Spells : Phrase → List Token → List Token → Type 0 where
  plain : {x : Expr} {s r : List Token}
      → Spells (AChain 0 x) s r
      → binary_operator (next r) ≡ None
      → next r ≢ k.Question
      → Spells (AnExpression x) s r
  conditional : {c x y : Expr} {s a b d f r : List Token} {t u : Token}
      → Spells (AChain 0 c) s a
      → Takes k.Question a b t
      → Spells (AnExpression x) b d
      → Takes k.Colon d f u
      → Spells (AnExpression y) f r
      → Spells (AnExpression (e.Conditional c x y)) s r
  one : {p : ℕ} {x : Expr} {s r : List Token}
      → Spells (AnOperand x) s r
      → Spells (AChain p x) s r
  binary : {p : ℕ} {op : BinaryOperator} {x y : Expr} {s a b r : List Token} {kind : Kind} {t : Token}
      → p ≤ level op
      → Spells (AChain (level op) x) s a
      → binary_operator kind ≡ Some op
      → Takes kind a b t
      → Spells (AChain (level op + 1) y) b r
      → Spells (AChain p (e.Binary op x y)) s r
  number : {s r : List Token} {t : Token}
      → Takes k.Number s r t
      → Spells (AnOperand (e.Number t.at (number_of t))) s r
  unary : {op : UnaryOperator} {x : Expr} {s a r : List Token} {kind : Kind} {t : Token}
      → Some op ≡ unary_operator kind
      → Takes kind s a t
      → Spells (AnOperand x) a r
      → Spells (AnOperand (e.Unary t.at op x)) s r
  read : {x : Reference} {s a r : List Token} {t : Token}
      → Takes k.Word s a t
      → Spells (ASelect (identifier_of t) x) a r
      → Spells (AnOperand (e.Read x)) s r
  bracketed : {x : Expr} {s a b r : List Token} {t u : Token}
      → Takes k.LeftParen s a t
      → Spells (AnExpression x) a b
      → Takes k.RightParen b r u
      → Spells (AnOperand (e.Bracketed t.at x)) s r
  braced : {x y : Expr} {s a b r : List Token} {t : Token}
      → Takes k.LeftBrace s a t
      → Spells (AnExpression x) a b
      → Spells (ABraced t.at x y) b r
      → Spells (AnOperand y) s r
  concatenation : {at : Place} {x : Expr} {all : List Expr} {s a r : List Token} {t : Token}
      → next s ≢ k.LeftBrace
      → Spells (Behind x all) s a
      → Takes k.RightBrace a r t
      → Spells (ABraced at x (e.Concatenation at all)) s r
  replication : {at : Place} {x y : Expr} {all : List Expr} {s a b c d r : List Token} {t u v : Token}
      → Takes k.LeftBrace s a t
      → Spells (AnExpression y) a b
      → Spells (Behind y all) b c
      → Takes k.RightBrace c d u
      → Takes k.RightBrace d r v
      → Spells (ABraced at x (e.Replication at x all)) s r
  behind : {x : Expr} {xs : List Expr} {s r : List Token}
      → Spells (Others xs) s r
      → Spells (Behind x (x ∷ xs)) s r
  no_other : {s : List Token}
      → next s ≢ k.Comma
      → Spells (Others []) s s
  another : {x : Expr} {xs : List Expr} {s a b r : List Token} {t : Token}
      → Takes k.Comma s a t
      → Spells (AnExpression x) a b
      → Spells (Others xs) b r
      → Spells (Others (x ∷ xs)) s r
  whole : {n : Identifier} {s : List Token}
      → next s ≢ k.LeftBracket
      → next s ≢ k.Dot
      → Spells (ASelect n (ref.Whole n)) s s
  select : {n : Identifier} {x : Expr} {y : Reference} {s a b c r : List Token} {t u : Token}
      → Takes k.LeftBracket s a t
      → Spells (AnExpression x) a b
      → Spells (APart n x y) b c
      → Takes k.RightBracket c r u
      → next r ≢ k.Dot
      → Spells (ASelect n y) s r
  bit : {n : Identifier} {x : Expr} {s : List Token}
      → next s ≢ k.Colon
      → next s ≢ k.PlusColon
      → next s ≢ k.MinusColon
      → Spells (APart n x (ref.Bit n x)) s s
  part : {n : Identifier} {x y : Expr} {s a r : List Token} {t : Token}
      → Takes k.Colon s a t
      → Spells (AnExpression y) a r
      → Spells (APart n x (ref.Part n x y)) s r
  upward : {n : Identifier} {x y : Expr} {s a r : List Token} {t : Token}
      → Takes k.PlusColon s a t
      → Spells (AnExpression y) a r
      → Spells (APart n x (ref.Upward n x y)) s r
  downward : {n : Identifier} {x y : Expr} {s a r : List Token} {t : Token}
      → Takes k.MinusColon s a t
      → Spells (AnExpression y) a r
      → Spells (APart n x (ref.Downward n x y)) s r
  range : {x y : Expr} {s a b c d r : List Token} {t u v : Token}
      → Takes k.LeftBracket s a t
      → Spells (AnExpression x) a b
      → Takes k.Colon b c u
      → Spells (AnExpression y) c d
      → Takes k.RightBracket d r v
      → Spells (ARange (record { high = x; low = y })) s r

-- the next token is no operator of this level or above
abbrev pub IsLooser : ℕ → Option BinaryOperator → Type 0
IsLooser least None = Unit {0}
IsLooser least (Some op) = level op < least

abbrev pub BindsLooser : ℕ → List Token → Type 0
BindsLooser least r = IsLooser least (binary_operator (next r))
