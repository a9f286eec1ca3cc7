-- One expression within a list of tokens.
use Rattle.std.specs.Prelude.{◌<◌, ℕ, List, [], ◌∷◌, length, drop, Ok}
use Rattle.verilog_lex.specs.declared.token.Token.{Token}
use Rattle.verilog_ast.specs.declared.expression.Expr.{Expr}
use Rattle.verilog_expr.specs.declared.parsed_expr.ParsedExpr.{ParsedExpr}
use Rattle.verilog_expr.specs.Grammar as grammar
use Rattle.verilog_expr.specs.Grammar.{Symbol, N}
use Rattle.verilog_expr.specs.Machine.{Run}
use Rattle.verilog_expr.specs.Spells.{Spells, AnExpression}

-- the symbols that the machine begins with, where so much is open at the first token
abbrev pub expression : ℕ → List Symbol
expression weight = N grammar.AnExpression weight ∷ []

-- The expression stands for the tokens from the one to the other, and the machine takes just these. It is the
-- longest one, as `Spells` takes an option or a repetition where the next token can begin it.
pub record StandsFrom (tokens : List Token) (from weight : ℕ) (x : ParsedExpr) : Type 0 where
  pub tree : Spells (AnExpression x.expr) (drop from tokens) (drop x.next tokens)
  pub taken : Run (expression weight) (drop from tokens) (Ok (drop x.next tokens))
  pub some : from < x.next
  pub inside : x.next < length tokens

-- some expression stands at the front of the tokens
pub record BeginsWithExpression (s : List Token) : Type 0 where
  pub expression : Expr
  pub rest : List Token
  pub tree : Spells (AnExpression expression) s rest
