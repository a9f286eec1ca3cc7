use Rattle.std.proofs.Common.{◌≡◌, ◌≤◌, ◌<◌, ◌^◌, ◌*◌, ◌+◌, length, List, [], ◌∷◌, ◌++◌, Some}
use Rattle.verilog_ast.specs.declared.binary_operator.BinaryOperator.{BinaryOperator}
use Rattle.verilog_ast.specs.declared.expression.Expr.{Expr}
use Rattle.verilog_lex.specs.declared.token.Token.{Token}
use Rattle.verilog_expr.specs.Tokens.{next, binary_operator, level}
use Rattle.verilog_expr.specs.Grammar.{N, Operand, Tail, More}
use Rattle.verilog_expr.specs.Reads.{Leads}
use Rattle.verilog_expr.specs.Spells.{Spells, AChain, Others, Behind}
use Rattle.verilog_expr.proofs.parser.Parser.+expression.Given as goal

abbrev pub decreases-read_select : goal.decreases-read_select
decreases-read_select l = 8 * length l.self.now

abbrev pub decreases-part : goal.decreases-part
decreases-part l = 8 * length l.self.now

abbrev pub decreases-read_expression : goal.decreases-read_expression
decreases-read_expression l = 8 * length l.self.now + 2

abbrev pub decreases-operand : goal.decreases-operand
decreases-operand l = 8 * length l.self.now

abbrev pub decreases-chain : goal.decreases-chain
decreases-chain l = 8 * length l.self.now + 1

abbrev pub invariant-chain-loop-op : goal.invariant-chain-loop-op
invariant-chain-loop-op l = record {
  machine : Leads (N Operand l.weight ∷ N Tail l.weight ∷ []) l.fn.self (N Tail l.inner ∷ []) l.self;
  tree : Spells (AChain l.least l.left) l.fn.self l.self;
  goes_on : (op : BinaryOperator) → binary_operator (next l.self) ≡ Some op → l.least ≤ level op → Spells (AChain (level op) l.left) l.fn.self l.self;
  shorter : length l.self < length l.fn.self;
  light : l.inner < 2 ^ 31;
}

abbrev pub decreases-chain-loop-op : goal.decreases-chain-loop-op
decreases-chain-loop-op l = length l.self

abbrev pub decreases-braced : goal.decreases-braced
decreases-braced l = 8 * length l.self.now + 3

abbrev pub decreases-more : goal.decreases-more
decreases-more l = 8 * length l.self.now

abbrev pub invariant-more-items : goal.invariant-more-items
invariant-more-items l = record {
  machine : Leads (N More l.weight ∷ []) l.fn.self (N More l.weight ∷ []) l.self;
  tree : (xs : List Expr) (r : List Token) → Spells (Others xs) l.self r → Spells (Behind l.fn.first (l.all ++ xs)) l.fn.self r;
  shorter : length l.self ≤ length l.fn.self;
}

abbrev pub decreases-more-items : goal.decreases-more-items
decreases-more-items l = length l.self
