-- The tokens that are left, and what a token says.
use Rattle.std.specs.Prelude.{◌≡◌, ◌≢◌, ℕ, List, [], ◌∷◌, Option, Some, None}
use Rattle.ls_text.specs.declared.place.Place.{Place}
use Rattle.verilog_lex.specs.declared.token.Token.{Token}
use Rattle.verilog_lex.specs.declared.kind.Kind.{Kind}
use Rattle.verilog_lex.specs.declared.kind.Kind.TheVariants as k
use Rattle.verilog_ast.specs.declared.identifier.Identifier.{Identifier}
use Rattle.verilog_ast.specs.declared.number.Number.{Number}
use Rattle.verilog_ast.specs.declared.pattern.Pattern.{Pattern}
use Rattle.verilog_ast.specs.declared.unary_operator.UnaryOperator.{UnaryOperator}
use Rattle.verilog_ast.specs.declared.unary_operator.UnaryOperator.TheVariants as u
use Rattle.verilog_ast.specs.declared.binary_operator.BinaryOperator.{BinaryOperator}
use Rattle.verilog_ast.specs.declared.binary_operator.BinaryOperator.TheVariants as b

abbrev pub next : List Token → Kind
next [] = k.End
next (token ∷ rest) = token.kind

-- where the next token stands
abbrev pub place_at : List Token → Place
place_at [] = record { file = 0; line = 1; col = 1 }
place_at (token ∷ rest) = token.at

-- no token of this kind is next
abbrev pub Differs : Kind → List Token → Type 0
Differs kind [] = Unit {0}
Differs kind (token ∷ rest) = token.kind ≢ kind

-- a token of this kind, and then the rest
pub data Takes (kind : Kind) (s r : List Token) : Token → Type 0 where
  taken : {token : Token}
      → s ≡ token ∷ r
      → token.kind ≡ kind
      → Takes kind s r token

-- the most that may be open at a token
abbrev pub max_weight : ℕ
max_weight = 256

abbrev pub identifier_of : Token → Identifier
identifier_of token = record { at = token.at; name = token.text }

abbrev pub number_of : Token → Number
number_of token = record { size = token.literal.size; signed = token.literal.signed; value = token.literal.value }

abbrev pub pattern_of : Token → Pattern
pattern_of token = record { size = token.literal.size; value = token.literal.value; mask = token.literal.mask }

-- operators before their operand
abbrev pub unary_operator : Kind → Option UnaryOperator
unary_operator k.Plus = Some u.Plus
unary_operator k.Minus = Some u.Minus
unary_operator k.Bang = Some u.LogicalNot
unary_operator k.Tilde = Some u.Invert
unary_operator k.Ampersand = Some u.ReduceAnd
unary_operator k.TildeAmpersand = Some u.ReduceNand
unary_operator k.Bar = Some u.ReduceOr
unary_operator k.TildeBar = Some u.ReduceNor
unary_operator k.Caret = Some u.ReduceXor
unary_operator k.TildeCaret = Some u.ReduceXnor
unary_operator k.CaretTilde = Some u.ReduceXnor
unary_operator _ = None

-- operators between their operands
abbrev pub binary_operator : Kind → Option BinaryOperator
binary_operator k.Star = Some b.Multiply
binary_operator k.Slash = Some b.Divide
binary_operator k.Percent = Some b.Remainder
binary_operator k.Plus = Some b.Add
binary_operator k.Minus = Some b.Subtract
binary_operator k.ShiftLeft = Some b.ShiftLeft
binary_operator k.ShiftRight = Some b.ShiftRight
binary_operator k.SignedShiftLeft = Some b.ArithmeticShiftLeft
binary_operator k.SignedShiftRight = Some b.ArithmeticShiftRight
binary_operator k.Less = Some b.Less
binary_operator k.LessEqual = Some b.LessOrEqual
binary_operator k.Greater = Some b.Greater
binary_operator k.GreaterEqual = Some b.GreaterOrEqual
binary_operator k.EqualEqual = Some b.Equal
binary_operator k.NotEqual = Some b.NotEqual
binary_operator k.Ampersand = Some b.And
binary_operator k.Caret = Some b.Xor
binary_operator k.TildeCaret = Some b.Xnor
binary_operator k.CaretTilde = Some b.Xnor
binary_operator k.Bar = Some b.Or
binary_operator k.LogicalAnd = Some b.LogicalAnd
binary_operator k.LogicalOr = Some b.LogicalOr
binary_operator _ = None

-- what binds tighter has the higher level (IEEE 1364-2005, clause 5.1.2)
abbrev pub level : BinaryOperator → ℕ
level b.Multiply = 9
level b.Divide = 9
level b.Remainder = 9
level b.Add = 8
level b.Subtract = 8
level b.ShiftLeft = 7
level b.ShiftRight = 7
level b.ArithmeticShiftLeft = 7
level b.ArithmeticShiftRight = 7
level b.Less = 6
level b.LessOrEqual = 6
level b.Greater = 6
level b.GreaterOrEqual = 6
level b.Equal = 5
level b.NotEqual = 5
level b.And = 4
level b.Xor = 3
level b.Xnor = 3
level b.Or = 2
level b.LogicalAnd = 1
level b.LogicalOr = 0
