-- What an operator of the text does (IEEE Std 1364-2005, 5.1).
use Rattle.std.specs.Prelude.{Bool, if◌then◌else◌}
use Rattle.verilog_ast.specs.declared.unary_operator.UnaryOperator.{UnaryOperator}
use Rattle.verilog_ast.specs.declared.unary_operator.UnaryOperator.TheVariants.{Plus, Minus, LogicalNot, Invert, ReduceAnd, ReduceNand, ReduceOr, ReduceNor, ReduceXor, ReduceXnor}
use Rattle.verilog_ast.specs.declared.binary_operator.BinaryOperator.{BinaryOperator}
use Rattle.verilog_ast.specs.declared.binary_operator.BinaryOperator.TheVariants as written
use Rattle.typed_ir.specs.declared.unary_operator.UnaryOperator.TheVariants.{AllOnes, AnyOne, NoOne, OddOnes}
use Rattle.typed_ir.specs.declared.binary_operator.BinaryOperator.{BinaryOperator as Operator}
use Rattle.typed_ir.specs.declared.binary_operator.BinaryOperator.TheVariants.{Arithmetic, Compare, Logical, Shift}
use Rattle.typed_ir.specs.declared.arithmetic_operator.ArithmeticOperator.{ArithmeticOperator}
use Rattle.typed_ir.specs.declared.arithmetic_operator.ArithmeticOperator.TheVariants.{Sum, Difference, Product, Quotient, Remainder, And, Or, Xor, Xnor}
use Rattle.typed_ir.specs.declared.comparison.Comparison.{Comparison}
use Rattle.typed_ir.specs.declared.comparison.Comparison.TheVariants.{Equal, Unequal, Less, AtMost, Greater, AtLeast}
use Rattle.typed_ir.specs.declared.signedness.Signedness.TheVariants.{Unsigned}
use Rattle.typed_ir.specs.Sized.{signedness_of}
use Rattle.typed_ir.specs.declared.logical_operator.LogicalOperator.TheVariants.{Both, Either}
use Rattle.typed_ir.specs.declared.shift_operator.ShiftOperator.{ShiftOperator}
use Rattle.typed_ir.specs.declared.shift_operator.ShiftOperator.TheVariants.{Left, Right, Arithmetic as ArithmeticRight}
use Rattle.width_rules.specs.declared.kinds.UnaryKind.{UnaryKind}
use Rattle.width_rules.specs.declared.kinds.UnaryKind.TheVariants.{Kept, Negated, Inverted, OneBit, Complement}

-- an operator before its operand: `+` does nothing, `-` and `~` keep the operand's length, the others give one bit (5.1.5 to 5.1.11)
abbrev pub unary_kind : UnaryOperator → UnaryKind
unary_kind Plus = Kept
unary_kind Minus = Negated
unary_kind Invert = Inverted
unary_kind LogicalNot = OneBit NoOne
unary_kind ReduceAnd = OneBit AllOnes
unary_kind ReduceOr = OneBit AnyOne
unary_kind ReduceXor = OneBit OddOnes
unary_kind ReduceNand = Complement AllOnes
unary_kind ReduceNor = OneBit NoOne
unary_kind ReduceXnor = Complement OddOnes

-- an operator between its operands, read as unsigned ones; `<<<` is `<<`
abbrev pub operator_of : BinaryOperator → Operator
operator_of written.Multiply = Arithmetic Product
operator_of written.Divide = Arithmetic (Quotient Unsigned)
operator_of written.Remainder = Arithmetic (Remainder Unsigned)
operator_of written.Add = Arithmetic Sum
operator_of written.Subtract = Arithmetic Difference
operator_of written.ShiftLeft = Shift Left
operator_of written.ShiftRight = Shift Right
operator_of written.ArithmeticShiftLeft = Shift Left
operator_of written.ArithmeticShiftRight = Shift ArithmeticRight
operator_of written.Less = Compare (Less Unsigned)
operator_of written.LessOrEqual = Compare (AtMost Unsigned)
operator_of written.Greater = Compare (Greater Unsigned)
operator_of written.GreaterOrEqual = Compare (AtLeast Unsigned)
operator_of written.Equal = Compare Equal
operator_of written.NotEqual = Compare Unequal
operator_of written.And = Arithmetic And
operator_of written.Xor = Arithmetic Xor
operator_of written.Xnor = Arithmetic Xnor
operator_of written.Or = Arithmetic Or
operator_of written.LogicalAnd = Logical Both
operator_of written.LogicalOr = Logical Either

-- the same operator where its operands have this sign (5.1.5)
abbrev pub arithmetic_with : ArithmeticOperator → Bool → ArithmeticOperator
arithmetic_with Sum signed = Sum
arithmetic_with Difference signed = Difference
arithmetic_with Product signed = Product
arithmetic_with (Quotient other) signed = Quotient (signedness_of signed)
arithmetic_with (Remainder other) signed = Remainder (signedness_of signed)
arithmetic_with And signed = And
arithmetic_with Or signed = Or
arithmetic_with Xor signed = Xor
arithmetic_with Xnor signed = Xnor

-- (5.1.7)
abbrev pub comparison_with : Comparison → Bool → Comparison
comparison_with Equal signed = Equal
comparison_with Unequal signed = Unequal
comparison_with (Less other) signed = Less (signedness_of signed)
comparison_with (AtMost other) signed = AtMost (signedness_of signed)
comparison_with (Greater other) signed = Greater (signedness_of signed)
comparison_with (AtLeast other) signed = AtLeast (signedness_of signed)

-- `>>>` fills with zeros where the result is unsigned (5.1.12)
abbrev pub shift_with : ShiftOperator → Bool → ShiftOperator
shift_with Left signed = Left
shift_with Right signed = Right
shift_with ArithmeticRight signed = if signed then ArithmeticRight else Right
