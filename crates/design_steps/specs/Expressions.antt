-- How an expression is laid out as steps, and which constants it takes.
use Rattle.std.specs.Prelude.{max, ℕ, ◌+◌, ◌-◌, Bool, true, false, not, List, [], ◌∷◌, ◌++◌, if◌then◌else◌, nat_lt, nat_le, ◌&&◌, ◌||◌}
use Rattle.typed_ir.specs.declared.unary_operator.UnaryOperator.{UnaryOperator}
use Rattle.typed_ir.specs.declared.unary_operator.UnaryOperator.TheVariants.{Inverse as Inverse', Negative as Negative', AllOnes as AllOnes', AnyOne as AnyOne', NoOne as NoOne', OddOnes as OddOnes'}
use Rattle.typed_ir.specs.declared.arithmetic_operator.ArithmeticOperator.{ArithmeticOperator}
use Rattle.typed_ir.specs.declared.arithmetic_operator.ArithmeticOperator.TheVariants.{Sum as Sum', Difference as Difference', Product as Product', Quotient as Quotient', Remainder as Remainder', And as And', Or as Or', Xor as Xor', Xnor as Xnor'}
use Rattle.typed_ir.specs.declared.comparison.Comparison.{Comparison}
use Rattle.typed_ir.specs.declared.comparison.Comparison.TheVariants.{Equal as Equal', Unequal as Unequal', Less as Less', AtMost as AtMost', Greater as Greater', AtLeast as AtLeast'}
use Rattle.typed_ir.specs.declared.logical_operator.LogicalOperator.TheVariants.{Both as Both', Either as Either'}
use Rattle.typed_ir.specs.declared.shift_operator.ShiftOperator.TheVariants.{Left as Left', Right as Right', Arithmetic as Arithmetic'}
use Rattle.typed_ir.specs.declared.binary_operator.BinaryOperator.{BinaryOperator}
use Rattle.typed_ir.specs.declared.binary_operator.BinaryOperator.TheVariants.{Arithmetic as OfValues, Compare as OfOrder, Logical as OfTruth, Shift as OfShifts}
use Rattle.typed_ir.specs.declared.signedness.Signedness.TheVariants.{Signed, Unsigned}
use Rattle.typed_ir.specs.Sized.{Sized, Constant, Name, Part, Pick as Pick', Unary, Binary, Choice, Concat, Repeat, Resized, width_of, copies}
use Rattle.word_steps.specs.Sound.{is_long}
use Rattle.word_steps.specs.declared.step.Step.{Step}
use Rattle.word_steps.specs.declared.op.Op.{Op}
use Rattle.word_steps.specs.declared.op.Op.TheVariants.{Copy, Inverse, Negative, AllOnes, AnyOne, NoOne, OddOnes, Sum, Difference, Product, And, Or, Xor, Xnor, Quotient, Remainder, SignedQuotient, SignedRemainder, Equal, Unequal, Less, AtMost, SignedLess, SignedAtMost, Both, Either, Left, Right, Arithmetic, Choose, Select, Join, Extend, Locate, SignedLocate, Pick}
use Rattle.design_steps.specs.Plans.{Plan}

abbrev pub step : Op → ℕ → ℕ → Bool → ℕ → ℕ → ℕ → ℕ → Step
step op width low wide to a b c = record { op = op; width = width; low = low; wide = wide; to = to; a = a; b = b; c = c }

-- whether an operator on values of up to so many bits takes all bits of the words
abbrev pub is_wide : Op → ℕ → Bool
is_wide op width = is_long op || nat_lt 64 width

abbrev pub unary_op : UnaryOperator → Op
unary_op Inverse' = Inverse
unary_op Negative' = Negative
unary_op AllOnes' = AllOnes
unary_op AnyOne' = AnyOne
unary_op NoOne' = NoOne
unary_op OddOnes' = OddOnes

abbrev pub arithmetic_op : ArithmeticOperator → Op
arithmetic_op Sum' = Sum
arithmetic_op Difference' = Difference
arithmetic_op Product' = Product
arithmetic_op (Quotient' Signed) = SignedQuotient
arithmetic_op (Quotient' Unsigned) = Quotient
arithmetic_op (Remainder' Signed) = SignedRemainder
arithmetic_op (Remainder' Unsigned) = Remainder
arithmetic_op And' = And
arithmetic_op Or' = Or
arithmetic_op Xor' = Xor
arithmetic_op Xnor' = Xnor

-- a > b is b < a, and a >= b is b <= a
abbrev pub comparison_op : Comparison → Op
comparison_op Equal' = Equal
comparison_op Unequal' = Unequal
comparison_op (Less' Signed) = SignedLess
comparison_op (Less' Unsigned) = Less
comparison_op (AtMost' Signed) = SignedAtMost
comparison_op (AtMost' Unsigned) = AtMost
comparison_op (Greater' Signed) = SignedLess
comparison_op (Greater' Unsigned) = Less
comparison_op (AtLeast' Signed) = SignedAtMost
comparison_op (AtLeast' Unsigned) = AtMost

abbrev pub binary_op : BinaryOperator → Op
binary_op (OfValues op) = arithmetic_op op
binary_op (OfOrder op) = comparison_op op
binary_op (OfTruth Both') = Both
binary_op (OfTruth Either') = Either
binary_op (OfShifts Left') = Left
binary_op (OfShifts Right') = Right
binary_op (OfShifts Arithmetic') = Arithmetic

-- whether the step takes the operands the other way round
abbrev pub swaps : BinaryOperator → Bool
swaps (OfOrder (Greater' s)) = true
swaps (OfOrder (AtLeast' s)) = true
swaps op = false

abbrev pub locate_op : Bool → Op
locate_op signed = if signed then SignedLocate else Locate

-- a value of one width at another: filled with its sign, or cut
abbrev pub is_filled : ℕ → ℕ → Bool → Bool
is_filled from to signed = signed && nat_lt from to

abbrev pub resize_op : ℕ → ℕ → Bool → Op
resize_op from to signed = if is_filled from to signed then Extend else Select

abbrev pub resize_low : ℕ → ℕ → Bool → ℕ
resize_low from to signed = if is_filled from to signed then from - 1 else 0

-- whether the value stays as it is
abbrev pub is_plain : ℕ → ℕ → Bool → Bool
is_plain from to signed = nat_le from to && not (is_filled from to signed)

-- where the value of an expression stands that is laid out at the mark: constants and names stand somewhere already
abbrev pub operand : Plan → Sized → ℕ → ℕ
operand l (Constant width value) mark = l.place value
operand l (Name signal width) mark = l.slot signal
operand l (Part span) mark = mark
operand l (Pick' signal width below signed index) mark = mark
operand l (Unary op a) mark = mark
operand l (Binary op a b) mark = mark
operand l (Choice c a b) mark = mark
operand l (Concat width a b) mark = mark
operand l (Repeat width count a) mark = mark
operand l (Resized a width signed) mark = if is_plain (width_of a) width signed then operand l a mark else mark

abbrev mutual
  -- the steps that put it there, with temporary places from the mark on; of an expression that stands nowhere these are `steps`
  pub before : Plan → Sized → ℕ → List Step → List Step
  before l (Constant width value) mark steps = []
  before l (Name signal width) mark steps = []
  before l (Part span) mark steps = steps
  before l (Pick' signal width below signed index) mark steps = steps
  before l (Unary op a) mark steps = steps
  before l (Binary op a b) mark steps = steps
  before l (Choice c a b) mark steps = steps
  before l (Concat width a b) mark steps = steps
  before l (Repeat width count a) mark steps = steps
  before l (Resized a width signed) mark steps =
      if is_plain (width_of a) width signed then before l a mark (code l a mark mark) else steps

  -- the steps that put the value of an expression at the place `to`, with temporary places from the mark on
  pub code : Plan → Sized → ℕ → ℕ → List Step
  code l (Constant width value) to mark = step Copy 1 0 (is_wide Copy width) to (l.place value) 0 0 ∷ []
  code l (Name signal width) to mark = step Copy 1 0 (is_wide Copy width) to (l.slot signal) 0 0 ∷ []
  code l (Part span) to mark = step Select span.width span.low (is_wide Select (span.low + span.width)) to (l.slot span.signal) 0 0 ∷ []
  code l (Pick' signal width below signed index) to mark =
      (before l index mark (code l index mark mark)
      ++ step (locate_op signed) (width_of index) 0 true mark (operand l index mark) (l.place below) 0 ∷ [])
      ++ step Pick width 0 true to (l.slot signal) mark 0 ∷ []
  code l (Unary op a) to mark =
      before l a mark (code l a mark mark)
      ++ step (unary_op op) (width_of a) 0 (is_wide (unary_op op) (width_of a)) to (operand l a mark) 0 0 ∷ []
  code l (Binary op a b) to mark =
      (before l a mark (code l a mark mark) ++ before l b (mark + 1) (code l b (mark + 1) (mark + 1)))
      ++ step (binary_op op) (width_of a) 0 (is_wide (binary_op op) (max (width_of a) (width_of b))) to
      (if swaps op then operand l b (mark + 1) else operand l a mark) (if swaps op then operand l a mark else operand l b (mark + 1)) 0 ∷ []
  code l (Choice c a b) to mark =
      ((before l c mark (code l c mark mark) ++ before l a (mark + 1) (code l a (mark + 1) (mark + 1)))
      ++ before l b (mark + 1 + 1) (code l b (mark + 1 + 1) (mark + 1 + 1)))
      ++ step Choose 1 0 (is_wide Choose (max (width_of c) (max (width_of a) (width_of b)))) to
      (operand l c mark) (operand l a (mark + 1)) (operand l b (mark + 1 + 1)) ∷ []
  code l (Concat width a b) to mark =
      (before l a mark (code l a mark mark) ++ before l b (mark + 1) (code l b (mark + 1) (mark + 1)))
      ++ step Join width (width_of b) (is_wide Join width) to (operand l a mark) (operand l b (mark + 1)) 0 ∷ []
  -- copies of a are its product with copies of 1
  code l (Repeat width count a) to mark =
      before l a mark (code l a mark mark)
      ++ step Product width 0 (is_wide Product width) to (operand l a mark) (l.place (copies count (width_of a) 1)) 0 ∷ []
  code l (Resized a width signed) to mark =
      before l a mark (code l a mark mark)
      ++ step (resize_op (width_of a) width signed) width (resize_low (width_of a) width signed)
      (is_wide (resize_op (width_of a) width signed) (max (width_of a) width)) to (operand l a mark) 0 0 ∷ []

-- the constants that its steps read
abbrev pub constants_of : Sized → List ℕ
constants_of (Constant width value) = value ∷ []
constants_of (Name signal width) = []
constants_of (Part span) = []
constants_of (Pick' signal width below signed index) = constants_of index ++ below ∷ []
constants_of (Unary op a) = constants_of a
constants_of (Binary op a b) = constants_of a ++ constants_of b
constants_of (Choice c a b) = constants_of c ++ (constants_of a ++ constants_of b)
constants_of (Concat width a b) = constants_of a ++ constants_of b
constants_of (Repeat width count a) = constants_of a ++ copies count (width_of a) 1 ∷ []
constants_of (Resized a width signed) = constants_of a
