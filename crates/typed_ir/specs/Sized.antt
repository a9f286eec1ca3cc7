-- Sized expressions: each part has its width, and the value of a part is a whole number below 2 ^ width (IEEE Std 1364-2005, 5.1).
use Rattle.std.specs.Prelude.{List, length, slice_index, ℕ, zero, suc, ◌+◌, ◌-◌, ◌*◌, ◌/◌, ◌%◌, ◌^◌, Bool, true, false, not, ◌&&◌, ◌||◌, ◌==◌, nat_le, nat_lt, if◌then◌else◌, bit_and, bit_or, bit_xor, count_ones, ℤ, pos, ◌-ℤ◌}
use Rattle.std.specs.Int.{int_shr}
use Rattle.bits.specs.Values.{signed_of, wrapped, resized, quotient, remainder, is_below}
use Rattle.bits.specs.Runs.{selected}
use Rattle.typed_ir.specs.declared.span.Span.{Span}
use Rattle.typed_ir.specs.declared.unary_operator.UnaryOperator.{UnaryOperator}
use Rattle.typed_ir.specs.declared.unary_operator.UnaryOperator.TheVariants.{Inverse, Negative, AllOnes, AnyOne, NoOne, OddOnes}
use Rattle.typed_ir.specs.declared.arithmetic_operator.ArithmeticOperator.{ArithmeticOperator}
use Rattle.typed_ir.specs.declared.arithmetic_operator.ArithmeticOperator.TheVariants.{Sum, Difference, Product, Quotient, Remainder, And, Or, Xor, Xnor}
use Rattle.typed_ir.specs.declared.comparison.Comparison.{Comparison}
use Rattle.typed_ir.specs.declared.comparison.Comparison.TheVariants.{Equal, Unequal, Less, AtMost, Greater, AtLeast}
use Rattle.typed_ir.specs.declared.signedness.Signedness.{Signedness}
use Rattle.typed_ir.specs.declared.signedness.Signedness.TheVariants.{Signed, Unsigned}
use Rattle.typed_ir.specs.declared.logical_operator.LogicalOperator.{LogicalOperator}
use Rattle.typed_ir.specs.declared.logical_operator.LogicalOperator.TheVariants.{Both, Either}
use Rattle.typed_ir.specs.declared.shift_operator.ShiftOperator.{ShiftOperator}
use Rattle.typed_ir.specs.declared.shift_operator.ShiftOperator.TheVariants.{Left, Right, Arithmetic as ArithmeticRight}
use Rattle.typed_ir.specs.declared.binary_operator.BinaryOperator.{BinaryOperator}
use Rattle.typed_ir.specs.declared.binary_operator.BinaryOperator.TheVariants.{Arithmetic, Compare, Logical, Shift}
use Rattle.typed_ir.specs.Valuations.{Valuation, Places, within}

pub data Sized : Type 0 where
  Constant : (width value : ℕ) → Sized
  -- a signal as a whole
  Name : (signal width : ℕ) → Sized
  -- a select whose bits are known, counted from the signal's lowest bit
  Part : (span : Span) → Sized
  -- `width` bits of a signal from a place that is known at run time: the index by its own type, less `below`
  Pick : (signal width below : ℕ) (signed : Bool) (index : Sized) → Sized
  Unary : (op : UnaryOperator) (a : Sized) → Sized
  Binary : (op : BinaryOperator) (a b : Sized) → Sized
  -- c ? a : b
  Choice : (c a b : Sized) → Sized
  -- a above b, at the width of both together
  Concat : (width : ℕ) (a b : Sized) → Sized
  -- so many copies of a, at the width of all together
  Repeat : (width count : ℕ) (a : Sized) → Sized
  -- a at another width, extended by its sign where it is signed
  Resized : (a : Sized) (width : ℕ) (signed : Bool) → Sized

-- ---- widths (5.4.1)

abbrev pub unary_width : UnaryOperator → ℕ → ℕ
unary_width Inverse width = width
unary_width Negative width = width
unary_width AllOnes width = 1
unary_width AnyOne width = 1
unary_width NoOne width = 1
unary_width OddOnes width = 1

-- by the width of the first operand
abbrev pub binary_width : BinaryOperator → ℕ → ℕ
binary_width (Arithmetic op) width = width
binary_width (Compare op) width = 1
binary_width (Logical op) width = 1
binary_width (Shift op) width = width

abbrev pub width_of : Sized → ℕ
width_of (Constant width value) = width
width_of (Name signal width) = width
width_of (Part span) = span.width
width_of (Pick signal width below signed index) = width
width_of (Unary op a) = unary_width op (width_of a)
width_of (Binary op a b) = binary_width op (width_of a)
width_of (Choice c a b) = width_of a
width_of (Concat width a b) = width
width_of (Repeat width count a) = width
width_of (Resized a width signed) = width

-- ---- values

-- 1 or 0 (5.1.7 to 5.1.9)
abbrev pub truth_value : Bool → ℕ
truth_value b = if b then 1 else 0

-- whether operands are read as signed values (5.5)
abbrev pub is_signed : Signedness → Bool
is_signed Signed = true
is_signed Unsigned = false

abbrev pub signedness_of : Bool → Signedness
signedness_of signed = if signed then Signed else Unsigned

-- the complement (5.1.10), the negative (5.1.5), the reductions & | ^ (5.1.11), and ! or ~| (5.1.9)
abbrev pub apply_unary : UnaryOperator → ℕ → ℕ → ℕ
apply_unary Inverse width x = 2 ^ width - 1 - x
apply_unary Negative width x = (2 ^ width - x) % 2 ^ width
apply_unary AllOnes width x = truth_value (x == 2 ^ width - 1)
apply_unary AnyOne width x = truth_value (not (x == 0))
apply_unary NoOne width x = truth_value (x == 0)
apply_unary OddOnes width x = truth_value (count_ones x % 2 == 1)

-- two operands of one width (5.1.5, 5.1.10)
abbrev pub apply_arithmetic : ArithmeticOperator → ℕ → ℕ → ℕ → ℕ
apply_arithmetic Sum width x y = (x + y) % 2 ^ width
apply_arithmetic Difference width x y = (x + (2 ^ width - y)) % 2 ^ width
apply_arithmetic Product width x y = (x * y) % 2 ^ width
apply_arithmetic (Quotient s) width x y = quotient width (is_signed s) x y
apply_arithmetic (Remainder s) width x y = remainder width (is_signed s) x y
apply_arithmetic And width x y = bit_and x y
apply_arithmetic Or width x y = bit_or x y
apply_arithmetic Xor width x y = bit_xor x y
apply_arithmetic Xnor width x y = 2 ^ width - 1 - bit_xor x y

-- two operands of one width (5.1.7, 5.1.8)
abbrev pub apply_comparison : Comparison → ℕ → ℕ → ℕ → Bool
apply_comparison Equal width x y = x == y
apply_comparison Unequal width x y = not (x == y)
apply_comparison (Less s) width x y = is_below width (is_signed s) x y
apply_comparison (AtMost s) width x y = not (is_below width (is_signed s) y x)
apply_comparison (Greater s) width x y = is_below width (is_signed s) y x
apply_comparison (AtLeast s) width x y = not (is_below width (is_signed s) x y)

-- && and || (5.1.9)
abbrev pub apply_logical : LogicalOperator → ℕ → ℕ → Bool
apply_logical Both x y = not (x == 0) && not (y == 0)
apply_logical Either x y = not (x == 0) || not (y == 0)

-- by an unsigned amount (5.1.12)
abbrev pub apply_shift : ShiftOperator → ℕ → ℕ → ℕ → ℕ
apply_shift Left width x by = (x * 2 ^ by) % 2 ^ width
apply_shift Right width x by = x / 2 ^ by
apply_shift ArithmeticRight width x by = wrapped width (int_shr (signed_of width x) by)

abbrev pub apply_binary : BinaryOperator → ℕ → ℕ → ℕ → ℕ
apply_binary (Arithmetic op) width x y = apply_arithmetic op width x y
apply_binary (Compare op) width x y = truth_value (apply_comparison op width x y)
apply_binary (Logical op) width x y = truth_value (apply_logical op x y)
apply_binary (Shift op) width x y = apply_shift op width x y

-- where a select at run time begins: the index by its own type, less `below` (5.2.1)
abbrev pub place_of : ℕ → Bool → ℕ → ℕ → ℤ
place_of below signed width index = (if signed then signed_of width index else pos index) -ℤ pos below

-- so many copies of x, of this width (5.1.14)
abbrev pub copies : ℕ → ℕ → ℕ → ℕ
copies zero width x = 0
copies (suc count) width x = copies count width x * 2 ^ width + x

-- selects 5.2.1, `?:` 5.1.13, concatenation and replication 5.1.14, resizing 5.5.2
abbrev pub value_of : Sized → Valuation → ℕ
value_of (Constant width value) env = value
value_of (Name signal width) env = env signal
value_of (Part span) env = env span.signal / 2 ^ span.low % 2 ^ span.width
value_of (Pick signal width below signed index) env =
    selected (env signal) (place_of below signed (width_of index) (value_of index env)) width
value_of (Unary op a) env = apply_unary op (width_of a) (value_of a env)
value_of (Binary op a b) env = apply_binary op (width_of a) (value_of a env) (value_of b env)
value_of (Choice c a b) env = if value_of c env == 0 then value_of b env else value_of a env
value_of (Concat width a b) env = value_of a env * 2 ^ width_of b + value_of b env
value_of (Repeat width count a) env = copies count (width_of a) (value_of a env)
value_of (Resized a width signed) env = resized (width_of a) (value_of a env) width signed

-- ---- reads

-- the bits that the text reads: a select whose bits are known its bits, a name and a select at run time the whole signal
abbrev pub reads : Sized → Places
reads (Constant width value) = λ s i. false
reads (Name signal width) = λ s i. s == signal
reads (Part span) = within span
reads (Pick signal width below signed index) = λ s i. (s == signal) || reads index s i
reads (Unary op a) = reads a
reads (Binary op a b) = λ s i. reads a s i || reads b s i
reads (Choice c a b) = λ s i. reads c s i || (reads a s i || reads b s i)
reads (Concat width a b) = λ s i. reads a s i || reads b s i
reads (Repeat width count a) = reads a
reads (Resized a width signed) = reads a

-- ---- widths that agree

abbrev pub is_width : ℕ → Bool
is_width width = nat_le 1 width && nat_le width 128

-- whether an operator takes operands of these widths
abbrev pub takes_widths : BinaryOperator → ℕ → ℕ → Bool
takes_widths (Arithmetic op) a b = a == b
takes_widths (Compare op) a b = a == b
takes_widths (Logical op) a b = true
takes_widths (Shift op) a b = true

-- whether the widths within an expression agree, and are 1 to 128; that of a concatenation is the sum of its parts', that of a
-- replication so many times its part's (5.4.1)
abbrev pub agrees : Sized → Bool
agrees (Constant width value) = is_width width && nat_lt value (2 ^ width)
agrees (Name signal width) = is_width width
agrees (Part span) = nat_le 1 span.width && nat_le (span.low + span.width) 128
agrees (Pick signal width below signed index) = is_width width && agrees index
agrees (Unary op a) = agrees a
agrees (Binary op a b) = takes_widths op (width_of a) (width_of b) && (agrees a && agrees b)
agrees (Choice c a b) = (width_of a == width_of b) && (agrees c && (agrees a && agrees b))
agrees (Concat width a b) = (width == width_of a + width_of b) && (nat_le width 128 && (agrees a && agrees b))
agrees (Repeat width count a) = (width == count * width_of a) && (nat_le 1 count && (nat_le width 128 && agrees a))
agrees (Resized a width signed) = is_width width && agrees a

-- a signal has this number and width
abbrev pub is_signal : ℕ → ℕ → List ℕ → Bool
is_signal signal width widths = nat_lt signal (length widths) && (slice_index widths signal == width)

-- the span lies in its signal
abbrev pub is_span : Span → List ℕ → Bool
is_span span widths =
    nat_lt span.signal (length widths)
    && (nat_le 1 span.width && nat_le (span.low + span.width) (slice_index widths span.signal))

-- whether each signal that is read is there, with the width that the expression has for it
abbrev pub fits_signals : Sized → List ℕ → Bool
fits_signals (Constant width value) widths = true
fits_signals (Name signal width) widths = is_signal signal width widths
fits_signals (Part span) widths = is_span span widths
fits_signals (Pick signal width below signed index) widths = nat_lt signal (length widths) && fits_signals index widths
fits_signals (Unary op a) widths = fits_signals a widths
fits_signals (Binary op a b) widths = fits_signals a widths && fits_signals b widths
fits_signals (Choice c a b) widths = fits_signals c widths && (fits_signals a widths && fits_signals b widths)
fits_signals (Concat width a b) widths = fits_signals a widths && fits_signals b widths
fits_signals (Repeat width count a) widths = fits_signals a widths
fits_signals (Resized a width signed) widths = fits_signals a widths
