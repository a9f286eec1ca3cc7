-- Expressions of which the context's length and sign haven't gone down yet: what the first walk of the code gives. Only operators
-- whose operands the context decides are left open; all else is sized already.
use Rattle.std.specs.Prelude.{ℕ, ◌-◌, ◌*◌, ◌%◌, ◌^◌, max, Bool, ◌&&◌}
use Rattle.typed_ir.specs.declared.unary_operator.UnaryOperator.TheVariants as operator
use Rattle.typed_ir.specs.declared.binary_operator.BinaryOperator.{BinaryOperator as Operator}
use Rattle.typed_ir.specs.declared.binary_operator.BinaryOperator.TheVariants.{Arithmetic, Compare, Logical, Shift}
use Rattle.typed_ir.specs.declared.arithmetic_operator.ArithmeticOperator.{ArithmeticOperator}
use Rattle.typed_ir.specs.declared.shift_operator.ShiftOperator.{ShiftOperator}
use Rattle.typed_ir.specs.Sized as s
use Rattle.typed_ir.specs.Sized.{Sized, width_of}
use Rattle.typed_ir.specs.Forms.{sized}
use Rattle.verilog_ast.specs.Expressions as e
use Rattle.verilog_ast.specs.Expressions.{Expression}
use Rattle.width_rules.specs.declared.kinds.UnaryKind.{UnaryKind}
use Rattle.width_rules.specs.declared.kinds.UnaryKind.TheVariants.{Kept, Negated, Inverted, OneBit, Complement}
use Rattle.width_rules.specs.declared.opened.Open.{Open}
use Rattle.width_rules.specs.declared.opened.Open.TheOpen.{Open-F}
use Rattle.width_rules.specs.declared.opened.Open.TheFolds.{fold-Open}
use Rattle.width_rules.specs.Operators.{unary_kind, operator_of, arithmetic_with, comparison_with, shift_with}
use Rattle.width_rules.specs.Scopes.{Meaning, Signal, Constant, Turn, Genvar, Unknown, Scope}
use Rattle.width_rules.specs.Signs.{is_signed}
use Rattle.width_rules.specs.Sizes.{length, push, joined, literal_length, is_constant, count_of, bits_between, bits_at, bits_from, extended, constant_at}
use Rattle.width_rules.specs.Constants.{integer}

pub data Opened : Type 0 where
  Number : (width value : ℕ) → Opened
  Simple : (e : Sized) → Opened
  Negative : (a : Opened) → Opened
  Inverse : (a : Opened) → Opened
  Calculation : (op : ArithmeticOperator) (a b : Opened) → Opened
  Shifted : (op : ShiftOperator) (a : Opened) (by : Sized) → Opened
  Choice : (c : Sized) (a b : Opened) → Opened

-- at a length and a sign
abbrev pub closed : Opened → ℕ → Bool → Sized
closed (Number width value) l t = constant_at width value l t
closed (Simple e) l t = extended e l t
closed (Negative a) l t = s.Unary operator.Negative (closed a l t)
closed (Inverse a) l t = s.Unary operator.Inverse (closed a l t)
closed (Calculation op a b) l t = s.Binary (Arithmetic (arithmetic_with op t)) (closed a l t) (closed b l t)
closed (Shifted op a by) l t = s.Binary (Shift (shift_with op t)) (closed a l t) by
closed (Choice c a b) l t = s.Choice c (closed a l t) (closed b l t)

-- what one of the code means
abbrev pub open_step : Open-F Opened → Opened
open_step (Open-F.Number b) = Number b.width b.value
open_step (Open-F.Simple e) = Simple (sized e.form)
open_step (Open-F.Negative a) = Negative a
open_step (Open-F.Inverse a) = Inverse a
open_step (Open-F.Calculation op a b) = Calculation op a b
open_step (Open-F.Shifted op a by) = Shifted op a (sized by.form)
open_step (Open-F.Choice c a b) = Choice (sized c.form) a b

abbrev pub opened : Open → Opened
opened = fold-Open Opened open_step

-- ---- of an expression

abbrev pub own : Scope → Expression → Sized
own scope x = push scope x (length scope x) (is_signed scope x)

abbrev pub open_name : Meaning → Opened
open_name (Signal signal width lsb signed writer) = Simple (s.Name signal width)
open_name (Constant width value signed) = Number width value
open_name (Turn width value signed) = Number width value
open_name Genvar = Number 1 0
open_name Unknown = Number 1 0

-- by what the operand is open, and what it is by itself
abbrev pub open_unary : UnaryKind → Opened → Sized → Opened
open_unary Kept a x = a
open_unary Negated a x = Negative a
open_unary Inverted a x = Inverse a
open_unary (OneBit op) a x = Simple (s.Unary op x)
open_unary (Complement op) a x = Simple (s.Unary operator.Inverse (s.Unary op x))

-- by what both operands are open, what they are by themselves, and the length and the sign that both have together
abbrev pub open_binary : Operator → Opened → Opened → Sized → Sized → ℕ → Bool → Opened
open_binary (Arithmetic op) a b x y both sign = Calculation op a b
open_binary (Shift op) a b x y both sign = Shifted op a y
open_binary (Compare op) a b x y both sign = Simple (s.Binary (Compare (comparison_with op sign)) (closed a both sign) (closed b both sign))
open_binary (Logical op) a b x y both sign = Simple (s.Binary (Logical op) x y)

abbrev pub open_of : Scope → Expression → Opened
open_of scope (e.Literal at x) = Number (literal_length x.size) (x.value % 2 ^ literal_length x.size)
open_of scope (e.Whole n) = open_name (scope n.name.0)
open_of scope (e.BitSelect n x) = Simple (bits_at (scope n.name.0) 1 0 (is_constant scope x) (integer scope x) (is_signed scope x) (own scope x))
open_of scope (e.PartSelect n x y) = Simple (bits_from (scope n.name.0) (integer scope y) (bits_between (integer scope x) (integer scope y)))
open_of scope (e.UpwardSelect n x y) =
    Simple (bits_at (scope n.name.0) (count_of (integer scope y)) 0 (is_constant scope x) (integer scope x) (is_signed scope x) (own scope x))
open_of scope (e.DownwardSelect n x y) =
    Simple (bits_at (scope n.name.0) (count_of (integer scope y)) (count_of (integer scope y) - 1) (is_constant scope x) (integer scope x) (is_signed scope x) (own scope x))
open_of scope (e.Unary at op x) = open_unary (unary_kind op) (open_of scope x) (own scope x)
open_of scope (e.Binary op x y) =
    open_binary (operator_of op) (open_of scope x) (open_of scope y) (own scope x) (own scope y)
    (max (length scope x) (length scope y)) (is_signed scope x && is_signed scope y)
open_of scope (e.Conditional c x y) = Choice (own scope c) (open_of scope x) (open_of scope y)
open_of scope (e.Concatenation at xs) = Simple (joined scope xs)
open_of scope (e.Replication at c xs) =
    Simple (s.Repeat (count_of (integer scope c) * length scope xs) (count_of (integer scope c)) (joined scope xs))
open_of scope (e.Bracketed at x) = open_of scope x
open_of scope e.NoPart = Simple (s.Constant 0 0)
open_of scope (e.Parts x xs) = Simple (joined scope (e.Parts x xs))
