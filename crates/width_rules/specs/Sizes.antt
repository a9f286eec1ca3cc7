-- Lengths of expressions, and expressions at the length and the sign that their context gives (IEEE Std 1364-2005, 5.4 and 5.5).
use Rattle.std.specs.Prelude.{ℕ, ◌+◌, ◌-◌, ◌*◌, ◌%◌, ◌^◌, max, Bool, true, ◌&&◌, ◌==◌, not, if◌then◌else◌, ℤ, pos, negsuc, []}
use Rattle.bits.specs.Values.{signed_of, resized}
use Rattle.typed_ir.specs.declared.unary_operator.UnaryOperator.TheVariants.{Inverse, Negative}
use Rattle.typed_ir.specs.declared.binary_operator.BinaryOperator.{BinaryOperator as Operator}
use Rattle.typed_ir.specs.declared.binary_operator.BinaryOperator.TheVariants.{Arithmetic, Compare, Logical, Shift}
use Rattle.typed_ir.specs.Sized as s
use Rattle.typed_ir.specs.Sized.{Sized, width_of, value_of}
use Rattle.typed_ir.specs.Valuations.{Valuation}
use Rattle.typed_ir.specs.Views.{env_of}
use Rattle.verilog_ast.specs.Expressions.{Expression, Literal, Whole, BitSelect, PartSelect, UpwardSelect, DownwardSelect, Unary, Binary, Conditional, Concatenation, Replication, Bracketed, NoPart, Parts}
use Rattle.width_rules.specs.declared.kinds.UnaryKind.{UnaryKind}
use Rattle.width_rules.specs.declared.kinds.UnaryKind.TheVariants.{Kept, Negated, Inverted, OneBit, Complement}
use Rattle.width_rules.specs.Operators.{unary_kind, operator_of, arithmetic_with, comparison_with, shift_with}
use Rattle.width_rules.specs.Scopes.{Meaning, Signal, Constant, Turn, Genvar, Unknown, Scope, is_signal}
use Rattle.width_rules.specs.Signs.{is_signed}

-- ---- simple operands

-- a number without a size has 32 bits (3.5.1)
abbrev pub literal_length : ℕ → ℕ
literal_length size = if size == 0 then 32 else size

-- a name that is none has one bit, so that the tables are whole; its fault says what it is
abbrev pub name_length : Meaning → ℕ
name_length (Signal signal width lsb signed writer) = width
name_length (Constant width value signed) = width
name_length (Turn width value signed) = width
name_length Genvar = 1
name_length Unknown = 1

-- an operand at the length and the sign of its context (5.5.2)
abbrev pub extended : Sized → ℕ → Bool → Sized
extended e length signed = if width_of e == length then e else s.Resized e length signed

abbrev pub constant_at : ℕ → ℕ → ℕ → Bool → Sized
constant_at own value length signed = s.Constant length (resized own value length signed)

abbrev pub name_at : Meaning → ℕ → Bool → Sized
name_at (Signal number width lsb sign writer) length signed = extended (s.Name number width) length signed
name_at (Constant width value sign) length signed = constant_at width value length signed
name_at (Turn width value sign) length signed = constant_at width value length signed
name_at Genvar length signed = constant_at 1 0 length signed
name_at Unknown length signed = constant_at 1 0 length signed

-- ---- constants within expressions

-- there are no signals
abbrev pub no_signals : Valuation
no_signals = env_of []

-- the whole number that bits stand for, by their type (5.2.1)
abbrev pub read_as : Bool → ℕ → ℕ → ℤ
read_as signed width value = if signed then signed_of width value else pos value

-- the whole number that an expression stands for, by its own type; it is given by its sign, its length and what it is at both
abbrev pub integer_of : Bool → ℕ → (ℕ → Bool → Sized) → ℤ
integer_of signed length at = read_as signed length (value_of (at length signed) no_signals)

-- a width or a count: none below 1
abbrev pub count_of : ℤ → ℕ
count_of (pos n) = n
count_of (negsuc n) = 0

-- how many bits a part-select has: none where it is reversed (`negsuc n` is -(n + 1))
abbrev pub bits_between : ℤ → ℤ → ℕ
bits_between (pos high) (pos low) = high + 1 - low
bits_between (pos high) (negsuc low) = high + low + 2
bits_between (negsuc high) (pos low) = 0
bits_between (negsuc high) (negsuc low) = low + 1 - high

-- ---- selects (5.2.1)

-- whether no net and no variable is in it
abbrev pub is_constant : Scope → Expression → Bool
is_constant scope (Literal at x) = true
is_constant scope (Whole n) = not (is_signal (scope n.name.0))
is_constant scope (BitSelect n x) = not (is_signal (scope n.name.0)) && is_constant scope x
is_constant scope (PartSelect n x y) = not (is_signal (scope n.name.0)) && (is_constant scope x && is_constant scope y)
is_constant scope (UpwardSelect n x y) = not (is_signal (scope n.name.0)) && (is_constant scope x && is_constant scope y)
is_constant scope (DownwardSelect n x y) = not (is_signal (scope n.name.0)) && (is_constant scope x && is_constant scope y)
is_constant scope (Unary at op x) = is_constant scope x
is_constant scope (Binary op x y) = is_constant scope x && is_constant scope y
is_constant scope (Conditional c x y) = is_constant scope c && (is_constant scope x && is_constant scope y)
is_constant scope (Concatenation at xs) = is_constant scope xs
is_constant scope (Replication at c xs) = is_constant scope c && is_constant scope xs
is_constant scope (Bracketed at x) = is_constant scope x
is_constant scope NoPart = true
is_constant scope (Parts x xs) = is_constant scope x && is_constant scope xs

-- the bit of an index, counted from the one at `below`
abbrev pub low_of : ℤ → ℕ → ℕ
low_of (pos at) below = at - below
low_of (negsuc at) below = 0

-- so many bits of a name, from the index on, less `down`: known ones where the index is constant; `at` is what it stands for then
abbrev pub bits_at : Meaning → ℕ → ℕ → Bool → ℤ → Bool → Sized → Sized
bits_at (Signal signal total lsb sign writer) width down constant at signed index =
    if constant
    then s.Part (record { signal = signal; low = low_of at (lsb + down); width = width })
    else s.Pick signal width (lsb + down) signed index
bits_at (Constant own value sign) width down constant at signed index = s.Constant width 0
bits_at (Turn own value sign) width down constant at signed index = s.Constant width 0
bits_at Genvar width down constant at signed index = s.Constant width 0
bits_at Unknown width down constant at signed index = s.Constant width 0

-- the bits of a name from a known one up
abbrev pub bits_from : Meaning → ℤ → ℕ → Sized
bits_from (Signal signal total lsb sign writer) low width =
    s.Part (record { signal = signal; low = low_of low lsb; width = width })
bits_from (Constant own value sign) low width = s.Constant width 0
bits_from (Turn own value sign) low width = s.Constant width 0
bits_from Genvar low width = s.Constant width 0
bits_from Unknown low width = s.Constant width 0

-- ---- operators

-- the table of lengths (5.4.1)
abbrev pub unary_length : UnaryKind → ℕ → ℕ
unary_length Kept a = a
unary_length Negated a = a
unary_length Inverted a = a
unary_length (OneBit op) a = 1
unary_length (Complement op) a = 1

abbrev pub binary_length : Operator → ℕ → ℕ → ℕ
binary_length (Arithmetic op) a b = max a b
binary_length (Shift op) a b = a
binary_length (Compare op) a b = 1
binary_length (Logical op) a b = 1

-- an expression by its length, its sign, and what it is at a length and a sign
pub record Operand : Type 0 where
  pub own : ℕ
  pub sign : Bool
  pub at : ℕ → Bool → Sized

-- at its own length and sign, whatever its context (5.4.1)
abbrev pub self_determined : Operand → Sized
self_determined a = a.at a.own a.sign

abbrev pub unary_at : UnaryKind → Operand → ℕ → Bool → Sized
unary_at Kept a length signed = a.at length signed
unary_at Negated a length signed = s.Unary Negative (a.at length signed)
unary_at Inverted a length signed = s.Unary Inverse (a.at length signed)
unary_at (OneBit op) a length signed = extended (s.Unary op (self_determined a)) length signed
unary_at (Complement op) a length signed = extended (s.Unary Inverse (s.Unary op (self_determined a))) length signed

-- operands of a comparison have the larger of their lengths, and are signed where both are (5.5.1, 5.5.2)
abbrev pub binary_at : Operator → Operand → Operand → ℕ → Bool → Sized
binary_at (Arithmetic op) a b length signed =
    s.Binary (Arithmetic (arithmetic_with op signed)) (a.at length signed) (b.at length signed)
binary_at (Shift op) a b length signed = s.Binary (Shift (shift_with op signed)) (a.at length signed) (self_determined b)
binary_at (Compare op) a b length signed =
    let both = max a.own b.own in
    let sign = a.sign && b.sign in
    extended (s.Binary (Compare (comparison_with op sign)) (a.at both sign) (b.at both sign)) length signed
binary_at (Logical op) a b length signed = extended (s.Binary (Logical op) (self_determined a) (self_determined b)) length signed

-- ---- the two recursions

unfoldable mutual
  -- the length that an expression has by itself (5.4.1)
  pub length : Scope → Expression → ℕ
  length scope (Literal at x) = literal_length x.size
  length scope (Whole n) = name_length (scope n.name.0)
  length scope (BitSelect n x) = 1
  length scope (PartSelect n x y) =
      bits_between (integer_of (is_signed scope x) (length scope x) (push scope x)) (integer_of (is_signed scope y) (length scope y) (push scope y))
  length scope (UpwardSelect n x y) = count_of (integer_of (is_signed scope y) (length scope y) (push scope y))
  length scope (DownwardSelect n x y) = count_of (integer_of (is_signed scope y) (length scope y) (push scope y))
  length scope (Unary at op x) = unary_length (unary_kind op) (length scope x)
  length scope (Binary op x y) = binary_length (operator_of op) (length scope x) (length scope y)
  length scope (Conditional c x y) = max (length scope x) (length scope y)
  length scope (Concatenation at xs) = length scope xs
  length scope (Replication at c xs) = count_of (integer_of (is_signed scope c) (length scope c) (push scope c)) * length scope xs
  length scope (Bracketed at x) = length scope x
  length scope NoPart = 0
  length scope (Parts x xs) = length scope x + length scope xs

  -- the sized expression at a length and a sign, which go down to its simple operands (5.5.2)
  pub push : Scope → Expression → ℕ → Bool → Sized
  push scope (Literal at x) l t = constant_at (literal_length x.size) (x.value % 2 ^ literal_length x.size) l t
  push scope (Whole n) l t = name_at (scope n.name.0) l t
  push scope (BitSelect n x) l t =
      extended (bits_at (scope n.name.0) 1 0 (is_constant scope x) (integer_of (is_signed scope x) (length scope x) (push scope x)) (is_signed scope x) (push scope x (length scope x) (is_signed scope x))) l t
  push scope (PartSelect n x y) l t =
      let high = integer_of (is_signed scope x) (length scope x) (push scope x) in
      let low = integer_of (is_signed scope y) (length scope y) (push scope y) in
      extended (bits_from (scope n.name.0) low (bits_between high low)) l t
  push scope (UpwardSelect n x y) l t =
      let width = count_of (integer_of (is_signed scope y) (length scope y) (push scope y)) in
      extended (bits_at (scope n.name.0) width 0 (is_constant scope x) (integer_of (is_signed scope x) (length scope x) (push scope x)) (is_signed scope x) (push scope x (length scope x) (is_signed scope x))) l t
  push scope (DownwardSelect n x y) l t =
      let width = count_of (integer_of (is_signed scope y) (length scope y) (push scope y)) in
      extended (bits_at (scope n.name.0) width (width - 1) (is_constant scope x) (integer_of (is_signed scope x) (length scope x) (push scope x)) (is_signed scope x) (push scope x (length scope x) (is_signed scope x))) l t
  push scope (Unary at op x) l t =
      unary_at (unary_kind op) (record { own = length scope x; sign = is_signed scope x; at = push scope x }) l t
  push scope (Binary op x y) l t =
      binary_at (operator_of op)
      (record { own = length scope x; sign = is_signed scope x; at = push scope x })
      (record { own = length scope y; sign = is_signed scope y; at = push scope y }) l t
  push scope (Conditional c x y) l t = s.Choice (push scope c (length scope c) (is_signed scope c)) (push scope x l t) (push scope y l t)
  push scope (Concatenation at xs) l t = extended (joined scope xs) l t
  push scope (Replication at c xs) l t =
      let count = count_of (integer_of (is_signed scope c) (length scope c) (push scope c)) in
      extended (s.Repeat (count * length scope xs) count (joined scope xs)) l t
  push scope (Bracketed at x) l t = push scope x l t
  push scope NoPart l t = extended (s.Constant 0 0) l t
  push scope (Parts x xs) l t =
      extended (beside scope (length scope x) (push scope x (length scope x) (is_signed scope x)) xs) l t

  -- the parts of a concatenation, each at its own length (5.1.14)
  pub joined : Scope → Expression → Sized
  joined scope (Parts x xs) = beside scope (length scope x) (push scope x (length scope x) (is_signed scope x)) xs
  joined scope other = s.Constant 0 0

  -- so many bits that stand before further parts, above the first of them
  pub beside : Scope → ℕ → Sized → Expression → Sized
  beside scope width before (Parts x xs) =
      beside scope (width + length scope x) (s.Concat (width + length scope x) before (push scope x (length scope x) (is_signed scope x))) xs
  beside scope width before other = before
