-- An expression without a fault has 1 to 128 bits.
use Rattle.std.proofs.Common.{◌≡◌, ℕ, ◌-◌, ◌*◌, ◌==◌, true, List, [], ◌++◌, nat_lt, ℤ, arith}
use Rattle.ls_text.specs.declared.place.Place.{Place}
use Rattle.typed_ir.specs.Sized.{is_width}
use Rattle.typed_ir.specs.declared.binary_operator.BinaryOperator.{BinaryOperator as Operator}
use Rattle.typed_ir.specs.declared.binary_operator.BinaryOperator.TheVariants.{Arithmetic, Compare, Logical, Shift}
use Rattle.verilog_ast.specs.declared.identifier.Identifier.{Identifier}
use Rattle.verilog_ast.specs.Expressions.{Expression, Literal, Whole, BitSelect, PartSelect, UpwardSelect, DownwardSelect, Unary, Binary, Conditional, Concatenation, Replication, Bracketed, NoPart, Parts}
use Rattle.width_rules.specs.declared.due.Due.{Due}
use Rattle.width_rules.specs.declared.due.Due.TheVariants.{ConstantOnly}
use Rattle.width_rules.specs.declared.kinds.UnaryKind.{UnaryKind}
use Rattle.width_rules.specs.declared.kinds.UnaryKind.TheVariants.{Kept, Negated, Inverted, OneBit, Complement}
use Rattle.width_rules.specs.Constants.{integer}
use Rattle.width_rules.specs.Faults.{faults, fault, fault_if, fault_at, fault_of, name_faults, run_faults, range_faults, part_faults, width_faults, total_faults}
use Rattle.width_rules.specs.Operators.{unary_kind, operator_of}
use Rattle.width_rules.specs.Scopes.{Meaning, Signal, Constant, Turn, Genvar, Unknown, Scope}
use Rattle.width_rules.specs.Sizes.{length, literal_length, name_length, unary_length, binary_length, is_constant, count_of, bits_between}
use Rattle.width_rules.proofs.Reading.{left_none, right_none}
use Rattle.statement_rules.specs.Fitting.{FitsMeaning, FitsScope}
use Rattle.statement_rules.specs.Written.{IsWritten}
use Rattle.statement_rules.proofs.Bounds.{IsLong, long_from, width_from, long_if, few_if, literal_least, max_long, run_none, third_none}

pub one_long : IsLong 1
one_long = record { least = omega arith; most = omega arith }

pub name_long : (m : Meaning) (widths : List ℕ) (due : Due) (n : Identifier) → FitsMeaning m widths → name_faults m due n ≡ [] → IsLong (name_length m)
name_long (Signal signal width lsb signed writer) widths due n fits h = long_from width fits.0
name_long (Constant width value signed) widths due n fits h = long_from width fits.0
name_long (Turn width value signed) widths due n fits h = long_from width fits.0
name_long Genvar widths due n fits h = one_long
name_long Unknown widths due n fits h = one_long

-- what its faults say of the width of a select
pub part_long : (m : Meaning) (low : ℤ) (width : ℕ) (n : Identifier) → part_faults m low width n ≡ [] → IsLong width
part_long m low width n h =
    long_if width (fault_at 32 n) (fault_at 31 n)
    (left_none (fault_if (width == 0) (fault_at 32 n)) (range_faults m low width n) (right_none (fault_if (nat_lt 128 width) (fault_at 31 n)) _ h))
    (left_none (fault_if (nat_lt 128 width) (fault_at 31 n)) (fault_if (width == 0) (fault_at 32 n) ++ range_faults m low width n) h)

pub part_place : (m : Meaning) (low : ℤ) (width : ℕ) (n : Identifier) → part_faults m low width n ≡ [] → range_faults m low width n ≡ []
part_place m low width n h =
    right_none (fault_if (width == 0) (fault_at 32 n)) (range_faults m low width n)
    (right_none (fault_if (nat_lt 128 width) (fault_at 31 n)) (fault_if (width == 0) (fault_at 32 n) ++ range_faults m low width n) h)

pub run_long : (n : Identifier) (y : Expression) (width : ℕ) → width_faults n y width ≡ [] → IsLong width
run_long n y width h =
    long_if width (fault_of 26 y) (fault_at 31 n)
    (left_none (fault_if (width == 0) (fault_of 26 y)) (fault_if (nat_lt 128 width) (fault_at 31 n)) h)
    (right_none (fault_if (width == 0) (fault_of 26 y)) (fault_if (nat_lt 128 width) (fault_at 31 n)) h)

pub total_long : (at : Place) (width : ℕ) → total_faults at width ≡ [] → IsLong width
total_long at width h =
    long_if width (fault 26 at []) (fault 31 at [])
    (left_none (fault_if (width == 0) (fault 26 at [])) (fault_if (nat_lt 128 width) (fault 31 at [])) h)
    (right_none (fault_if (width == 0) (fault 26 at [])) (fault_if (nat_lt 128 width) (fault 31 at [])) h)

unary_long : (k : UnaryKind) (a : ℕ) → IsLong a → IsLong (unary_length k a)
unary_long Kept a l = l
unary_long Negated a l = l
unary_long Inverted a l = l
unary_long (OneBit op) a l = one_long
unary_long (Complement op) a l = one_long

binary_long : (o : Operator) (a b : ℕ) → IsLong a → IsLong b → IsLong (binary_length o a b)
binary_long (Arithmetic op) a b x y = max_long a b x y
binary_long (Shift op) a b x y = x
binary_long (Compare op) a b x y = one_long
binary_long (Logical op) a b x y = one_long

pub is_long : (scope : Scope) (widths : List ℕ) (due : Due) (e : Expression) → FitsScope scope widths → IsWritten e → faults scope due e ≡ [] → IsLong (length scope e)
unfolding length
is_long scope widths due (Literal at x) ok w h = record { least = literal_least x.size; most = few_if (literal_length x.size) (fault 31 at []) h }
is_long scope widths due (Whole n) ok w h = name_long (scope n.name.0) widths due n (ok n.name.0) h
is_long scope widths due (BitSelect n x) ok w h = one_long
is_long scope widths due (PartSelect n x y) ok w h =
    part_long (scope n.name.0) (integer scope y) (bits_between (integer scope x) (integer scope y)) n
    (third_none (name_faults (scope n.name.0) due n) (faults scope ConstantOnly x) (faults scope ConstantOnly y)
    (part_faults (scope n.name.0) (integer scope y) (bits_between (integer scope x) (integer scope y)) n) h)
is_long scope widths due (UpwardSelect n x y) ok w h =
    run_long n y (count_of (integer scope y))
    (run_none (name_faults (scope n.name.0) due n) (faults scope due x) (faults scope ConstantOnly y) (width_faults n y (count_of (integer scope y)))
    (run_faults (scope n.name.0) (is_constant scope x) (integer scope x) (count_of (integer scope y)) 0 n) h).width
is_long scope widths due (DownwardSelect n x y) ok w h =
    run_long n y (count_of (integer scope y))
    (run_none (name_faults (scope n.name.0) due n) (faults scope due x) (faults scope ConstantOnly y) (width_faults n y (count_of (integer scope y)))
    (run_faults (scope n.name.0) (is_constant scope x) (integer scope x) (count_of (integer scope y)) (count_of (integer scope y) - 1) n) h).width
is_long scope widths due (Unary at op x) ok w h = unary_long (unary_kind op) (length scope x) (is_long scope widths due x ok w h)
is_long scope widths due (Binary op x y) ok w h =
    binary_long (operator_of op) (length scope x) (length scope y)
    (is_long scope widths due x ok w.0 (left_none (faults scope due x) (faults scope due y) h))
    (is_long scope widths due y ok w.1 (right_none (faults scope due x) (faults scope due y) h))
is_long scope widths due (Conditional c x y) ok w h =
    let both : faults scope due x ++ faults scope due y ≡ [] = right_none (faults scope due c) (faults scope due x ++ faults scope due y) h in
    max_long (length scope x) (length scope y)
    (is_long scope widths due x ok w.1.0 (left_none (faults scope due x) (faults scope due y) both))
    (is_long scope widths due y ok w.1.1 (right_none (faults scope due x) (faults scope due y) both))
is_long scope widths due (Concatenation at xs) ok w h = total_long at (length scope xs) (right_none (faults scope due xs) (total_faults at (length scope xs)) h)
is_long scope widths due (Replication at c xs) ok w h =
    total_long at (count_of (integer scope c) * length scope xs)
    (right_none (faults scope due xs) _ (right_none (fault_if (count_of (integer scope c) == 0) (fault_of 26 c)) _ (right_none (faults scope ConstantOnly c) _ h)))
is_long scope widths due (Bracketed at x) ok w h = is_long scope widths due x ok w h
is_long scope widths due NoPart ok w h = absurd w
is_long scope widths due (Parts x xs) ok w h = absurd w

pub width_is : (scope : Scope) (widths : List ℕ) (due : Due) (e : Expression) → FitsScope scope widths → IsWritten e → faults scope due e ≡ []
    → is_width (length scope e) ≡ true
width_is scope widths due e ok w h = width_from (length scope e) (is_long scope widths due e ok w h)
