-- Whether an expression is signed (IEEE Std 1364-2005, 5.5.1). Its operands alone decide, never what it is assigned to.
use Rattle.std.specs.Prelude.{Bool, false, ◌&&◌}
use Rattle.typed_ir.specs.declared.binary_operator.BinaryOperator.{BinaryOperator as Operator}
use Rattle.typed_ir.specs.declared.binary_operator.BinaryOperator.TheVariants.{Arithmetic, Compare, Logical, Shift}
use Rattle.verilog_ast.specs.Expressions.{Expression, Literal, Whole, BitSelect, PartSelect, UpwardSelect, DownwardSelect, Unary, Binary, Conditional, Concatenation, Replication, Bracketed, NoPart, Parts}
use Rattle.width_rules.specs.declared.kinds.UnaryKind.{UnaryKind}
use Rattle.width_rules.specs.declared.kinds.UnaryKind.TheVariants.{Kept, Negated, Inverted, OneBit, Complement}
use Rattle.width_rules.specs.Operators.{unary_kind, operator_of}
use Rattle.width_rules.specs.Scopes.{Meaning, Signal, Constant, Turn, Genvar, Unknown, Scope}

abbrev pub name_signed : Meaning → Bool
name_signed (Signal signal width lsb signed writer) = signed
name_signed (Constant width value signed) = signed
name_signed (Turn width value signed) = signed
name_signed Genvar = false
name_signed Unknown = false

-- one bit is unsigned
abbrev pub unary_signed : UnaryKind → Bool → Bool
unary_signed Kept a = a
unary_signed Negated a = a
unary_signed Inverted a = a
unary_signed (OneBit op) a = false
unary_signed (Complement op) a = false

-- one unsigned operand makes all unsigned; what a shift shifts by doesn't count, and one bit is unsigned
abbrev pub binary_signed : Operator → Bool → Bool → Bool
binary_signed (Arithmetic op) a b = a && b
binary_signed (Shift op) a b = a
binary_signed (Compare op) a b = false
binary_signed (Logical op) a b = false

-- selects, concatenations and replications are unsigned; the condition of `?:` doesn't count
abbrev pub is_signed : Scope → Expression → Bool
is_signed scope (Literal at x) = x.signed
is_signed scope (Whole n) = name_signed (scope n.name.0)
is_signed scope (BitSelect n x) = false
is_signed scope (PartSelect n x y) = false
is_signed scope (UpwardSelect n x y) = false
is_signed scope (DownwardSelect n x y) = false
is_signed scope (Unary at op x) = unary_signed (unary_kind op) (is_signed scope x)
is_signed scope (Binary op x y) = binary_signed (operator_of op) (is_signed scope x) (is_signed scope y)
is_signed scope (Conditional c x y) = is_signed scope x && is_signed scope y
is_signed scope (Concatenation at xs) = false
is_signed scope (Replication at c xs) = false
is_signed scope (Bracketed at x) = is_signed scope x
is_signed scope NoPart = false
is_signed scope (Parts x xs) = false
