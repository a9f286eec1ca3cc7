-- Constant expressions (IEEE Std 1364-2005, 4.10 and 5.1).
use Rattle.std.specs.Prelude.{ℕ, ℤ}
use Rattle.typed_ir.specs.Sized.{value_of}
use Rattle.verilog_ast.specs.Expressions.{Expression}
use Rattle.width_rules.specs.Scopes.{Scope}
use Rattle.width_rules.specs.Signs.{is_signed}
use Rattle.width_rules.specs.Sizes.{length, push, no_signals, integer_of}

-- the value of a constant expression: at its own length and sign, whatever its context
abbrev pub constant : Scope → Expression → ℕ
constant scope e = value_of (push scope e (length scope e) (is_signed scope e)) no_signals

-- the whole number that it stands for, by its own sign
abbrev pub integer : Scope → Expression → ℤ
integer scope e = integer_of (is_signed scope e) (length scope e) (push scope e)
