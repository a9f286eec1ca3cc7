use Rattle.std.proofs.Common.{◌^◌, sym, ◌∙◌, arith}
use Rattle.std.proofs.lemmas.Bool.Decides.{nat_tests}
use Rattle.verilog_lex.specs.Numbers.{digits_value}
use Rattle.verilog_lex.proofs.Numbers.{past}
use Rattle.verilog_lex.proofs.number.digits_value.Goals as goal

pub returns-in_err-checked_mul : goal.returns-in_err-checked_mul
unfolding digits_value
returns-in_err-checked_mul c =
    c.from_residual-in_err-checked_mul.ensures
    ∙ sym (past c.args.radix (2 ^ 128) c.loop-byte.value c.loop-byte.byte-index c.in_ok-digit.digit c.args.digits.now c.requires (omega arith) (grind (arith, nat_tests)) (sym c.in_ok-digit.ensures.value) (omega arith) (omega (arith, c.in_err-checked_mul.ensures)) c.loop-byte.invariant.same)

pub returns-in_err-value : goal.returns-in_err-value
unfolding digits_value
returns-in_err-value c =
    c.from_residual-in_err-value.ensures
    ∙ sym (past c.args.radix (2 ^ 128) c.loop-byte.value c.loop-byte.byte-index c.in_ok-digit.digit c.args.digits.now c.requires (omega arith) (grind (arith, nat_tests)) (sym c.in_ok-digit.ensures.value) (omega arith) (omega (arith, c.in_err-value.ensures, c.in_ok-checked_mul.ensures)) c.loop-byte.invariant.same)
