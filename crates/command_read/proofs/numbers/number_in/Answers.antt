use Rattle.std.proofs.Common.{◌≡◌, ◌*◌, take, Some, sym, ap, ◌∙◌, arith}
use Rattle.std.specs.Char.{digit_value, is_digit}
use Rattle.std.specs.List.{list_all}
use Rattle.std.specs.Str.Parse.{digits_value}
use Rattle.std.proofs.lemmas.Int.Digits.{digits_value_more}
use Rattle.std.proofs.lemmas.List.{take_all}
use Rattle.command_read.proofs.Digits.{too_large, more_digits, whole_number}
use Rattle.command_read.proofs.numbers.number_in.Goals as goal

pub returns-in_err-checked_mul : goal.returns-in_err-checked_mul
returns-in_err-checked_mul c =
    c.from_residual-in_err-checked_mul.ensures
    ∙ sym (too_large c.args.base c.args.digits.now c.loop-byte.byte-index c.loop-byte.value (omega arith) (omega arith) c.loop-byte.invariant.value (omega (arith, c.in_err-checked_mul.ensures)))

pub returns-in_err-value : goal.returns-in_err-value
returns-in_err-value c =
    c.from_residual-in_err-value.ensures
    ∙ sym (too_large c.args.base c.args.digits.now c.loop-byte.byte-index c.loop-byte.value (omega arith) (omega arith) c.loop-byte.invariant.value (omega (arith, ap digit_value c.from.ensures, c.in_ok-digit.ensures.value.1, c.in_ok-checked_mul.ensures.1, c.in_err-value.ensures)))

pub loop-byte-preserved : goal.loop-byte-preserved
loop-byte-preserved c = record {
  value =
      let so_far : c.loop-byte.value * c.args.base ≡ digits_value c.args.base (take c.loop-byte.byte-index c.args.digits.now) * c.args.base
      = ap (λ n. n * c.args.base) c.loop-byte.invariant.value in
      omega (arith, so_far, ap digit_value c.from.ensures, c.in_ok-digit.ensures.value.1, c.in_ok-checked_mul.ensures.1, c.in_ok-value.ensures.1, digits_value_more c.args.base c.args.digits.now c.loop-byte.byte-index (omega arith));
  small = omega (arith, c.in_ok-value.ensures);
  digits = more_digits c.args.base c.args.digits.now c.loop-byte.byte-index (omega arith) c.loop-byte.invariant.digits (omega (arith, ap digit_value c.from.ensures, c.in_ok-digit.ensures.value.0));
}

pub returns : goal.returns
returns c =
    let all : take c.loop-byte.byte-index c.args.digits.now ≡ c.args.digits.now = take_all _ _ c.loop-byte-test.false in
    let value : c.loop-byte.value ≡ digits_value c.args.base c.args.digits.now = c.loop-byte.invariant.value ∙ ap (digits_value c.args.base) all in
    ap Some value
    ∙ sym (whole_number c.args.base c.args.digits.now (grind arith) (ap (λ ds. list_all (λ d. is_digit d c.args.base) ds) (sym all) ∙ c.loop-byte.invariant.digits) (omega (arith, value)))
