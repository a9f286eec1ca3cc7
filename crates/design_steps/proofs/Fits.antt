-- Values of expressions fit their widths.
use Rattle.std.proofs.Common.{◌≡◌, ℕ, suc, ◌+◌, ◌-◌, ◌*◌, ◌/◌, ◌%◌, ◌^◌, ◌<◌, ◌≤◌, Bool, true, false, ◌&&◌, ◌==◌, nat_le, nat_lt, List, length, sym, subst, arith, lt_of_le_of_lt, ℤ, pos}
use Rattle.std.specs.Prelude.{negsuc, slice_index, if◌then◌else◌, int_div, int_rem}
use Rattle.std.proofs.Math.Nat.{div-le_self, mod-le}
use Rattle.std.proofs.lemmas.Bool.{eqb-true, leb-true, ltb-true}
use Rattle.std.proofs.lemmas.Nat.{pow_pos, or_lt, xor_lt, and_le_l, mul-le}
use Rattle.bits.specs.Values.{wrapped, signed_of, quotient, remainder}
use Rattle.bits.specs.Runs.{selected}
use Rattle.bits.proofs.Runs.{below_pow, wrapped_below}
use Rattle.typed_ir.specs.declared.unary_operator.UnaryOperator.{UnaryOperator}
use Rattle.typed_ir.specs.declared.unary_operator.UnaryOperator.TheVariants.{Inverse, Negative, AllOnes, AnyOne, NoOne, OddOnes}
use Rattle.typed_ir.specs.declared.arithmetic_operator.ArithmeticOperator.TheVariants.{Sum, Difference, Product, Quotient, Remainder, And, Or, Xor, Xnor}
use Rattle.typed_ir.specs.declared.shift_operator.ShiftOperator.TheVariants.{Left, Right, Arithmetic as ArithmeticRight}
use Rattle.typed_ir.specs.declared.binary_operator.BinaryOperator.{BinaryOperator}
use Rattle.typed_ir.specs.declared.binary_operator.BinaryOperator.TheVariants.{Arithmetic, Compare, Logical, Shift}
use Rattle.typed_ir.specs.Valuations.{Valuation}
use Rattle.typed_ir.specs.Sized.{Sized, Constant, Name, Part, Pick, Unary, Binary, Choice, Concat, Repeat, Resized, width_of, unary_width, binary_width, value_of, truth_value, is_width, is_signal, takes_widths, agrees, fits_signals, apply_unary, apply_binary, apply_comparison, apply_logical, place_of, is_signed}
use Rattle.typed_ir.proofs.Copies.{above_fits, copies_fit}
use Rattle.typed_ir.proofs.Cases.{and_left, and_right}

truth_fits : (b : Bool) → truth_value b < 2 ^ 1
truth_fits true = omega arith
truth_fits false = omega arith

below_top : (w x : ℕ) → 2 ^ w - 1 - x < 2 ^ w
below_top w x = let h : 0 < 2 ^ w = pow_pos w in omega (arith, h)

selected_fits : (n : ℕ) (z : ℤ) (w : ℕ) → selected n z w < 2 ^ w
selected_fits n (pos low) w = below_pow (n / 2 ^ low) w
selected_fits n (negsuc below) w = below_pow (n * 2 ^ suc below) w

pub a_width : (w : ℕ) → is_width w ≡ true → (1 ≤ w) × (w ≤ 128)
a_width w h = (leb-true 1 w (and_left (nat_le 1 w) (nat_le w 128) h), leb-true w 128 (and_right (nat_le 1 w) (nat_le w 128) h))

unary_widths : (op : UnaryOperator) (w : ℕ) → (1 ≤ w) × (w ≤ 128) → (1 ≤ unary_width op w) × (unary_width op w ≤ 128)
unary_widths Inverse w p = p
unary_widths Negative w p = p
unary_widths AllOnes w p = (omega arith, omega arith)
unary_widths AnyOne w p = (omega arith, omega arith)
unary_widths NoOne w p = (omega arith, omega arith)
unary_widths OddOnes w p = (omega arith, omega arith)

binary_widths : (op : BinaryOperator) (w : ℕ) → (1 ≤ w) × (w ≤ 128) → (1 ≤ binary_width op w) × (binary_width op w ≤ 128)
binary_widths (Arithmetic op) w p = p
binary_widths (Compare op) w p = (omega arith, omega arith)
binary_widths (Logical op) w p = (omega arith, omega arith)
binary_widths (Shift op) w p = p

-- the parts of what agrees
pub agree_both : (t a b : Bool) → (t && (a && b)) ≡ true → (t ≡ true) × (a ≡ true) × (b ≡ true)
agree_both t a b h = (and_left t (a && b) h, and_left a b (and_right t (a && b) h), and_right a b (and_right t (a && b) h))

pub agree_three : (t c a b : Bool) → (t && (c && (a && b))) ≡ true → (t ≡ true) × (c ≡ true) × (a ≡ true) × (b ≡ true)
agree_three t c a b h =
    let rest = agree_both c a b (and_right t (c && (a && b)) h) in
    (and_left t (c && (a && b)) h, rest.0, rest.1, rest.2)

pub widths_right : (e : Sized) → agrees e ≡ true → (1 ≤ width_of e) × (width_of e ≤ 128)
widths_right (Constant width value) h = a_width width (and_left (is_width width) (nat_lt value (2 ^ width)) h)
widths_right (Name signal width) h = a_width width h
widths_right (Part span) h =
    let few : span.low + span.width ≤ 128 = leb-true (span.low + span.width) 128 (and_right (nat_le 1 span.width) (nat_le (span.low + span.width) 128) h) in
    (leb-true 1 span.width (and_left (nat_le 1 span.width) (nat_le (span.low + span.width) 128) h), omega (arith, few))
widths_right (Pick signal width below signed index) h = a_width width (and_left (is_width width) (agrees index) h)
widths_right (Unary op a) h = unary_widths op (width_of a) (widths_right a h)
widths_right (Binary op a b) h = binary_widths op (width_of a) (widths_right a (agree_both (takes_widths op (width_of a) (width_of b)) (agrees a) (agrees b) h).1)
widths_right (Choice c a b) h = widths_right a (agree_three (width_of a == width_of b) (agrees c) (agrees a) (agrees b) h).2
widths_right (Concat width a b) h =
    let p = agree_three (width == width_of a + width_of b) (nat_le width 128) (agrees a) (agrees b) h in
    let sum : width ≡ width_of a + width_of b = eqb-true width (width_of a + width_of b) p.0 in
    let few : width ≤ 128 = leb-true width 128 p.1 in
    let q = widths_right a p.2 in
    (omega (arith, sum, q.0), few)
widths_right (Repeat width count a) h =
    let p = agree_three (width == count * width_of a) (nat_le 1 count) (nat_le width 128) (agrees a) h in
    let product : width ≡ count * width_of a = eqb-true width (count * width_of a) p.0 in
    let few : width ≤ 128 = leb-true width 128 p.2 in
    let q = widths_right a p.3 in
    let some : 1 * 1 ≤ count * width_of a = mul-le 1 1 count (width_of a) (leb-true 1 count p.1) q.0 in
    (omega (arith, product, some), few)
widths_right (Resized a width signed) h = a_width width (and_left (is_width width) (agrees a) h)

-- the second operand at the first one's width
pub at_width : (a b y : ℕ) → (a == b) ≡ true → y < 2 ^ b → y < 2 ^ a
at_width a b y h fits = subst (λ k. y < 2 ^ k) (sym (eqb-true a b h)) fits

pub cond_fits : (b : Bool) (x y m : ℕ) → x < m → y < m → (if b then x else y) < m
cond_fits true x y m h g = h
cond_fits false x y m h g = g

quotient_fits : (w : ℕ) (signed : Bool) (a b : ℕ) → a < 2 ^ w → quotient w signed a b < 2 ^ w
quotient_fits w signed a b h =
    cond_fits (b == 0) 0 (if signed then wrapped w (int_div (signed_of w a) (signed_of w b)) else a / b) (2 ^ w) (pow_pos w)
    (cond_fits signed (wrapped w (int_div (signed_of w a) (signed_of w b))) (a / b) (2 ^ w) (wrapped_below w (int_div (signed_of w a) (signed_of w b))) (lt_of_le_of_lt (div-le_self a b) h))

remainder_fits : (w : ℕ) (signed : Bool) (a b : ℕ) → a < 2 ^ w → remainder w signed a b < 2 ^ w
remainder_fits w signed a b h =
    cond_fits (b == 0) 0 (if signed then wrapped w (int_rem (signed_of w a) (signed_of w b)) else a % b) (2 ^ w) (pow_pos w)
    (cond_fits signed (wrapped w (int_rem (signed_of w a) (signed_of w b))) (a % b) (2 ^ w) (wrapped_below w (int_rem (signed_of w a) (signed_of w b))) (lt_of_le_of_lt (mod-le a b) h))

unary_fits : (op : UnaryOperator) (w x : ℕ) → apply_unary op w x < 2 ^ unary_width op w
unary_fits Inverse w x = below_top w x
unary_fits Negative w x = below_pow (2 ^ w - x) w
unary_fits AllOnes w x = truth_fits _
unary_fits AnyOne w x = truth_fits _
unary_fits NoOne w x = truth_fits _
unary_fits OddOnes w x = truth_fits _

binary_fits : (op : BinaryOperator) (w v x y : ℕ) → takes_widths op w v ≡ true → x < 2 ^ w → y < 2 ^ v → apply_binary op w x y < 2 ^ binary_width op w
binary_fits (Arithmetic Sum) w v x y t h g = below_pow (x + y) w
binary_fits (Arithmetic Difference) w v x y t h g = below_pow (x + (2 ^ w - y)) w
binary_fits (Arithmetic Product) w v x y t h g = below_pow (x * y) w
binary_fits (Arithmetic (Quotient s)) w v x y t h g = quotient_fits w (is_signed s) x y h
binary_fits (Arithmetic (Remainder s)) w v x y t h g = remainder_fits w (is_signed s) x y h
binary_fits (Arithmetic And) w v x y t h g = lt_of_le_of_lt (and_le_l x y) h
binary_fits (Arithmetic Or) w v x y t h g = or_lt w x y h (at_width w v y t g)
binary_fits (Arithmetic Xor) w v x y t h g = xor_lt w x y h (at_width w v y t g)
binary_fits (Arithmetic Xnor) w v x y t h g = below_top w _
binary_fits (Compare op) w v x y t h g = truth_fits (apply_comparison op w x y)
binary_fits (Logical op) w v x y t h g = truth_fits (apply_logical op x y)
binary_fits (Shift Left) w v x y t h g = below_pow (x * 2 ^ y) w
binary_fits (Shift Right) w v x y t h g = lt_of_le_of_lt (div-le_self x (2 ^ y)) h
binary_fits (Shift ArithmeticRight) w v x y t h g = wrapped_below w _

-- a signal of this number and width
pub signal_is : (signal width : ℕ) (ws : List ℕ) → is_signal signal width ws ≡ true → (signal < length ws) × (slice_index ws signal ≡ width)
signal_is signal width ws h = (
  ltb-true signal (length ws) (and_left (nat_lt signal (length ws)) (slice_index ws signal == width) h),
  eqb-true (slice_index ws signal) width (and_right (nat_lt signal (length ws)) (slice_index ws signal == width) h),
)

module _ (ws : List ℕ) (env : Valuation) (fit : (s : ℕ) → s < length ws → env s < 2 ^ slice_index ws s) where
  pub value_fits : (e : Sized) → agrees e ≡ true → fits_signals e ws ≡ true → value_of e env < 2 ^ width_of e
  value_fits (Constant width value) h f = ltb-true value (2 ^ width) (and_right (is_width width) (nat_lt value (2 ^ width)) h)
  value_fits (Name signal width) h f = let p = signal_is signal width ws f in subst (λ k. env signal < 2 ^ k) p.1 (fit signal p.0)
  value_fits (Part span) h f = below_pow (env span.signal / 2 ^ span.low) span.width
  value_fits (Pick signal width below signed index) h f = selected_fits (env signal) (place_of below signed (width_of index) (value_of index env)) width
  value_fits (Unary op a) h f = unary_fits op (width_of a) (value_of a env)
  value_fits (Binary op a b) h f =
      let p = agree_both (takes_widths op (width_of a) (width_of b)) (agrees a) (agrees b) h in
      binary_fits op (width_of a) (width_of b) (value_of a env) (value_of b env) p.0
      (value_fits a p.1 (and_left (fits_signals a ws) (fits_signals b ws) f)) (value_fits b p.2 (and_right (fits_signals a ws) (fits_signals b ws) f))
  value_fits (Choice c a b) h f =
      let p = agree_three (width_of a == width_of b) (agrees c) (agrees a) (agrees b) h in
      let q = agree_both (fits_signals c ws) (fits_signals a ws) (fits_signals b ws) f in
      cond_fits (value_of c env == 0) (value_of b env) (value_of a env) (2 ^ width_of a)
      (at_width (width_of a) (width_of b) (value_of b env) p.0 (value_fits b p.3 q.2)) (value_fits a p.2 q.1)
  value_fits (Concat width a b) h f =
      let p = agree_three (width == width_of a + width_of b) (nat_le width 128) (agrees a) (agrees b) h in
      let sum = eqb-true width (width_of a + width_of b) p.0 in
      subst (λ k. value_of a env * 2 ^ width_of b + value_of b env < 2 ^ k) (sym sum)
      (above_fits (value_of a env) (value_of b env) (width_of a) (width_of b)
      (value_fits a p.2 (and_left (fits_signals a ws) (fits_signals b ws) f)) (value_fits b p.3 (and_right (fits_signals a ws) (fits_signals b ws) f)))
  value_fits (Repeat width count a) h f =
      let p = agree_three (width == count * width_of a) (nat_le 1 count) (nat_le width 128) (agrees a) h in
      subst (λ k. value_of (Repeat width count a) env < 2 ^ k) (sym (eqb-true width (count * width_of a) p.0))
      (copies_fit count (width_of a) (value_of a env) (value_fits a p.3 f))
  value_fits (Resized a width signed) h f = wrapped_below width _
