-- What steps make of operands is what the operators of the definition do.
use Rattle.std.proofs.Common.{◌≡◌, ℕ, zero, suc, ◌+◌, ◌-◌, ◌*◌, ◌/◌, ◌%◌, ◌^◌, ◌<◌, ◌≤◌, min, Bool, true, false, ◌&&◌, not, nat_le, nat_lt, refl, sym, ap, ap₂, ◌∙◌, subst, arith, ℤ, pos}
use Rattle.std.specs.Prelude.{bit_or, if◌then◌else◌, negsuc}
use Rattle.std.proofs.Math.Nat.{mul-add, mul_assoc, mul_comm, zero-mul}
use Rattle.std.proofs.lemmas.Bool.{leb-true, ltb-true, ltb-false, cond-true, cond-false, not-true}
use Rattle.std.proofs.lemmas.Int.{ints}
use Rattle.std.proofs.lemmas.Nat.{or_shifted, shl_whole}
use Rattle.std.proofs.lemmas.Nat.Bits.{same_from_bits}
use Rattle.bits.specs.Values.{resized}
use Rattle.bits.specs.Runs.{selected, replaced, replaced_within}
use Rattle.bits.proofs.Modulo.{small, fits_wider, zero_fits, gone_above, gone_below}
use Rattle.bits.proofs.Runs.{by_order, replaced-below, replaced-above}
use Rattle.bits.proofs.Signs.{cut_reading}
use Rattle.typed_ir.specs.declared.unary_operator.UnaryOperator.{UnaryOperator}
use Rattle.typed_ir.specs.declared.unary_operator.UnaryOperator.TheVariants.{Inverse, Negative, AllOnes, AnyOne, NoOne, OddOnes}
use Rattle.typed_ir.specs.declared.arithmetic_operator.ArithmeticOperator.TheVariants.{Sum, Difference, Product, Quotient, Remainder, And, Or, Xor, Xnor}
use Rattle.typed_ir.specs.declared.comparison.Comparison.TheVariants.{Equal, Unequal, Less, AtMost, Greater, AtLeast}
use Rattle.typed_ir.specs.declared.logical_operator.LogicalOperator.TheVariants.{Both, Either}
use Rattle.typed_ir.specs.declared.shift_operator.ShiftOperator.TheVariants.{Left, Right, Arithmetic as ArithmeticRight}
use Rattle.typed_ir.specs.declared.binary_operator.BinaryOperator.{BinaryOperator}
use Rattle.typed_ir.specs.declared.binary_operator.BinaryOperator.TheVariants.{Arithmetic, Compare, Logical, Shift}
use Rattle.typed_ir.specs.declared.signedness.Signedness.TheVariants.{Signed, Unsigned}
use Rattle.typed_ir.specs.Sized.{takes_widths, apply_unary, apply_binary, place_of, copies}
use Rattle.typed_ir.proofs.Cases.{by_cases, and_left, and_right}
use Rattle.typed_ir.proofs.Copies.{copies_fit}
use Rattle.word_steps.specs.declared.op.Op.TheVariants.{Select, Extend}
use Rattle.word_steps.specs.Walks.{apply, skips, writes, lowest, located, place_at}
use Rattle.design_steps.specs.Expressions.{unary_op, binary_op, swaps, locate_op, is_filled, resize_op, resize_low, is_plain}
use Rattle.design_steps.proofs.Fits.{at_width}

pub unary_none : (op : UnaryOperator) (w n x y : ℕ) → skips (unary_op op) w n x y ≡ 0
unary_none Inverse w n x y = refl
unary_none Negative w n x y = refl
unary_none AllOnes w n x y = refl
unary_none AnyOne w n x y = refl
unary_none NoOne w n x y = refl
unary_none OddOnes w n x y = refl

pub unary_writes : (op : UnaryOperator) → writes (unary_op op) ≡ true
unary_writes Inverse = refl
unary_writes Negative = refl
unary_writes AllOnes = refl
unary_writes AnyOne = refl
unary_writes NoOne = refl
unary_writes OddOnes = refl

pub unary_right : (op : UnaryOperator) (w x y z : ℕ) → x < 2 ^ w → apply (unary_op op) w 0 x y z ≡ apply_unary op w x
unary_right Inverse w x y z h = ap (apply_unary Inverse w) (small x w h)
unary_right Negative w x y z h = ap (apply_unary Negative w) (small x w h)
unary_right AllOnes w x y z h = refl
unary_right AnyOne w x y z h = refl
unary_right NoOne w x y z h = refl
unary_right OddOnes w x y z h = refl

pub binary_none : (op : BinaryOperator) (w n x y : ℕ) → skips (binary_op op) w n x y ≡ 0
binary_none (Arithmetic Sum) w n x y = refl
binary_none (Arithmetic Difference) w n x y = refl
binary_none (Arithmetic Product) w n x y = refl
binary_none (Arithmetic (Quotient Signed)) w n x y = refl
binary_none (Arithmetic (Quotient Unsigned)) w n x y = refl
binary_none (Arithmetic (Remainder Signed)) w n x y = refl
binary_none (Arithmetic (Remainder Unsigned)) w n x y = refl
binary_none (Arithmetic And) w n x y = refl
binary_none (Arithmetic Or) w n x y = refl
binary_none (Arithmetic Xor) w n x y = refl
binary_none (Arithmetic Xnor) w n x y = refl
binary_none (Compare Equal) w n x y = refl
binary_none (Compare Unequal) w n x y = refl
binary_none (Compare (Less Signed)) w n x y = refl
binary_none (Compare (Less Unsigned)) w n x y = refl
binary_none (Compare (AtMost Signed)) w n x y = refl
binary_none (Compare (AtMost Unsigned)) w n x y = refl
binary_none (Compare (Greater Signed)) w n x y = refl
binary_none (Compare (Greater Unsigned)) w n x y = refl
binary_none (Compare (AtLeast Signed)) w n x y = refl
binary_none (Compare (AtLeast Unsigned)) w n x y = refl
binary_none (Logical Both) w n x y = refl
binary_none (Logical Either) w n x y = refl
binary_none (Shift Left) w n x y = refl
binary_none (Shift Right) w n x y = refl
binary_none (Shift ArithmeticRight) w n x y = refl

pub binary_writes : (op : BinaryOperator) → writes (binary_op op) ≡ true
binary_writes (Arithmetic Sum) = refl
binary_writes (Arithmetic Difference) = refl
binary_writes (Arithmetic Product) = refl
binary_writes (Arithmetic (Quotient Signed)) = refl
binary_writes (Arithmetic (Quotient Unsigned)) = refl
binary_writes (Arithmetic (Remainder Signed)) = refl
binary_writes (Arithmetic (Remainder Unsigned)) = refl
binary_writes (Arithmetic And) = refl
binary_writes (Arithmetic Or) = refl
binary_writes (Arithmetic Xor) = refl
binary_writes (Arithmetic Xnor) = refl
binary_writes (Compare Equal) = refl
binary_writes (Compare Unequal) = refl
binary_writes (Compare (Less Signed)) = refl
binary_writes (Compare (Less Unsigned)) = refl
binary_writes (Compare (AtMost Signed)) = refl
binary_writes (Compare (AtMost Unsigned)) = refl
binary_writes (Compare (Greater Signed)) = refl
binary_writes (Compare (Greater Unsigned)) = refl
binary_writes (Compare (AtLeast Signed)) = refl
binary_writes (Compare (AtLeast Unsigned)) = refl
binary_writes (Logical Both) = refl
binary_writes (Logical Either) = refl
binary_writes (Shift Left) = refl
binary_writes (Shift Right) = refl
binary_writes (Shift ArithmeticRight) = refl

pub binary_right : (op : BinaryOperator) (w v x y z : ℕ) → takes_widths op w v ≡ true → x < 2 ^ w → y < 2 ^ v
    → apply (binary_op op) w 0 (if swaps op then y else x) (if swaps op then x else y) z ≡ apply_binary op w x y
binary_right (Arithmetic Sum) w v x y z t h g = refl
binary_right (Arithmetic Difference) w v x y z t h g = ap (apply_binary (Arithmetic Difference) w x) (small y w (at_width w v y t g))
binary_right (Arithmetic Product) w v x y z t h g = refl
binary_right (Arithmetic (Quotient Signed)) w v x y z t h g = ap₂ (apply_binary (Arithmetic (Quotient Signed)) w) (small x w h) (small y w (at_width w v y t g))
binary_right (Arithmetic (Quotient Unsigned)) w v x y z t h g = ap₂ (apply_binary (Arithmetic (Quotient Unsigned)) w) (small x w h) (small y w (at_width w v y t g))
binary_right (Arithmetic (Remainder Signed)) w v x y z t h g = ap₂ (apply_binary (Arithmetic (Remainder Signed)) w) (small x w h) (small y w (at_width w v y t g))
binary_right (Arithmetic (Remainder Unsigned)) w v x y z t h g = ap₂ (apply_binary (Arithmetic (Remainder Unsigned)) w) (small x w h) (small y w (at_width w v y t g))
binary_right (Arithmetic And) w v x y z t h g = refl
binary_right (Arithmetic Or) w v x y z t h g = refl
binary_right (Arithmetic Xor) w v x y z t h g = refl
binary_right (Arithmetic Xnor) w v x y z t h g = ap₂ (apply_binary (Arithmetic Xnor) w) (small x w h) (small y w (at_width w v y t g))
binary_right (Compare Equal) w v x y z t h g = refl
binary_right (Compare Unequal) w v x y z t h g = refl
binary_right (Compare (Less Signed)) w v x y z t h g = ap₂ (apply_binary (Compare (Less Signed)) w) (small x w h) (small y w (at_width w v y t g))
binary_right (Compare (Less Unsigned)) w v x y z t h g = refl
binary_right (Compare (AtMost Signed)) w v x y z t h g = ap₂ (apply_binary (Compare (AtMost Signed)) w) (small x w h) (small y w (at_width w v y t g))
binary_right (Compare (AtMost Unsigned)) w v x y z t h g = refl
binary_right (Compare (Greater Signed)) w v x y z t h g = ap₂ (apply_binary (Compare (Greater Signed)) w) (small x w h) (small y w (at_width w v y t g))
binary_right (Compare (Greater Unsigned)) w v x y z t h g = refl
binary_right (Compare (AtLeast Signed)) w v x y z t h g = ap₂ (apply_binary (Compare (AtLeast Signed)) w) (small x w h) (small y w (at_width w v y t g))
binary_right (Compare (AtLeast Unsigned)) w v x y z t h g = refl
binary_right (Logical Both) w v x y z t h g = refl
binary_right (Logical Either) w v x y z t h g = refl
binary_right (Shift Left) w v x y z t h g = refl
binary_right (Shift Right) w v x y z t h g = refl
binary_right (Shift ArithmeticRight) w v x y z t h g = ap (λ n. apply_binary (Shift ArithmeticRight) w n y) (small x w h)

pub join_right : (x y v w all : ℕ) → x < 2 ^ v → y < 2 ^ w → v + w ≤ all → bit_or (x * 2 ^ w % 2 ^ all) y ≡ x * 2 ^ w + y
join_right x y v w all fx fy few = ap (λ z. bit_or z y) (shl_whole x v w all fx few) ∙ or_shifted x w y fy

-- ---- copies

pub copies_times : (n w x : ℕ) → x * copies n w 1 ≡ copies n w x
copies_times zero w x = mul_comm x 0 ∙ zero-mul x
copies_times (suc n) w x =
    let one : x * 1 ≡ x = omega arith in
    mul-add x (copies n w 1 * 2 ^ w) 1 ∙ ap₂ (λ a b. a + b) (sym (mul_assoc x (copies n w 1) (2 ^ w)) ∙ ap (λ a. a * 2 ^ w) (copies_times n w x)) one

pub repeat_right : (n w all x : ℕ) → all ≡ n * w → x < 2 ^ w → (x * copies n w 1) % 2 ^ all ≡ copies n w x
repeat_right n w all x e h = ap (λ a. a % 2 ^ all) (copies_times n w x) ∙ small (copies n w x) all (subst (λ k. copies n w x < 2 ^ k) (sym e) (copies_fit n w x h))

-- ---- other widths

pub resize_none : (from to : ℕ) (signed : Bool) (w n x y : ℕ) → skips (resize_op from to signed) w n x y ≡ 0
resize_none from to signed w n x y = by_test (is_filled from to signed)
  where
    by_test : (b : Bool) → skips (if b then Extend else Select) w n x y ≡ 0
    by_test true = refl
    by_test false = refl

pub resize_writes : (from to : ℕ) (signed : Bool) → writes (resize_op from to signed) ≡ true
resize_writes from to signed = by_test (is_filled from to signed)
  where
    by_test : (b : Bool) → writes (if b then Extend else Select) ≡ true
    by_test true = refl
    by_test false = refl

-- a value that isn't filled with its sign is cut
cut_right : (from x to : ℕ) (signed : Bool) → x < 2 ^ from → is_filled from to signed ≡ false → x % 2 ^ to ≡ resized from x to signed
cut_right from x to signed fits t =
    cut_reading from x to signed fits (λ s n. ltb-false from to (sym (ap (λ b. b && nat_lt from to) s) ∙ t))

pub resize_right : (from x to : ℕ) (signed : Bool) (y z : ℕ) → x < 2 ^ from → 1 ≤ from
    → apply (resize_op from to signed) to (resize_low from to signed) x y z ≡ resized from x to signed
resize_right from x to signed y z fits some = by_test (is_filled from to signed) refl
  where
    by_test : (b : Bool) → is_filled from to signed ≡ b
        → apply (if b then Extend else Select) to (if b then from - 1 else 0) x y z ≡ resized from x to signed
    by_test true t =
        let back : from - 1 + 1 ≡ from = omega (arith, some) in
        ap (λ k. resized k (lowest k x) to true) back
        ∙ ap (λ v. resized from v to true) (small x from fits)
        ∙ ap (λ s. resized from x to s) (sym (and_left signed (nat_lt from to) t))
    by_test false t = let one : x / 2 ^ 0 ≡ x = omega arith in ap (λ k. k % 2 ^ to) one ∙ cut_right from x to signed fits t

pub plain_right : (from x to : ℕ) (signed : Bool) → x < 2 ^ from → is_plain from to signed ≡ true → x ≡ resized from x to signed
plain_right from x to signed fits t =
    sym (small x to (fits_more (leb-true from to (and_left (nat_le from to) (not (is_filled from to signed)) t))))
    ∙ cut_right from x to signed fits (not-true (is_filled from to signed) (and_right (nat_le from to) (not (is_filled from to signed)) t))
  where
    fits_more : from ≤ to → x < 2 ^ to
    fits_more few = fits_wider x from to fits few

-- ---- places that are known at run time

near_above : (at : ℕ) → at < 128 → place_at (at + 128) ≡ pos at
near_above at h = omega (arith, ints, h)

near_below : (b : ℕ) → b < 127 → place_at (127 - b) ≡ negsuc b
near_below b h = omega (arith, ints, h)

none_near : place_at 0 ≡ negsuc 127
none_near = omega (arith, ints)

pub pick_right : (n : ℕ) (z : ℤ) (w : ℕ) → n < 2 ^ 128 → w ≤ 128 → selected n (place_at (located z)) w ≡ selected n z w
pick_right n (pos at) w fits few = by_cases (nat_lt at 128)
    (λ t. ap (λ k. selected n (place_at k) w) (cond-true (nat_lt at 128) (at + 128) 0 t) ∙ ap (λ p. selected n p w) (near_above at (ltb-true at 128 t)))
    (λ t. ap (λ k. selected n (place_at k) w) (cond-false (nat_lt at 128) (at + 128) 0 t) ∙ ap (λ p. selected n p w) none_near
    ∙ gone_above n 128 w few ∙ sym (ap (λ k. k % 2 ^ w) (gone_below n at 128 fits (ltb-false at 128 t)) ∙ zero_fits w))
pick_right n (negsuc b) w fits few = by_order b 127
    (λ h. ap (λ p. selected n p w) (near_below b h))
    (λ h. let none : 127 - b ≡ 0 = omega (arith, h) in
    ap (λ k. selected n (place_at k) w) none ∙ ap (λ p. selected n p w) none_near ∙ gone_above n 128 w few ∙ sym (gone_above n (suc b) w (omega (arith, h, few))))

pub replaced_none : (n low x : ℕ) → replaced n low 0 x ≡ n
replaced_none n low x = same_from_bits (replaced n low 0 x) n (λ i. by_order i low
    (λ h. replaced-below n low 0 x i h)
    (λ h. replaced-above n low 0 x i (omega (arith, h))))

-- what lies outside is not written
pub none_of : (n low k x : ℕ) → k ≡ 0 → replaced n low k x ≡ n
none_of n low k x e = ap (λ j. replaced n low j x) e ∙ replaced_none n low x

pub put_right : (total n : ℕ) (z : ℤ) (w x : ℕ) → total ≤ 128 → w ≤ 128 → replaced_within total n (place_at (located z)) w x ≡ replaced_within total n z w x
put_right total n (pos at) w x few short = by_cases (nat_lt at 128)
    (λ t. ap (λ k. replaced_within total n (place_at k) w x) (cond-true (nat_lt at 128) (at + 128) 0 t) ∙ ap (λ p. replaced_within total n p w x) (near_above at (ltb-true at 128 t)))
    (λ t. ap (λ k. replaced_within total n (place_at k) w x) (cond-false (nat_lt at 128) (at + 128) 0 t) ∙ ap (λ p. replaced_within total n p w x) none_near
    ∙ none_of n 0 (min (w - 128) total) (x / 2 ^ 128) (omega (arith, short))
    ∙ sym (let far : 128 ≤ at = ltb-false at 128 t in none_of n at (min w (total - at)) x (omega (arith, far, few))))
put_right total n (negsuc b) w x few short = by_order b 127
    (λ h. ap (λ p. replaced_within total n p w x) (near_below b h))
    (λ h. let none : 127 - b ≡ 0 = omega (arith, h) in
    ap (λ k. replaced_within total n (place_at k) w x) none ∙ ap (λ p. replaced_within total n p w x) none_near
    ∙ none_of n 0 (min (w - 128) total) (x / 2 ^ 128) (omega (arith, short))
    ∙ sym (none_of n 0 (min (w - suc b) total) (x / 2 ^ suc b) (omega (arith, h, short))))

pub locate_none : (signed : Bool) (w n x y : ℕ) → skips (locate_op signed) w n x y ≡ 0
locate_none true w n x y = refl
locate_none false w n x y = refl

pub locate_writes : (signed : Bool) → writes (locate_op signed) ≡ true
locate_writes true = refl
locate_writes false = refl

pub locate_right : (signed : Bool) (w x below z : ℕ) → x < 2 ^ w → apply (locate_op signed) w 0 x below z ≡ located (place_of below signed w x)
locate_right true w x below z h = ap (λ v. located (place_of below true w v)) (small x w h)
locate_right false w x below z h = ap (λ v. located (place_of below false w v)) (small x w h)
