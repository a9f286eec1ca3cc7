-- Steps over words, and the walk over a list of them.
use Rattle.std.specs.Prelude.{ℕ, zero, suc, ◌+◌, ◌-◌, ◌*◌, ◌/◌, ◌%◌, ◌^◌, Bool, true, false, ◌==◌, nat_lt, if◌then◌else◌, bit_or, ℤ, pos, negsuc, ◌-ℤ◌, List, [], ◌∷◌, slice_index}
use Rattle.bits.specs.Values.{resized}
use Rattle.bits.specs.Runs.{selected, replaced, replaced_within}
use Rattle.typed_ir.specs.declared.unary_operator.UnaryOperator.TheVariants.{Inverse as Inverse', Negative as Negative', AllOnes as AllOnes', AnyOne as AnyOne', NoOne as NoOne', OddOnes as OddOnes'}
use Rattle.typed_ir.specs.declared.arithmetic_operator.ArithmeticOperator.TheVariants.{Sum as Sum', Difference as Difference', Product as Product', Quotient as Quotient', Remainder as Remainder', And as And', Or as Or', Xor as Xor', Xnor as Xnor'}
use Rattle.typed_ir.specs.declared.comparison.Comparison.TheVariants.{Equal as Equal', Unequal as Unequal', Less as Less', AtMost as AtMost'}
use Rattle.typed_ir.specs.declared.logical_operator.LogicalOperator.TheVariants.{Both as Both', Either as Either'}
use Rattle.typed_ir.specs.declared.shift_operator.ShiftOperator.TheVariants.{Left as Left', Right as Right', Arithmetic as Arithmetic'}
use Rattle.typed_ir.specs.declared.signedness.Signedness.TheVariants.{Signed, Unsigned}
use Rattle.typed_ir.specs.Valuations.{Valuation, put}
use Rattle.typed_ir.specs.Sized.{truth_value, apply_unary, apply_arithmetic, apply_comparison, apply_logical, apply_shift, place_of}
use Rattle.word_steps.specs.declared.step.Step.{Step}
use Rattle.word_steps.specs.declared.op.Op.{Op}
use Rattle.word_steps.specs.declared.op.Op.TheVariants.{Copy, Inverse, Negative, AllOnes, AnyOne, NoOne, OddOnes, Sum, Difference, Product, And, Or, Xor, Xnor, Quotient, Remainder, SignedQuotient, SignedRemainder, Equal, Unequal, Less, AtMost, SignedLess, SignedAtMost, Both, Either, Left, Right, Arithmetic, Choose, Select, Join, Extend, Place, Locate, SignedLocate, Pick, PlaceAt, SkipIfZero, SkipIfEqual, SkipUnlessEqual, SkipUnlessLess, SkipIfLess, SkipUnlessSignedLess, SkipIfSignedLess, Skip}

abbrev pub env_of : List ℕ → Valuation
env_of words = λ s. slice_index words s

-- so many of the lowest bits
abbrev pub lowest : ℕ → ℕ → ℕ
lowest width x = x % 2 ^ width

-- a place as a word: less than 128 bits from the lowest bit it is greater by 128, any other is 0
abbrev pub located : ℤ → ℕ
located (pos place) = if nat_lt place 128 then place + 128 else 0
located (negsuc below) = 127 - below

-- the place that a word tells
abbrev pub place_at : ℕ → ℤ
place_at x = pos (lowest 8 x) -ℤ pos 128

-- what a step makes of the words at its three places. Operators on values of a width see so many of the lowest bits
abbrev pub apply : Op → ℕ → ℕ → ℕ → ℕ → ℕ → ℕ
apply Copy width low x y z = x
apply Inverse width low x y z = apply_unary Inverse' width (lowest width x)
apply Negative width low x y z = apply_unary Negative' width (lowest width x)
apply AllOnes width low x y z = apply_unary AllOnes' width x
apply AnyOne width low x y z = apply_unary AnyOne' width x
apply NoOne width low x y z = apply_unary NoOne' width x
apply OddOnes width low x y z = apply_unary OddOnes' width x
apply Sum width low x y z = apply_arithmetic Sum' width x y
apply Difference width low x y z = apply_arithmetic Difference' width x (lowest width y)
apply Product width low x y z = apply_arithmetic Product' width x y
apply And width low x y z = apply_arithmetic And' width x y
apply Or width low x y z = apply_arithmetic Or' width x y
apply Xor width low x y z = apply_arithmetic Xor' width x y
apply Xnor width low x y z = apply_arithmetic Xnor' width (lowest width x) (lowest width y)
apply Quotient width low x y z = apply_arithmetic (Quotient' Unsigned) width (lowest width x) (lowest width y)
apply Remainder width low x y z = apply_arithmetic (Remainder' Unsigned) width (lowest width x) (lowest width y)
apply SignedQuotient width low x y z = apply_arithmetic (Quotient' Signed) width (lowest width x) (lowest width y)
apply SignedRemainder width low x y z = apply_arithmetic (Remainder' Signed) width (lowest width x) (lowest width y)
apply Equal width low x y z = truth_value (apply_comparison Equal' width x y)
apply Unequal width low x y z = truth_value (apply_comparison Unequal' width x y)
apply Less width low x y z = truth_value (apply_comparison (Less' Unsigned) width x y)
apply AtMost width low x y z = truth_value (apply_comparison (AtMost' Unsigned) width x y)
apply SignedLess width low x y z = truth_value (apply_comparison (Less' Signed) width (lowest width x) (lowest width y))
apply SignedAtMost width low x y z = truth_value (apply_comparison (AtMost' Signed) width (lowest width x) (lowest width y))
apply Both width low x y z = truth_value (apply_logical Both' x y)
apply Either width low x y z = truth_value (apply_logical Either' x y)
apply Left width low x y z = apply_shift Left' width x y
apply Right width low x y z = apply_shift Right' width x y
apply Arithmetic width low x y z = apply_shift Arithmetic' width (lowest width x) y
apply Choose width low x y z = if x == 0 then z else y
apply Select width low x y z = x / 2 ^ low % 2 ^ width
apply Join width low x y z = bit_or (x * 2 ^ low % 2 ^ width) y
apply Extend width low x y z = resized (low + 1) (lowest (low + 1) x) width true
apply Place width low x y z = replaced y low width x
apply Locate width low x y z = located (place_of y false width (lowest width x))
apply SignedLocate width low x y z = located (place_of y true width (lowest width x))
apply Pick width low x y z = selected x (place_at y) width
apply PlaceAt width low x y z = replaced_within low (lowest low z) (place_at y) width (lowest width x)
apply SkipIfZero width low x y z = 0
apply SkipIfEqual width low x y z = 0
apply SkipUnlessEqual width low x y z = 0
apply SkipUnlessLess width low x y z = 0
apply SkipIfLess width low x y z = 0
apply SkipUnlessSignedLess width low x y z = 0
apply SkipIfSignedLess width low x y z = 0
apply Skip width low x y z = 0

-- how many of the steps behind it a step passes over
abbrev pub skips : Op → ℕ → ℕ → ℕ → ℕ → ℕ
skips SkipIfZero width n x y = if x == 0 then n else 0
skips SkipIfEqual width n x y = if x == y then n else 0
skips SkipUnlessEqual width n x y = if x == y then 0 else n
skips SkipUnlessLess width n x y = if nat_lt x y then 0 else n
skips SkipIfLess width n x y = if nat_lt x y then n else 0
skips SkipUnlessSignedLess width n x y = if apply_comparison (Less' Signed) width (lowest width x) (lowest width y) then 0 else n
skips SkipIfSignedLess width n x y = if apply_comparison (Less' Signed) width (lowest width x) (lowest width y) then n else 0
skips Skip width n x y = n
skips op width n x y = 0

-- whether a step writes a word; the others pass over steps
abbrev pub writes : Op → Bool
writes SkipIfZero = false
writes SkipIfEqual = false
writes SkipUnlessEqual = false
writes SkipUnlessLess = false
writes SkipIfLess = false
writes SkipUnlessSignedLess = false
writes SkipIfSignedLess = false
writes Skip = false
writes op = true

-- a step that isn't wide sees the lower 64 bits of a word alone
abbrev pub seen : Bool → ℕ → ℕ
seen wide x = if wide then x else lowest 64 x

abbrev pub act : Step → Valuation → Valuation
act s w =
    if writes s.op then put w s.to (apply s.op s.width s.low (seen s.wide (w s.a)) (seen s.wide (w s.b)) (seen s.wide (w s.c))) else w

-- how many steps are still to be passed over, and the words
pub record At : Type 0 where
  pub skip : ℕ
  pub words : Valuation

abbrev pub at : ℕ → Valuation → At
at skip words = record { skip = skip; words = words }

abbrev pub go_at : Step → ℕ → Valuation → At
go_at s zero w = at (skips s.op s.width s.c (w s.a) (w s.b)) (act s w)
go_at s (suc n) w = at n w

-- all steps, from the first one on
abbrev pub walk : List Step → At → At
walk [] p = p
walk (s ∷ ss) p = walk ss (go_at s p.skip p.words)
