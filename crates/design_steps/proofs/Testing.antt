-- What conditions ask, and what steps find of it.
use Rattle.std.proofs.Common.{◌≡◌, ℕ, ◌^◌, ◌<◌, Bool, true, false, ◌==◌, not, List, length, refl, sym, ◌∙◌, ap, ap₂}
use Rattle.std.specs.Prelude.{if◌then◌else◌, slice_index}
use Rattle.std.proofs.lemmas.Bool.{eqb-true}
use Rattle.bits.proofs.Modulo.{small}
use Rattle.typed_ir.specs.declared.comparison.Comparison.{Comparison}
use Rattle.typed_ir.specs.declared.comparison.Comparison.TheVariants.{Equal, Unequal, Less, AtMost, Greater, AtLeast}
use Rattle.typed_ir.specs.declared.signedness.Signedness.{Signedness}
use Rattle.typed_ir.specs.declared.signedness.Signedness.TheVariants.{Signed, Unsigned}
use Rattle.typed_ir.specs.declared.binary_operator.BinaryOperator.TheVariants.{Arithmetic, Compare, Logical, Shift}
use Rattle.typed_ir.specs.Valuations.{Valuation}
use Rattle.typed_ir.specs.Sized.{Sized, Constant, Name, Part, Pick, Unary, Binary, Choice, Concat, Repeat, Resized, width_of, value_of, truth_value, apply_comparison, agrees, fits_signals}
use Rattle.typed_ir.proofs.Cases.{and_left, and_right}
use Rattle.word_steps.specs.Sound.{lies_in}
use Rattle.word_steps.specs.Walks.{skips, writes}
use Rattle.word_steps.specs.declared.op.Op.{Op}
use Rattle.word_steps.specs.declared.op.Op.TheVariants.{SkipIfZero}
use Rattle.design_steps.specs.Statements.{Test, Truth, Pair, unless_less, if_less, test_of}
use Rattle.design_steps.proofs.Fits.{agree_both, at_width, value_fits}

-- an operator that writes no word, and takes values of any width
pub record IsSkip (op : Op) : Type 0 where
  pub still : writes op ≡ false
  pub lies : (width : ℕ) → lies_in 128 op width 0 ≡ true

unless_skips : (s : Signedness) → IsSkip (unless_less s)
unless_skips Signed = record { still = refl; lies = λ w. refl }
unless_skips Unsigned = record { still = refl; lies = λ w. refl }

if_skips : (s : Signedness) → IsSkip (if_less s)
if_skips Signed = record { still = refl; lies = λ w. refl }
if_skips Unsigned = record { still = refl; lies = λ w. refl }

-- this holds of each expression that is laid out
abbrev pub Asks : (Sized → Type 0) → Test → Type 0
Asks P (Truth c) = P c
Asks P (Pair op a b) = IsSkip op × P a × P b

-- what holds of a condition, and of the operands of each comparison of which it holds
pub asks : (P : Sized → Type 0) → ((op : Comparison) (a b : Sized) → P (Binary (Compare op) a b) → P a × P b) → (c : Sized) → P c → Asks P (test_of c)
asks P parts (Constant width value) h = h
asks P parts (Name signal width) h = h
asks P parts (Part span) h = h
asks P parts (Pick signal width below signed index) h = h
asks P parts (Unary op a) h = h
asks P parts (Binary (Arithmetic op) a b) h = h
asks P parts (Binary (Compare Equal) a b) h = let p = parts Equal a b h in (record { still = refl; lies = λ w. refl }, p.0, p.1)
asks P parts (Binary (Compare Unequal) a b) h = let p = parts Unequal a b h in (record { still = refl; lies = λ w. refl }, p.0, p.1)
asks P parts (Binary (Compare (Less s)) a b) h = let p = parts (Less s) a b h in (unless_skips s, p.0, p.1)
asks P parts (Binary (Compare (AtMost s)) a b) h = let p = parts (AtMost s) a b h in (if_skips s, p.1, p.0)
asks P parts (Binary (Compare (Greater s)) a b) h = let p = parts (Greater s) a b h in (unless_skips s, p.1, p.0)
asks P parts (Binary (Compare (AtLeast s)) a b) h = let p = parts (AtLeast s) a b h in (if_skips s, p.0, p.1)
asks P parts (Binary (Logical op) a b) h = h
asks P parts (Binary (Shift op) a b) h = h
asks P parts (Choice c a b) h = h
asks P parts (Concat width a b) h = h
asks P parts (Repeat width count a) h = h
asks P parts (Resized a width signed) h = h

-- how many of so many steps are passed over
abbrev pub passed : Test → ℕ → Valuation → ℕ
passed (Truth c) past env = skips SkipIfZero 1 past (value_of c env) 0
passed (Pair op a b) past env = skips op (width_of a) past (value_of a env) (value_of b env)

nonzero : (b : Bool) (past : ℕ) → (if b then past else 0) ≡ (if not b then 0 else past)
nonzero true past = refl
nonzero false past = refl

holds : (b : Bool) (past : ℕ) → (if b then 0 else past) ≡ (if not (truth_value b == 0) then 0 else past)
holds true past = refl
holds false past = refl

fails : (b : Bool) (past : ℕ) → (if b then past else 0) ≡ (if not (truth_value (not b) == 0) then 0 else past)
fails true past = refl
fails false past = refl

-- values that fit the width are all of what the step compares
unless_right : (s : Signedness) (w x y past : ℕ) → x < 2 ^ w → y < 2 ^ w
    → skips (unless_less s) w past x y ≡ (if not (truth_value (apply_comparison (Less s) w x y) == 0) then 0 else past)
unless_right Signed w x y past h g =
    ap₂ (λ m n. if apply_comparison (Less Signed) w m n then 0 else past) (small x w h) (small y w g) ∙ holds (apply_comparison (Less Signed) w x y) past
unless_right Unsigned w x y past h g = holds (apply_comparison (Less Unsigned) w x y) past

if_right : (s : Signedness) (w x y past : ℕ) → x < 2 ^ w → y < 2 ^ w
    → skips (if_less s) w past x y ≡ (if not (truth_value (not (apply_comparison (Less s) w x y)) == 0) then 0 else past)
if_right Signed w x y past h g =
    ap₂ (λ m n. if apply_comparison (Less Signed) w m n then past else 0) (small x w h) (small y w g) ∙ fails (apply_comparison (Less Signed) w x y) past
if_right Unsigned w x y past h g = fails (apply_comparison (Less Unsigned) w x y) past

module _ (ws : List ℕ) (env : Valuation) (fit : (s : ℕ) → s < length ws → env s < 2 ^ slice_index ws s) where
  both_fit : (op : Comparison) (a b : Sized) → agrees (Binary (Compare op) a b) ≡ true → fits_signals (Binary (Compare op) a b) ws ≡ true
      → (width_of b ≡ width_of a) × (value_of a env < 2 ^ width_of a) × (value_of b env < 2 ^ width_of a)
  both_fit op a b h f =
      let p = agree_both (width_of a == width_of b) (agrees a) (agrees b) h in (
        sym (eqb-true (width_of a) (width_of b) p.0),
        value_fits ws env fit a p.1 (and_left (fits_signals a ws) (fits_signals b ws) f),
        at_width (width_of a) (width_of b) (value_of b env) p.0 (value_fits ws env fit b p.2 (and_right (fits_signals a ws) (fits_signals b ws) f)),
      )

  -- all of them where the condition's value is 0, and else none
  pub passed_right : (c : Sized) (past : ℕ) → agrees c ≡ true → fits_signals c ws ≡ true
      → passed (test_of c) past env ≡ (if not (value_of c env == 0) then 0 else past)
  passed_right (Constant width value) past h f = nonzero (value == 0) past
  passed_right (Name signal width) past h f = nonzero (env signal == 0) past
  passed_right (Part span) past h f = nonzero (value_of (Part span) env == 0) past
  passed_right (Pick signal width below signed index) past h f = nonzero (value_of (Pick signal width below signed index) env == 0) past
  passed_right (Unary op a) past h f = nonzero (value_of (Unary op a) env == 0) past
  passed_right (Binary (Arithmetic op) a b) past h f = nonzero (value_of (Binary (Arithmetic op) a b) env == 0) past
  passed_right (Binary (Compare Equal) a b) past h f = holds (value_of a env == value_of b env) past
  passed_right (Binary (Compare Unequal) a b) past h f = fails (value_of a env == value_of b env) past
  passed_right (Binary (Compare (Less s)) a b) past h f =
      let k = both_fit (Less s) a b h f in
      unless_right s (width_of a) (value_of a env) (value_of b env) past k.1 k.2
  passed_right (Binary (Compare (AtMost s)) a b) past h f =
      let k = both_fit (AtMost s) a b h f in
      ap (λ w. skips (if_less s) w past (value_of b env) (value_of a env)) k.0 ∙ if_right s (width_of a) (value_of b env) (value_of a env) past k.2 k.1
  passed_right (Binary (Compare (Greater s)) a b) past h f =
      let k = both_fit (Greater s) a b h f in
      ap (λ w. skips (unless_less s) w past (value_of b env) (value_of a env)) k.0 ∙ unless_right s (width_of a) (value_of b env) (value_of a env) past k.2 k.1
  passed_right (Binary (Compare (AtLeast s)) a b) past h f =
      let k = both_fit (AtLeast s) a b h f in
      if_right s (width_of a) (value_of a env) (value_of b env) past k.1 k.2
  passed_right (Binary (Logical op) a b) past h f = nonzero (value_of (Binary (Logical op) a b) env == 0) past
  passed_right (Binary (Shift op) a b) past h f = nonzero (value_of (Binary (Shift op) a b) env == 0) past
  passed_right (Choice c a b) past h f = nonzero (value_of (Choice c a b) env == 0) past
  passed_right (Concat width a b) past h f = nonzero (value_of (Concat width a b) env == 0) past
  passed_right (Repeat width count a) past h f = nonzero (value_of (Repeat width count a) env == 0) past
  passed_right (Resized a width signed) past h f = nonzero (value_of (Resized a width signed) env == 0) past
