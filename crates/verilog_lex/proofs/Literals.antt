-- A literal is a Number or a Wild.
use Rattle.std.proofs.Common.{◌≡◌, ℕ, Bool, true, false, cond, List, Option, Some, None, refl}
use Rattle.verilog_lex.specs.declared.kind.Kind.{Kind}
use Rattle.verilog_lex.specs.declared.kind.Kind.TheVariants as kind
use Rattle.verilog_lex.specs.declared.literal.Literal.{Literal}
use Rattle.verilog_lex.specs.Numbers.{digits_value, has_wild, number_of, wild_of, based_literal, plain_literal, size_of, sized_literal, decimal_literal}
use Rattle.ls_text.specs.Options.{◌>>=◌, guard}
use Rattle.verilog_lex.proofs.Unended.{is_end}

-- whether a literal's kind is the end
abbrev pub is_end_literal : Option (Kind × Literal) → Bool
is_end_literal None = false
is_end_literal (Some l) = is_end l.0

no_number : (size : ℕ) (signed : Bool) (value : ℕ) → is_end_literal (number_of size signed value) ≡ false
unfolding number_of
no_number size signed value = by _ _ _ _
  where
    by : (a b : Bool) (x y : Literal) → is_end_literal (cond a (guard b (kind.Number, x)) (Some (kind.Number, y))) ≡ false
    by true true x y = refl
    by true false x y = refl
    by false b x y = refl

no_wild : (size : ℕ) (signed : Bool) (radix : ℕ) (digits : List ℕ) (value : ℕ) → is_end_literal (wild_of size signed radix digits value) ≡ false
unfolding wild_of
no_wild size signed radix digits value = by _ _
  where
    by : (a : Bool) (x : Literal) → is_end_literal (cond a None (Some (kind.Wild, x))) ≡ false
    by true x = refl
    by false x = refl

onward : {A : Type 0} (o : Option A) (f : A → Option (Kind × Literal)) → ((x : A) → is_end_literal (f x) ≡ false) → is_end_literal (o >>= f) ≡ false
onward None f h = refl
onward (Some x) f h = h x

one_of : (b : Bool) (x y : Option (Kind × Literal)) → is_end_literal x ≡ false → is_end_literal y ≡ false → is_end_literal (cond b x y) ≡ false
one_of true x y f g = f
one_of false x y f g = g

pub no_based : (size : ℕ) (signed : Bool) (radix : ℕ) (digits : List ℕ) → is_end_literal (based_literal size signed radix digits) ≡ false
unfolding based_literal
no_based size signed radix digits =
    onward (digits_value radix digits) _ (λ value. one_of (has_wild digits) _ _ (no_wild size signed radix digits value) (no_number size signed value))

pub no_decimal : (digits : List ℕ) (part : Option (Bool × ℕ × List ℕ)) → is_end_literal (decimal_literal digits part) ≡ false
unfolding plain_literal sized_literal
no_decimal digits None = onward (digits_value 10 digits) _ (λ value. no_number 0 true value)
no_decimal digits (Some part) = onward (size_of digits) _ (λ size. no_based size part.0 part.1 part.2)
