-- The literals that digits stand for are proper.
use Rattle.std.proofs.Common.{◌≡◌, ◌∙◌, ◌<◌, ◌≤◌, ◌⊎◌, ℕ, ◌%◌, ◌^◌, Bool, true, false, ◌||◌, ◌&&◌, cond, eqb, leb, List, codes, Option, Some, None, refl, sym, ap, subst, inl, inr, arith}
use Rattle.std.specs.Int.{bit_at}
use Rattle.std.proofs.lemmas.Bool.{and_parts, or_parts, eqb-false, leb-true}
use Rattle.std.proofs.lemmas.Nat.{pow_pos, mod_below}
use Rattle.std.proofs.lemmas.Option.{none-some, same_Some}
use Rattle.std.proofs.Math.Nat.{pow-le-pow_right}
use Rattle.ls_text.specs.Options.{guard, ◌>>=◌}
use Rattle.verilog_lex.specs.declared.kind.Kind.{Kind}
use Rattle.verilog_lex.specs.declared.kind.Kind.TheVariants as k
use Rattle.verilog_lex.specs.declared.literal.Literal.{Literal}
use Rattle.verilog_lex.specs.Cuts.{radix_of}
use Rattle.verilog_lex.specs.Numbers.{digits_value, digits_mask, has_wild, number_of, wild_of, based_literal, plain_literal, size_of, sized_literal, decimal_literal}
use Rattle.version_swap.specs.Proper.{IsNumber, IsPattern}
use Rattle.version_swap.proofs.WildDigits.{mask_apart}

abbrev pub IsLiteral : Kind × Literal → Type 0
IsLiteral n = IsNumber n.0 (codes "number") n.1 ⊎ IsPattern n.0 (codes "number") n.1

-- the radix of a base letter
abbrev pub IsRadix : ℕ → Type 0
IsRadix r = (c : ℕ) × (radix_of c ≡ r) × (0 < r)

power : (r : ℕ) → IsRadix r → eqb r 10 ≡ false → (n : ℕ) × (r ≡ 2 ^ n)
power r h other = by (eqb h.0 98 || eqb h.0 66) (eqb h.0 111 || eqb h.0 79) (eqb h.0 100 || eqb h.0 68) (eqb h.0 104 || eqb h.0 72) h.1
  where
    by : (a b d e : Bool) → cond a 2 (cond b 8 (cond d 10 (cond e 16 0))) ≡ r → (n : ℕ) × (r ≡ 2 ^ n)
    by true b d e is = (1, sym is)
    by false true d e is = (3, sym is)
    by false false true e is = absurd (eqb-false r 10 other (sym is))
    by false false false true is = (4, sym is)
    by false false false false is = absurd (omega (arith, h.2, is))

number_is : (size : ℕ) (signed : Bool) (value : ℕ) (n : Kind × Literal) → size ≤ 128 → number_of size signed value ≡ Some n
    → IsNumber n.0 (codes "number") n.1
unfolding number_of
number_is size signed value n within is = by (eqb size 0) (leb value 4294967295) refl is
  where
    whole : Kind × Literal
    whole = (k.Number, record { size = 0; signed = signed; value = value; mask = 0 })

    cut : Kind × Literal
    cut = (k.Number, record { size = size; signed = signed; value = value % 2 ^ size; mask = 0 })

    below : value % 2 ^ size < 2 ^ 128
    below = omega (arith, mod_below value (2 ^ size) (pow_pos size), pow-le-pow_right {n = 2} (omega arith) within)

    by : (a b : Bool) → leb value 4294967295 ≡ b → cond a (guard b whole) (Some cut) ≡ Some n → IsNumber n.0 (codes "number") n.1
    by true true low is = subst (λ (n : Kind × Literal). IsNumber n.0 (codes "number") n.1) (same_Some whole n is)
        (record { number = refl; shown = refl; sized = omega arith; small = omega (arith, leb-true value 4294967295 low); plain = refl })
    by true false low is = absurd (none-some n is)
    by false b low is = subst (λ (n : Kind × Literal). IsNumber n.0 (codes "number") n.1) (same_Some cut n is)
        (record { number = refl; shown = refl; sized = omega (arith, within); small = below; plain = refl })

wild_is : (size : ℕ) (signed : Bool) (radix : ℕ) (digits : List ℕ) (value : ℕ) (n : Kind × Literal) → size ≤ 128 → IsRadix radix
    → digits_value radix digits ≡ Some value → wild_of size signed radix digits value ≡ Some n → IsPattern n.0 (codes "number") n.1
unfolding wild_of
wild_is size signed radix digits value n within based valued is = by (eqb size 0 || (signed || eqb radix 10)) refl is
  where
    pattern : Kind × Literal
    pattern = (k.Wild, record { size = size; signed = false; value = value % 2 ^ size; mask = digits_mask radix digits % 2 ^ size })

    by : (b : Bool) → (eqb size 0 || (signed || eqb radix 10)) ≡ b → cond b None (Some pattern) ≡ Some n → IsPattern n.0 (codes "number") n.1
    by true none is = absurd (none-some n is)
    by false free is =
        let other = (or_parts signed (eqb radix 10) (or_parts (eqb size 0) (signed || eqb radix 10) free).1).1 in
        let bits = power radix based other in
        let value_is = ap (λ r. digits_value r digits) (sym bits.1) ∙ valued in
        subst (λ (n : Kind × Literal). IsPattern n.0 (codes "number") n.1) (same_Some pattern n is) (record {
          wild = refl;
          shown = refl;
          sized = omega (arith, within);
          unsigned = refl;
          small = mod_below value (2 ^ size) (pow_pos size);
          narrow = mod_below (digits_mask radix digits) (2 ^ size) (pow_pos size);
          apart = subst (λ r. (i : ℕ) → bit_at (digits_mask r digits % 2 ^ size) i ≡ 1 → bit_at (value % 2 ^ size) i ≡ 0) (sym bits.1)
              (mask_apart bits.0 size value digits within value_is);
        })

pub based_is : (size : ℕ) (signed : Bool) (radix : ℕ) (digits : List ℕ) (n : Kind × Literal) → size ≤ 128 → IsRadix radix
    → based_literal size signed radix digits ≡ Some n → IsLiteral n
unfolding based_literal
based_is size signed radix digits n within based is = by (digits_value radix digits) refl is
  where
    by : (o : Option ℕ) → digits_value radix digits ≡ o
        → (o >>= λ value. cond (has_wild digits) (wild_of size signed radix digits value) (number_of size signed value)) ≡ Some n → IsLiteral n
    by None valued is = absurd (none-some n is)
    by (Some value) valued is = at (has_wild digits) is
      where
        at : (b : Bool) → cond b (wild_of size signed radix digits value) (number_of size signed value) ≡ Some n → IsLiteral n
        at true is = inr (wild_is size signed radix digits value n within based valued is)
        at false is = inl (number_is size signed value n within is)

size_within : (digits : List ℕ) (size : ℕ) → size_of digits ≡ Some size → size ≤ 128
unfolding size_of
size_within digits size is = by (digits_value 10 digits) is
  where
    by : (o : Option ℕ) → (o >>= λ n. guard (leb 1 n && leb n 128) n) ≡ Some size → size ≤ 128
    by None is = absurd (none-some size is)
    by (Some n) is = at (leb 1 n && leb n 128) refl is
      where
        at : (b : Bool) → (leb 1 n && leb n 128) ≡ b → guard b n ≡ Some size → size ≤ 128
        at true low is = omega (arith, leb-true n 128 (and_parts (leb 1 n) (leb n 128) low).1, same_Some n size is)
        at false low is = absurd (none-some size is)

-- what is known of the based part behind a plain decimal
abbrev pub IsPartRadix : Option (Bool × ℕ × List ℕ) → Type 0
IsPartRadix None = Unit {0}
IsPartRadix (Some part) = IsRadix part.1

pub decimal_is : (digits : List ℕ) (part : Option (Bool × ℕ × List ℕ)) (n : Kind × Literal) → IsPartRadix part → decimal_literal digits part ≡ Some n
    → IsLiteral n
unfolding plain_literal sized_literal
decimal_is digits None n based is = by (digits_value 10 digits) is
  where
    by : (o : Option ℕ) → (o >>= λ value. number_of 0 true value) ≡ Some n → IsLiteral n
    by None is = absurd (none-some n is)
    by (Some value) is = inl (number_is 0 true value n (omega arith) is)
decimal_is digits (Some part) n based is = by (size_of digits) refl is
  where
    by : (o : Option ℕ) → size_of digits ≡ o → (o >>= λ size. based_literal size part.0 part.1 part.2) ≡ Some n → IsLiteral n
    by None sized is = absurd (none-some n is)
    by (Some size) sized is = based_is size part.0 part.1 part.2 n (size_within digits size sized) based is
