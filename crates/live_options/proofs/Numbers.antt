-- Numbers of 1 to 13 digits.
use Rattle.std.proofs.Common.{◌≡◌, ℕ, ◌≤◌, Bool, true, false, eqb, ltb, leb, cond, ◌&&◌, List, [], ◌∷◌, length, Some, None, Result, refl, sym, ap, ◌∙◌, arith}
use Rattle.std.specs.Result.{result_ok}
use Rattle.std.specs.List.{list_all}
use Rattle.std.specs.Char.{is_ascii_digit}
use Rattle.std.specs.Str.{all_ascii_digits}
use Rattle.std.specs.Str.Parse.{ParsesUnsigned, digits_value}
use Rattle.std.proofs.lemmas.Bool.{le-leb, ltb-true, leb-true}
use Rattle.std.proofs.lemmas.Bool.Decides.{nat_tests}
use Rattle.std.proofs.lemmas.Str.Parse.{IsNumeralModel, numerals_by_value, tells_all_ascii_digits, parse_gives, digits_value_short}
use Rattle.clap.proofs.WalkLemmas.{both}
use Rattle.live_options.specs.Words.{is_number, number_of}

-- of a text of 1 to 13 bytes only these count
pub is_number_short : (text : List ℕ) → false ≡ eqb (length text) 0 → length text ≤ 13 → list_all is_ascii_digit text ≡ is_number text
is_number_short text some few = by (ltb 0 (length text)) (leb (length text) 13) (grind (arith, nat_tests)) (le-leb _ _ few)
  where
    by : (x y : Bool) → x ≡ true → y ≡ true → list_all is_ascii_digit text ≡ (x && (y && list_all is_ascii_digit text))
    by x y p q = grind arith

same_digits : (text : List ℕ) → list_all is_ascii_digit text ≡ all_ascii_digits text
same_digits [] = refl
same_digits (c ∷ cs) = ap (λ b. is_ascii_digit c && b) (same_digits cs)

numeral : IsNumeralModel (λ ds. all_ascii_digits ds ≡ true) (digits_value 10)
numeral = numerals_by_value (λ ds. all_ascii_digits ds ≡ true) tells_all_ascii_digits

-- what such a text parses to
pub number_parsed : {E : Type 0} (text : List ℕ) (r : Result ℕ E) → ParsesUnsigned 64 10 text r → is_number text ≡ true → result_ok r ≡ number_of text
number_parsed text r parses is =
    let some = both (ltb 0 (length text)) (leb (length text) 13 && list_all is_ascii_digit text) is in
    let few = both (leb (length text) 13) (list_all is_ascii_digit text) some.1 in
    let digits : all_ascii_digits text ≡ true = sym (same_digits text) ∙ few.1 in
    let small = digits_value_short numeral text 13 digits (leb-true _ _ few.0) in
    ap result_ok (parse_gives numeral 64 text r parses digits (ltb-true _ _ some.0) (omega (arith, small)))
    ∙ sym (ap (λ b. cond b (Some (digits_value 10 text)) None) is)
