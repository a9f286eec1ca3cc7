-- What the text of a word or a sign tells, which no number has.
use Rattle.std.proofs.Common.{◌≡◌, ◌∙◌, ◌<◌, ◌≤◌, ℕ, ◌^◌, Bool, true, false, true≢false, not, ◌&&◌, ◌||◌, cond, eqb, leb, List, [], ◌∷◌, ◌++◌, Option, Some, None, refl, sym, ap, subst, arith}
use Rattle.std.specs.List.{list_all}
use Rattle.std.specs.Str.{bytes_eq}
use Rattle.std.specs.Prelude.{decimal}
use Rattle.std.specs.Str.Parse.{AllDigits}
use Rattle.std.proofs.lemmas.Bool.{and_parts, not-true, eqb-true, leb-true, le-leb, lt-leb, ne_eqb}
use Rattle.std.proofs.lemmas.Fmt.{decimal_is_IsNumeral}
use Rattle.std.proofs.lemmas.Option.{none-some, same_Some}
use Rattle.std.proofs.lemmas.Slice.Eq.{bytes_eq-Decides}
use Rattle.std.proofs.lemmas.Str.Parse.{digit_from_value}
use Rattle.ls_text.specs.Bytes.{is_letter, is_digit}
use Rattle.ls_text.specs.Texts.{text_at}
use Rattle.verilog_lex.specs.declared.token.Token.{Token}
use Rattle.verilog_lex.specs.declared.kind.Kind.{Kind}
use Rattle.verilog_lex.specs.declared.kind.Kind.TheVariants as k
use Rattle.verilog_lex.specs.declared.literal.Literal.{Literal}
use Rattle.verilog_lex.specs.Keywords.{kind_in, used_words, other_words, kind_or, is_among, word_kind}
use Rattle.verilog_lex.specs.Signs.{triples, doubles, singles}
use Rattle.verilog_lex.specs.Stretches.{signs}
use Rattle.verilog_spelling.specs.Spellings.{text_of_kind, size_text, number_text, pattern_text, hex_text, binary_digits}
use Rattle.version_swap.specs.Proper.{text_kind}
use Rattle.version_swap.proofs.Patterns.{marked, number_cut, pattern_cut}

-- whether tokens of the kind are spelled by their literals
abbrev pub is_literal : Kind → Bool
is_literal k.Number = true
is_literal k.Wild = true
is_literal _ = false

pub other_text : (kind : Kind) (names : List (List ℕ)) (t : Token) → is_literal kind ≡ false → text_of_kind kind names t ≡ text_at names t.text.0
other_text k.Number names t other = absurd (true≢false other)
other_text k.Wild names t other = absurd (true≢false other)
other_text _ names t other = refl

-- a number begins with a digit or a quote
abbrev pub begins_number : List ℕ → Bool
begins_number [] = false
begins_number (c ∷ cs) = is_digit c || eqb c 39

-- ---- tables

-- what holds of every entry of a table holds of one that it has
pub listed_has : (p : List ℕ → Kind → Bool) (table : List (List ℕ × Kind)) (text : List ℕ) (kind : Kind) → list_all (λ e. p e.0 e.1) table ≡ true
    → kind_in table text ≡ Some kind → p text kind ≡ true
listed_has p [] text kind all is = absurd (none-some kind is)
listed_has p (e ∷ table) text kind all is =
    let parts : (p e.0 e.1 ≡ true) × (list_all (λ e. p e.0 e.1) table ≡ true) = and_parts (p e.0 e.1) _ all in
    by (bytes_eq e.0 text) refl parts.0 (listed_has p table text kind parts.1) is
  where
    by : (same : Bool) → bytes_eq e.0 text ≡ same → p e.0 e.1 ≡ true → (kind_in table text ≡ Some kind → p text kind ≡ true)
        → cond same (Some e.1) (kind_in table text) ≡ Some kind → p text kind ≡ true
    by true same here later is =
        subst (λ j. p text j ≡ true) (same_Some e.1 kind is) (subst (λ t. p t e.1 ≡ true) ((bytes_eq-Decides e.0 text).0 same) here)
    by false same here later is = later is

abbrev is_sign : List ℕ → Kind → Bool
is_sign text kind = not (begins_number text) && not (is_literal kind)

sign_is : (text : List ℕ) (kind : Kind) → kind_in signs text ≡ Some kind → is_sign text kind ≡ true
unfolding triples doubles singles
sign_is text kind is = listed_has is_sign signs text kind refl is

used_is : (text : List ℕ) (kind : Kind) → kind_in used_words text ≡ Some kind → not (is_literal kind) ≡ true
unfolding used_words
used_is text kind is = listed_has (λ t j. not (is_literal j)) used_words text kind refl is

word_is : (text : List ℕ) → is_literal (word_kind text) ≡ false
unfolding word_kind
word_is text = by (kind_in used_words text) refl (is_among other_words text)
  where
    by : (o : Option Kind) → kind_in used_words text ≡ o → (other : Bool) → is_literal (kind_or o (cond other k.Reserved k.Word)) ≡ false
    by None is true = refl
    by None is false = refl
    by (Some j) is other = not-true (is_literal j) (used_is text j is)

-- ---- first bytes

letter_high : (c : ℕ) → is_letter c ≡ true → 65 ≤ c
letter_high c is = by (leb 97 c) (leb c 122) (leb 65 c) (leb c 90) (eqb c 95) refl refl refl is
  where
    by : (a b d e f : Bool) → leb 97 c ≡ a → leb 65 c ≡ d → eqb c 95 ≡ f → ((a && b) || ((d && e) || f)) ≡ true → 65 ≤ c
    by true b d e f i j l h = omega (arith, leb-true 97 c i)
    by false b true e f i j l h = leb-true 65 c j
    by false b false e true i j l h = omega (arith, eqb-true c 95 l)
    by false b false e false i j l h = absurd (true≢false (sym h))

high_begins : (c : ℕ) (cs : List ℕ) → 65 ≤ c → begins_number (c ∷ cs) ≡ false
high_begins c cs high = rw (le-leb 48 c (omega arith), lt-leb c 57 (omega arith), ne_eqb c 39 (λ is. omega arith)) refl

pub written_begins : (text : List ℕ) (kind : Kind) → text_kind text ≡ Some kind → (begins_number text ≡ false) × (is_literal kind ≡ false)
written_begins [] kind is = absurd (none-some kind is)
written_begins (b ∷ bs) kind is = by (is_letter b) refl is
  where
    by : (c : Bool) → is_letter b ≡ c → cond c (Some (word_kind (b ∷ bs))) (kind_in signs (b ∷ bs)) ≡ Some kind
        → (begins_number (b ∷ bs) ≡ false) × (is_literal kind ≡ false)
    by true letter is =
        (high_begins b bs (letter_high b letter), subst (λ j. is_literal j ≡ false) (same_Some (word_kind (b ∷ bs)) kind is) (word_is (b ∷ bs)))
    by false letter is =
        let parts = and_parts (not (begins_number (b ∷ bs))) (not (is_literal kind)) (sign_is (b ∷ bs) kind is) in
        (not-true (begins_number (b ∷ bs)) parts.0, not-true (is_literal kind) parts.1)

-- ---- numbers

digits_begin : (ds x : List ℕ) → AllDigits 10 ds → begins_number x ≡ true → begins_number (ds ++ x) ≡ true
digits_begin [] x all begins = begins
digits_begin (d ∷ ds) x all begins =
    let range = digit_from_value d all.0 in rw (le-leb 48 d (omega (arith, range)), le-leb d 57 (omega (arith, range))) refl

sized_begins : (n : ℕ) (x : List ℕ) → n < 2 ^ 64 → begins_number x ≡ true → begins_number (size_text n ++ x) ≡ true
sized_begins n x small begins = by (eqb n 0)
  where
    by : (b : Bool) → begins_number (cond b [] (decimal n) ++ x) ≡ true
    by true = begins
    by false = digits_begin (decimal n) x (decimal_is_IsNumeral n small).0.1 begins

pub number_begins : (l : Literal) → l.size < 2 ^ 64 → begins_number (number_text l) ≡ true
number_begins l small = ap begins_number (number_cut l) ∙ sized_begins l.size (marked l.signed (hex_text l.value)) small (by l.signed)
  where
    by : (b : Bool) → begins_number (marked b (hex_text l.value)) ≡ true
    by true = refl
    by false = refl

pub pattern_begins : (l : Literal) → l.size < 2 ^ 64 → begins_number (pattern_text l) ≡ true
pattern_begins l small = ap begins_number (pattern_cut l) ∙ sized_begins l.size (39 ∷ 98 ∷ binary_digits l.size l.value l.mask) small refl
