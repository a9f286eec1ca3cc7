-- A literal is read back from its text.
use Rattle.std.proofs.Common.{◌≡◌, ◌≢◌, ◌∙◌, ◌<◌, ℕ, zero, suc, ◌^◌, Bool, true, false, cond, eqb, List, ◌++◌, codes, inl, inr, append_assoc, refl, sym, ap, subst, arith}
use Rattle.std.specs.Int.{bit_at}
use Rattle.std.proofs.lemmas.Bool.{cases_lt, eqb-true, eqb-false}
use Rattle.std.proofs.lemmas.Nat.Bits.{bit_at-lt, same_from_bits_below}
use Rattle.verilog_lex.specs.declared.literal.Literal.{Literal}
use Rattle.verilog_spelling.specs.Spellings.{hex_text, size_text, number_text, digit_of, binary_digit_of, binary_digits, pattern_text}
use Rattle.version_swap.specs.Proper.{IsFreeOf}
use Rattle.version_swap.proofs.SpelledTexts.{EndsHere, cut_first, free_append}
use Rattle.version_swap.proofs.Numerals.{size_free, size_injective, hex_free, hex_injective}

-- ---- bits

abbrev shown : Bool → Bool → ℕ
shown wild one = cond wild 63 (cond one 49 48)

-- a digit tells its two bits, where a bit of the mask stands for a 0 of the value
digit_tells : (m v n w : ℕ) → m < 2 → v < 2 → n < 2 → w < 2 → (m ≡ 1 → v ≡ 0) → (n ≡ 1 → w ≡ 0) → digit_of m v ≡ digit_of n w → (m ≡ n) × (v ≡ w)
digit_tells m v n w a b c d apart apart' same = by (eqb m 1) (eqb v 1) (eqb n 1) (eqb w 1) refl refl refl refl same
  where
    by : (e f g h : Bool) → eqb m 1 ≡ e → eqb v 1 ≡ f → eqb n 1 ≡ g → eqb w 1 ≡ h → shown e f ≡ shown g h → (m ≡ n) × (v ≡ w)
    by true f true h i j k l same =
        let x = eqb-true m 1 i in let y = eqb-true n 1 k in (x ∙ sym y, apart x ∙ sym (apart' y))
    by true f false true i j k l same = absurd (omega arith)
    by true f false false i j k l same = absurd (omega arith)
    by false true true h i j k l same = absurd (omega arith)
    by false false true h i j k l same = absurd (omega arith)
    by false true false true i j k l same =
        let x = eqb-false m 1 i in let y = eqb-false n 1 k in (omega (arith, x, y), eqb-true v 1 j ∙ sym (eqb-true w 1 l))
    by false true false false i j k l same = absurd (omega arith)
    by false false false true i j k l same = absurd (omega arith)
    by false false false false i j k l same =
        let x = eqb-false m 1 i in let y = eqb-false n 1 k in let z = eqb-false v 1 j in
        let u = eqb-false w 1 l in (omega (arith, x, y), omega (arith, z, u))

abbrev pub Apart : ℕ → ℕ → Type 0
Apart value mask = (i : ℕ) → bit_at mask i ≡ 1 → bit_at value i ≡ 0

digits_tell : (size v m w n : ℕ) → Apart v m → Apart w n → binary_digits size v m ≡ binary_digits size w n
    → (i : ℕ) → i < size → (bit_at m i ≡ bit_at n i) × (bit_at v i ≡ bit_at w i)
digits_tell zero v m w n apart apart' same i within = absurd (omega arith)
digits_tell (suc size) v m w n apart apart' same i within =
    let first : binary_digit_of size v m ≡ binary_digit_of size w n = cc in
    let rest : binary_digits size v m ≡ binary_digits size w n = cc in
    elim (cases_lt i size) [
      | inl below ↦ digits_tell size v m w n apart apart' rest i below
      | inr top ↦
          let e : i ≡ size = omega arith in
          rw e (digit_tells (bit_at m size) (bit_at v size) (bit_at n size) (bit_at w size) (bit_at-lt m size) (bit_at-lt v size) (bit_at-lt n size)
          (bit_at-lt w size) (apart size) (apart' size) first)
    ]

digit_free : (a b : ℕ) → digit_of a b ≢ 32
digit_free a b = by (eqb a 1) (eqb b 1)
  where
    by : (e f : Bool) → shown e f ≢ 32
    by true f is = omega arith
    by false true is = omega arith
    by false false is = omega arith

digits_free : (size v m : ℕ) → IsFreeOf 32 (binary_digits size v m)
digits_free zero v m = tt
digits_free (suc size) v m = (digit_free (bit_at m size) (bit_at v size), digits_free size v m)

-- ---- what is behind the size

abbrev pub marked : Bool → List ℕ → List ℕ
marked signed digits = cond signed (codes "'sh") (codes "'h") ++ digits

marks_end : (signed : Bool) (digits : List ℕ) → EndsHere 39 (marked signed digits)
marks_end true digits = refl
marks_end false digits = refl

marks_free : (signed : Bool) (digits : List ℕ) → IsFreeOf 32 digits → IsFreeOf 32 (marked signed digits)
marks_free true digits free = (λ is. omega arith, (λ is. omega arith, (λ is. omega arith, free)))
marks_free false digits free = (λ is. omega arith, (λ is. omega arith, free))

marks_same : (a b : Bool) (x y : List ℕ) → marked a x ≡ marked b y → (a ≡ b) × (x ≡ y)
marks_same true true x y same = (refl, cc)
marks_same true false x y same = let no : ◌≡◌ {A = ℕ} 115 104 = cc in absurd (omega arith)
marks_same false true x y same = let no : ◌≡◌ {A = ℕ} 104 115 = cc in absurd (omega arith)
marks_same false false x y same = (refl, cc)

no_mark : (a : Bool) (x y : List ℕ) → marked a x ≡ codes "'b" ++ y → ⊥
no_mark true x y same = let no : ◌≡◌ {A = ℕ} 115 98 = cc in omega arith
no_mark false x y same = let no : ◌≡◌ {A = ℕ} 104 98 = cc in omega arith

-- ---- literals

pub number_cut : (l : Literal) → number_text l ≡ size_text l.size ++ marked l.signed (hex_text l.value)
number_cut l = append_assoc (size_text l.size) (cond l.signed (codes "'sh") (codes "'h")) (hex_text l.value)

pub pattern_cut : (l : Literal) → pattern_text l ≡ size_text l.size ++ (codes "'b" ++ binary_digits l.size l.value l.mask)
pattern_cut l = append_assoc (size_text l.size) (codes "'b") (binary_digits l.size l.value l.mask)

pub number_tells : (l m : Literal) → l.size < 2 ^ 64 → m.size < 2 ^ 64 → l.value < 2 ^ 128 → m.value < 2 ^ 128 → number_text l ≡ number_text m
    → (l.size ≡ m.size) × (l.signed ≡ m.signed) × (l.value ≡ m.value)
number_tells l m sized sized' small small' same =
    let a = cut_first 39 (size_text l.size) (size_text m.size) (marked l.signed (hex_text l.value)) (marked m.signed (hex_text m.value))
    (size_free 39 l.size (omega arith) sized) (size_free 39 m.size (omega arith) sized') (marks_end l.signed (hex_text l.value))
    (marks_end m.signed (hex_text m.value)) (sym (number_cut l) ∙ same ∙ number_cut m) in
    let b = marks_same l.signed m.signed (hex_text l.value) (hex_text m.value) a.1 in
    (size_injective l.size m.size sized sized' a.0, b.0, hex_injective l.value m.value small small' b.1)

pub no_pattern : (l m : Literal) → l.size < 2 ^ 64 → m.size < 2 ^ 64 → number_text l ≡ pattern_text m → ⊥
no_pattern l m sized sized' same =
    let a = cut_first 39 (size_text l.size) (size_text m.size) (marked l.signed (hex_text l.value))
    (codes "'b" ++ binary_digits m.size m.value m.mask)
    (size_free 39 l.size (omega arith) sized) (size_free 39 m.size (omega arith) sized') (marks_end l.signed (hex_text l.value)) refl
    (sym (number_cut l) ∙ same ∙ pattern_cut m) in
    no_mark l.signed (hex_text l.value) (binary_digits m.size m.value m.mask) a.1

pub pattern_tells : (l m : Literal) → l.size < 2 ^ 64 → m.size < 2 ^ 64 → l.value < 2 ^ l.size → m.value < 2 ^ m.size → l.mask < 2 ^ l.size
    → m.mask < 2 ^ m.size → Apart l.value l.mask → Apart m.value m.mask → pattern_text l ≡ pattern_text m
    → (l.size ≡ m.size) × (l.value ≡ m.value) × (l.mask ≡ m.mask)
pattern_tells l m sized sized' small small' narrow narrow' apart apart' same =
    let a = cut_first 39 (size_text l.size) (size_text m.size) (codes "'b" ++ binary_digits l.size l.value l.mask)
    (codes "'b" ++ binary_digits m.size m.value m.mask) (size_free 39 l.size (omega arith) sized) (size_free 39 m.size (omega arith) sized')
    refl refl (sym (pattern_cut l) ∙ same ∙ pattern_cut m) in
    let size = size_injective l.size m.size sized sized' a.0 in
    let rest : binary_digits l.size l.value l.mask ≡ binary_digits m.size m.value m.mask = let both = a.1 in cc in
    let tells = digits_tell l.size l.value l.mask m.value m.mask apart apart' (rest ∙ ap (λ n. binary_digits n m.value m.mask) (sym size)) in
    let low : m.value < 2 ^ l.size = omega (arith, small', ap (λ (n : ℕ). 2 ^ n) size) in
    let few : m.mask < 2 ^ l.size = omega (arith, narrow', ap (λ (n : ℕ). 2 ^ n) size) in (
      size,
      same_from_bits_below l.size l.value m.value small low (λ i within. (tells i within).1),
      same_from_bits_below l.size l.mask m.mask narrow few (λ i within. (tells i within).0),
    )

pub number_free : (l : Literal) → l.size < 2 ^ 64 → IsFreeOf 32 (number_text l)
number_free l sized =
    subst (IsFreeOf 32) (sym (number_cut l))
    (free_append 32 (size_text l.size) (marked l.signed (hex_text l.value)) (size_free 32 l.size (omega arith) sized)
    (marks_free l.signed (hex_text l.value) (hex_free l.value)))

pub pattern_free : (l : Literal) → l.size < 2 ^ 64 → IsFreeOf 32 (pattern_text l)
pattern_free l sized =
    subst (IsFreeOf 32) (sym (pattern_cut l))
    (free_append 32 (size_text l.size) (codes "'b" ++ binary_digits l.size l.value l.mask) (size_free 32 l.size (omega arith) sized)
    (λ is. omega arith, (λ is. omega arith, digits_free l.size l.value l.mask)))
