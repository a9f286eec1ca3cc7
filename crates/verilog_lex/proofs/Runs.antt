-- Runs of bytes of a class, and classes that have no byte in common.
use Rattle.std.proofs.Common.{◌≡◌, inl, inr, ◌<◌, ◌≤◌, ℕ, suc, ◌+◌, Bool, true, false, true≢false, cond, eqb, leb, List, [], ◌∷◌, ◌++◌, length, take, drop, refl, sym, ap, subst, ◌∙◌, one-add, arith}
use Rattle.std.specs.List.{prefix_len, AllPass}
use Rattle.std.proofs.lemmas.List.Elements.{All-nil, All-cons, All-head, All-tail}
use Rattle.std.proofs.lemmas.Bool.{and_parts, or_cases, or_from, and_left, leb-true, lt-leb, eqb-true, ne_eqb, false_from_ne_true}
use Rattle.ls_text.specs.Bytes.{is_letter, is_digit, is_space}
use Rattle.verilog_lex.specs.Cuts.{is_part_digit, is_sign_letter, radix_of}
use Rattle.verilog_lex.specs.Stretches.{EndsAt, IsRun}

-- a byte of the class is one more, and another byte ends the run
len_more : (class : ℕ → Bool) (b : ℕ) (text : List ℕ) → class b ≡ true → prefix_len class (b ∷ text) ≡ suc (prefix_len class text)
len_more class b text is = ap (λ t. cond t (1 + prefix_len class text) 0) is ∙ one-add (prefix_len class text)

len_none : (class : ℕ → Bool) (b : ℕ) (text : List ℕ) → class b ≡ false → prefix_len class (b ∷ text) ≡ 0
len_none class b text is = ap (λ t. cond t (1 + prefix_len class text) 0) is

-- the length of a run before the rest
pub run_len : (class : ℕ → Bool) (bytes rest : List ℕ) → AllPass class bytes → EndsAt class rest → prefix_len class (bytes ++ rest) ≡ length bytes
run_len class [] [] all ends = refl
run_len class [] (b ∷ rest) all ends = len_none class b rest ends
run_len class (b ∷ bytes) rest all ends =
    len_more class b (bytes ++ rest) (All-head (λ x. class x ≡ true) b bytes all)
    ∙ ap suc (run_len class bytes rest (All-tail (λ x. class x ≡ true) b bytes all) ends)

pub run_all : (class : ℕ → Bool) (text : List ℕ) → AllPass class (take (prefix_len class text) text)
run_all class [] = All-nil (λ x. class x ≡ true)
run_all class (b ∷ text) = by (class b) refl (run_all class text)
  where
    R : ℕ → Type 0
    R n = AllPass class (take n (b ∷ text))

    by : (t : Bool) → class b ≡ t → AllPass class (take (prefix_len class text) text) → R (prefix_len class (b ∷ text))
    by true is all = subst R (sym (len_more class b text is)) (All-cons (λ x. class x ≡ true) b (take (prefix_len class text) text) is all)
    by false is all = subst R (sym (len_none class b text is)) (All-nil (λ x. class x ≡ true))

pub run_ends : (class : ℕ → Bool) (text : List ℕ) → EndsAt class (drop (prefix_len class text) text)
run_ends class [] = tt
run_ends class (b ∷ text) = by (class b) refl (run_ends class text)
  where
    R : ℕ → Type 0
    R n = EndsAt class (drop n (b ∷ text))

    by : (t : Bool) → class b ≡ t → EndsAt class (drop (prefix_len class text) text) → R (prefix_len class (b ∷ text))
    by true is ends = subst R (sym (len_more class b text is)) ends
    by false is ends = subst R (sym (len_none class b text is)) is

-- what the class of the first byte takes off the front is a run
pub run_here : (first class : ℕ → Bool) (b : ℕ) (text : List ℕ) → first b ≡ true → class b ≡ true
    → IsRun first class (take (prefix_len class (b ∷ text)) (b ∷ text)) (drop (prefix_len class (b ∷ text)) (b ∷ text))
run_here first class b text is in_class =
    subst R (sym (len_more class b text in_class)) (is, All-cons (λ x. class x ≡ true) b (take (prefix_len class text) text) in_class (run_all class text), run_ends class text)
  where
    R : ℕ → Type 0
    R n = IsRun first class (take n (b ∷ text)) (drop n (b ∷ text))

-- white space begins nothing else
at_space : (P : ℕ → Bool) → P 10 ≡ false → P 32 ≡ false → P 9 ≡ false → P 12 ≡ false → P 13 ≡ false → (b : ℕ) → is_space b ≡ true → P b ≡ false
at_space P newline blank tab feed back b is =
    elim (or_cases (eqb b 10) _ is) [ inl e ↦ at 10 newline e | inr e ↦ elim (or_cases (eqb b 32) _ e) [ inl e ↦ at 32 blank e | inr e ↦ elim (or_cases (eqb b 9) _ e) [ inl e ↦ at 9 tab e | inr e ↦ elim (or_cases (eqb b 12) (eqb b 13) e) [ inl e ↦ at 12 feed e | inr e ↦ at 13 back e ] ] ] ]
  where
    at : (n : ℕ) → P n ≡ false → eqb b n ≡ true → P b ≡ false
    at n none e = ap P (eqb-true b n e) ∙ none

no_space : (P : ℕ → Bool) → P 10 ≡ false → P 32 ≡ false → P 9 ≡ false → P 12 ≡ false → P 13 ≡ false → (b : ℕ) → P b ≡ true → is_space b ≡ false
no_space P newline blank tab feed back b is =
    false_from_ne_true (is_space b) (λ space. true≢false (sym is ∙ at_space P newline blank tab feed back b space))

pub letter_no_space : (b : ℕ) → is_letter b ≡ true → is_space b ≡ false
letter_no_space = no_space is_letter refl refl refl refl refl

pub digit_no_space : (b : ℕ) → is_digit b ≡ true → is_space b ≡ false
digit_no_space = no_space is_digit refl refl refl refl refl

pub part_digit_no_space : (b : ℕ) → is_part_digit b ≡ true → is_space b ≡ false
part_digit_no_space = no_space is_part_digit refl refl refl refl refl

pub digit_no_letter : (b : ℕ) → is_digit b ≡ true → is_letter b ≡ false
digit_no_letter b is =
    let ends : (leb 48 b ≡ true) × (leb b 57 ≡ true) = and_parts _ _ is in
    let most : b ≤ 57 = leb-true b 57 ends.1 in
    or_from _ _ (and_left _ _ (lt-leb 97 b (omega (arith, most))))
    (or_from _ _ (and_left _ _ (lt-leb 65 b (omega (arith, most)))) (ne_eqb b 95 (λ e. omega (arith, most, e))))

-- a base letter is no s
pub base_no_sign : (b : ℕ) → 0 < radix_of b → is_sign_letter b ≡ false
base_no_sign b based = false_from_ne_true (is_sign_letter b) (λ is. elim (or_cases (eqb b 115) (eqb b 83) is) [ inl e ↦ at 115 refl e | inr e ↦ at 83 refl e ])
  where
    at : (n : ℕ) → radix_of n ≡ 0 → eqb b n ≡ true → ⊥
    at n none e = let same : radix_of b ≡ 0 = ap radix_of (eqb-true b n e) ∙ none in omega (arith, based, same)
