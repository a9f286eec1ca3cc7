-- A based part: what the definition of cuts gives is what stands there.
use Rattle.std.proofs.Common.{◌≡◌, ◌⊎◌, inl, inr, ⊎_elim, ◌<◌, ℕ, suc, ◌+◌, ◌-◌, Bool, true, false, true≢false, ◌&&◌, cond, ltb, List, [], ◌∷◌, ◌++◌, codes, length, take, drop, get_or, Option, Some, None, refl, sym, ap, subst, ◌∙◌, arith, append_assoc, length-append, take-append-drop, take_at, drop_at}
use Rattle.std.specs.List.{prefix_len, AllPass}
use Rattle.std.proofs.lemmas.Bool.{and_parts, and_from, or_left, ltb-true, lt-ltb}
use Rattle.ls_text.specs.Bytes.{is_space}
use Rattle.verilog_lex.specs.Forms.{Form, Part}
use Rattle.verilog_lex.specs.Cuts.{is_part_digit, is_part_byte, is_sign_letter, radix_of, part_at}
use Rattle.verilog_lex.specs.Stretches.{EndsAt, IsRun, IsSignedness, IsPart}
use Rattle.verilog_lex.proofs.Runs.{run_len, run_all, run_here, part_digit_no_space, base_no_sign}

abbrev found : Bool → ℕ → List ℕ → ℕ → Option (Form × ℕ)
found signed radix digits n = Some (Part (signed, radix, digits), n)

-- the part of a base letter whose white space has so many bytes before the digits; so many bytes end with the letter
abbrev part_with : Bool → ℕ → ℕ → ℕ → ℕ → List ℕ → Option (Form × ℕ)
part_with signed from radix gap n digits =
    cond (ltb 0 radix && is_part_digit (get_or digits 0 0)) (found signed radix (take n digits) (from + gap + n)) None

abbrev part_behind : Bool → ℕ → ℕ → List ℕ → Option (Form × ℕ)
part_behind signed from base text =
    let gap = prefix_len is_space text in
    part_with signed from (radix_of base) gap (prefix_len is_part_byte (drop gap text)) (drop gap text)

abbrev part_if : Bool → List ℕ → Option (Form × ℕ)
part_if signed text =
    let from = cond signed 3 2 in
    part_behind signed from (get_or text (from - 1) 0) (drop from text)

part_by_sign : (text : List ℕ) → part_at text ≡ part_if (is_sign_letter (get_or text 1 0)) text
unfolding part_at
part_by_sign text = refl

signed_part : (s base : ℕ) (text : List ℕ) → is_sign_letter s ≡ true → part_at (39 ∷ s ∷ base ∷ text) ≡ part_behind true 3 base text
signed_part s base text is = part_by_sign (39 ∷ s ∷ base ∷ text) ∙ ap (λ t. part_if t (39 ∷ s ∷ base ∷ text)) is

unsigned_part : (base : ℕ) (text : List ℕ) → is_sign_letter base ≡ false → part_at (39 ∷ base ∷ text) ≡ part_behind false 2 base text
unsigned_part base text is = part_by_sign (39 ∷ base ∷ text) ∙ ap (λ t. part_if t (39 ∷ base ∷ text)) is

digit_first : (digits rest : List ℕ) → IsRun is_part_digit is_part_byte digits rest
    → EndsAt is_space (digits ++ rest) × (is_part_digit (get_or (digits ++ rest) 0 0) ≡ true) × AllPass is_part_byte digits × EndsAt is_part_byte rest
digit_first [] rest run = absurd run
digit_first (d ∷ digits) rest run = (part_digit_no_space d run.0, run.0, run.1, run.2)

part_there : (signed : Bool) (from base : ℕ) (gap digits rest : List ℕ) → 0 < radix_of base → AllPass is_space gap → IsRun is_part_digit is_part_byte digits rest
    → part_behind signed from base (gap ++ (digits ++ rest)) ≡ found signed (radix_of base) digits (from + length gap + length digits)
part_there signed from base gap digits rest based spaces run =
    let facts = digit_first digits rest run in
    let radix = radix_of base in
    let text : List ℕ = gap ++ (digits ++ rest) in
    ap (λ g. part_with signed from radix g (prefix_len is_part_byte (drop g text)) (drop g text)) (run_len is_space gap (digits ++ rest) spaces facts.0)
    ∙ ap (λ t. part_with signed from radix (length gap) (prefix_len is_part_byte t) t) (drop_at gap (digits ++ rest) (length gap) refl)
    ∙ ap (λ n. part_with signed from radix (length gap) n (digits ++ rest)) (run_len is_part_byte digits rest facts.2 facts.3)
    ∙ ap (λ c. cond c (found signed radix (take (length digits) (digits ++ rest)) (from + length gap + length digits)) None) (and_from _ _ (lt-ltb 0 radix based) facts.1)
    ∙ ap (λ ds. found signed radix ds (from + length gap + length digits)) (take_at digits rest (length digits) refl)

pub part_cut : (part : Bool × ℕ × List ℕ) (bytes rest : List ℕ) → IsPart part bytes rest → part_at (bytes ++ rest) ≡ Some (Part part, length bytes)
part_cut part bytes rest p = by part.0 part.1 part.2 p.sign p.base p.gap p.spelled p.signed p.radix p.based p.spaces p.digits
  where
    count : (n m g d k : ℕ) → n ≡ k + m → m ≡ g + d → k + g + d ≡ n
    count n m g d k whole both = omega (arith, whole, both)

    at : (sign : Bool) (radix : ℕ) (digits : List ℕ) (base : ℕ) (n m : ℕ) → radix_of base ≡ radix → n ≡ m → found sign (radix_of base) digits n ≡ found sign radix digits m
    at sign radix digits base n m is same = ap (λ r. found sign r digits n) is ∙ ap (found sign radix digits) same

    by : (signed : Bool) (radix : ℕ) (digits sign : List ℕ) (base : ℕ) (gap : List ℕ) → bytes ≡ codes "'" ++ (sign ++ base ∷ (gap ++ digits))
        → IsSignedness signed sign → radix_of base ≡ radix → 0 < radix → AllPass is_space gap → IsRun is_part_digit is_part_byte digits rest
        → part_at (bytes ++ rest) ≡ found signed radix digits (length bytes)
    by true radix digits sign base gap spelled is based positive spaces run =
        let whole : bytes ≡ 39 ∷ is.0 ∷ base ∷ (gap ++ digits) = spelled ∙ ap (λ s. codes "'" ++ (s ++ base ∷ (gap ++ digits))) is.1 in
        ap (λ t. part_at (t ++ rest)) whole
        ∙ signed_part is.0 base ((gap ++ digits) ++ rest) is.2
        ∙ ap (part_behind true 3 base) (append_assoc gap digits rest)
        ∙ part_there true 3 base gap digits rest (subst (λ r. 0 < r) (sym based) positive) spaces run
        ∙ at true radix digits base _ _ based (count (length bytes) (length (gap ++ digits)) (length gap) (length digits) 3 (ap length whole ∙ (let same : suc (suc (suc (length (gap ++ digits)))) ≡ 3 + length (gap ++ digits) = omega arith in same)) (length-append gap digits))
    by false radix digits sign base gap spelled is based positive spaces run =
        let whole : bytes ≡ 39 ∷ base ∷ (gap ++ digits) = spelled ∙ ap (λ s. codes "'" ++ (s ++ base ∷ (gap ++ digits))) is in
        let some : 0 < radix_of base = subst (λ r. 0 < r) (sym based) positive in
        ap (λ t. part_at (t ++ rest)) whole
        ∙ unsigned_part base ((gap ++ digits) ++ rest) (base_no_sign base some)
        ∙ ap (part_behind false 2 base) (append_assoc gap digits rest)
        ∙ part_there false 2 base gap digits rest some spaces run
        ∙ at false radix digits base _ _ based (count (length bytes) (length (gap ++ digits)) (length gap) (length digits) 2 (ap length whole ∙ (let same : suc (suc (length (gap ++ digits))) ≡ 2 + length (gap ++ digits) = omega arith in same)) (length-append gap digits))

abbrev pub HasPart : List ℕ → Type 0
HasPart text = (part : Bool × ℕ × List ℕ) × (bytes : List ℕ) × (rest : List ℕ) × (text ≡ bytes ++ rest) × IsPart part bytes rest

behind_or : (signed : Bool) (from base : ℕ) (sign text : List ℕ) → IsSignedness signed sign
    → HasPart (39 ∷ (sign ++ base ∷ text)) ⊎ (part_behind signed from base text ≡ None)
behind_or signed from base sign text is = by _ refl
  where
    g : ℕ
    g = prefix_len is_space text

    n : ℕ
    n = prefix_len is_part_byte (drop g text)

    split : 39 ∷ (sign ++ base ∷ text) ≡ (codes "'" ++ (sign ++ base ∷ (take g text ++ take n (drop g text)))) ++ drop n (drop g text)
    split =
        ap (λ t. 39 ∷ (sign ++ base ∷ t)) (sym (append_assoc (take g text) (take n (drop g text)) (drop n (drop g text)) ∙ ap (λ t. take g text ++ t) (take-append-drop n (drop g text)) ∙ take-append-drop g text))
        ∙ ap (λ t. 39 ∷ t) (sym (append_assoc sign (base ∷ (take g text ++ take n (drop g text))) (drop n (drop g text))))

    run_at : (digits : List ℕ) → is_part_digit (get_or digits 0 0) ≡ true → IsRun is_part_digit is_part_byte (take (prefix_len is_part_byte digits) digits) (drop (prefix_len is_part_byte digits) digits)
    run_at [] digit = absurd (true≢false (sym digit))
    run_at (d ∷ digits) digit = run_here is_part_digit is_part_byte d digits digit (or_left _ _ digit)

    by : (c : Bool) → (ltb 0 (radix_of base) && is_part_digit (get_or (drop g text) 0 0)) ≡ c → HasPart (39 ∷ (sign ++ base ∷ text)) ⊎ (part_behind signed from base text ≡ None)
    by false c = inr (ap (λ t. cond t (found signed (radix_of base) (take n (drop g text)) (from + g + n)) None) c)
    by true c =
        let both : (ltb 0 (radix_of base) ≡ true) × (is_part_digit (get_or (drop g text) 0 0) ≡ true) = and_parts _ _ c in
        inl (
          (signed, radix_of base, take n (drop g text)),
          codes "'" ++ (sign ++ base ∷ (take g text ++ take n (drop g text))),
          drop n (drop g text),
          split,
          record { sign = sign; base = base; gap = take g text; spelled = refl; signed = is; radix = refl; based = ltb-true 0 (radix_of base) both.0; spaces = run_all is_space text; digits = run_at (drop g text) both.1 },
        )

-- a quote begins a based part, or the definition of cuts has none there
pub part_or : (text : List ℕ) → HasPart (39 ∷ text) ⊎ (part_at (39 ∷ text) ≡ None)
part_or [] = inr (part_by_sign (39 ∷ []))
part_or (c ∷ text) = by (is_sign_letter c) refl
  where
    by : (signed : Bool) → is_sign_letter c ≡ signed → HasPart (39 ∷ c ∷ text) ⊎ (part_at (39 ∷ c ∷ text) ≡ None)
    by false is = ⊎_elim inl (λ none. inr (unsigned_part c text is ∙ none)) (behind_or false 2 c [] text refl)
    by true is = next text
      where
        next : (text : List ℕ) → HasPart (39 ∷ c ∷ text) ⊎ (part_at (39 ∷ c ∷ text) ≡ None)
        next [] = inr (part_by_sign (39 ∷ c ∷ []) ∙ ap (λ t. part_if t (39 ∷ c ∷ [])) is)
        next (base ∷ text) = ⊎_elim inl (λ none. inr (signed_part c base text is ∙ none)) (behind_or true 3 base (c ∷ []) text (c, refl, is))
