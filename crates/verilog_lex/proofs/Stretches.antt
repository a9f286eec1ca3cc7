-- The first cut of a text is the stretch that stands there, so a text has one list of stretches, and its lexemes are theirs.
use Rattle.std.proofs.Common.{◌≡◌, ◌⊎◌, inl, inr, ⊎_elim, ◌<◌, ◌≤◌, ℕ, zero, suc, ◌+◌, Bool, true, false, true≢false, cond, eqb, List, [], ◌∷◌, ◌++◌, codes, length, take, drop, refl, sym, ap, subst, ◌∙◌, arith, length-append, take-append-drop, take_at, drop_at}
use Rattle.std.specs.List.{prefix_len}
use Rattle.std.proofs.lemmas.Bool.{eqb-true, or_left, false_from_ne_true, true≢false}
use Rattle.ls_text.specs.declared.place.Place.{Place}
use Rattle.ls_text.specs.Bytes.{is_letter, is_digit, is_word_byte, is_space}
use Rattle.verilog_lex.specs.declared.kind.Kind.{Kind}
use Rattle.verilog_lex.specs.Forms.{Form, Gap, Letters, Digits, Part, Sign, Unfit}
use Rattle.verilog_lex.specs.Cuts.{is_decimal_byte, part_at, opens_attribute, attribute_at, mark_at, found_or, cut_at}
use Rattle.verilog_lex.specs.Lexemes.{lexeme_here, moved_over, text_lexemes}
use Rattle.verilog_lex.specs.Stretches.{IsRun, OpensAttribute, IsAttribute, IsSign, Stands, IsUnfit, Stretch, IsStretch, Stretches, placed}
use Rattle.verilog_lex.proofs.Lexemes.{first_cut}
use Rattle.verilog_lex.proofs.Runs.{run_len, run_here, letter_no_space, digit_no_space, digit_no_letter}
use Rattle.verilog_lex.proofs.Attributes.{opens_from, opens_to, attribute_cut, attribute_or}
use Rattle.verilog_lex.proofs.Parts.{HasPart, part_cut, part_or}
use Rattle.verilog_lex.proofs.Signs.{IsFirst, sign_first, sign_cut, HasSign, sign_or_none}

-- the first cut by what its first byte is, and whether an attribute opens there
abbrev cut_by : Bool → Bool → Bool → Bool → Bool → List ℕ → Form × ℕ
cut_by space letter digit quote opens text =
    cond space (Gap, prefix_len is_space text)
    (cond letter (Letters (take (prefix_len is_word_byte text) text), prefix_len is_word_byte text)
    (cond digit (Digits (take (prefix_len is_decimal_byte text) text), prefix_len is_decimal_byte text)
    (cond quote (found_or (part_at text) (Unfit, 1))
    (cond opens (attribute_at text) (mark_at text)))))

cut_is : (b : ℕ) (text : List ℕ) (space letter digit quote opens : Bool) → is_space b ≡ space → is_letter b ≡ letter → is_digit b ≡ digit → eqb b 39 ≡ quote
    → opens_attribute (b ∷ text) ≡ opens → cut_at (b ∷ text) ≡ cut_by space letter digit quote opens (b ∷ text)
unfolding cut_at
cut_is b text space letter digit quote opens s l d q o =
    ap (λ t. cut_by t (is_letter b) (is_digit b) (eqb b 39) (opens_attribute (b ∷ text)) (b ∷ text)) s
    ∙ ap (λ t. cut_by space t (is_digit b) (eqb b 39) (opens_attribute (b ∷ text)) (b ∷ text)) l
    ∙ ap (λ t. cut_by space letter t (eqb b 39) (opens_attribute (b ∷ text)) (b ∷ text)) d
    ∙ ap (λ t. cut_by space letter digit t (opens_attribute (b ∷ text)) (b ∷ text)) q
    ∙ ap (λ t. cut_by space letter digit quote t (b ∷ text)) o

-- a form over the bytes of a class
run_form : (form : List ℕ → Form) (class : ℕ → Bool) (bytes rest text : List ℕ) → prefix_len class (bytes ++ rest) ≡ length bytes → text ≡ bytes
    → ◌≡◌ {A = Form × ℕ} (form (take (prefix_len class (bytes ++ rest)) (bytes ++ rest)), prefix_len class (bytes ++ rest)) (form text, length bytes)
run_form form class bytes rest text len same =
    let cut : ℕ → Form × ℕ = λ n. (form (take n (bytes ++ rest)), n) in
    let named : List ℕ → Form × ℕ = λ t. (form t, length bytes) in
    ap cut len ∙ ap named (take_at bytes rest (length bytes) refl ∙ sym same)

space_cut : (bytes rest : List ℕ) → IsRun is_space is_space bytes rest → cut_at (bytes ++ rest) ≡ (Gap, length bytes)
space_cut [] rest run = absurd run
space_cut (b ∷ bytes) rest run =
    let counted : ℕ → Form × ℕ = λ n. (Gap, n) in
    cut_is b (bytes ++ rest) true _ _ _ _ run.0 refl refl refl refl ∙ ap counted (run_len is_space (b ∷ bytes) rest run.1 run.2)

word_cut : (bytes rest text : List ℕ) → text ≡ bytes → IsRun is_letter is_word_byte bytes rest → cut_at (bytes ++ rest) ≡ (Letters text, length bytes)
word_cut [] rest text same run = absurd run
word_cut (b ∷ bytes) rest text same run =
    cut_is b (bytes ++ rest) false true _ _ _ (letter_no_space b run.0) run.0 refl refl refl
    ∙ run_form Letters is_word_byte (b ∷ bytes) rest text (run_len is_word_byte (b ∷ bytes) rest run.1 run.2) same

decimal_cut : (bytes rest text : List ℕ) → text ≡ bytes → IsRun is_digit is_decimal_byte bytes rest → cut_at (bytes ++ rest) ≡ (Digits text, length bytes)
decimal_cut [] rest text same run = absurd run
decimal_cut (b ∷ bytes) rest text same run =
    cut_is b (bytes ++ rest) false false true _ _ (digit_no_space b run.0) (digit_no_letter b run.0) run.0 refl refl
    ∙ run_form Digits is_decimal_byte (b ∷ bytes) rest text (run_len is_decimal_byte (b ∷ bytes) rest run.1 run.2) same

-- where a text begins with this byte
cut_of_quote : (text behind : List ℕ) → text ≡ 39 ∷ behind → cut_at text ≡ found_or (part_at text) (Unfit, 1)
cut_of_quote text behind e =
    ap cut_at e ∙ cut_is 39 behind false false false true _ refl refl refl refl refl ∙ ap (λ t. found_or (part_at t) (Unfit, 1)) (sym e)

cut_of_attribute : (text : List ℕ) → OpensAttribute text → cut_at text ≡ attribute_at text
cut_of_attribute text o =
    let e : text ≡ 40 ∷ 42 ∷ (o.gap ++ o.next ∷ o.after) = o.spelled in
    ap cut_at e ∙ cut_is 40 (42 ∷ (o.gap ++ o.next ∷ o.after)) false false false false true refl refl refl refl (ap opens_attribute (sym e) ∙ opens_from text o)
    ∙ ap attribute_at (sym e)

cut_of_sign : (b : ℕ) (text : List ℕ) → IsFirst (b ∷ text) → (OpensAttribute (b ∷ text) → ⊥) → cut_at (b ∷ text) ≡ mark_at (b ∷ text)
cut_of_sign b text first shut =
    cut_is b text false false false false false first.0 first.1 first.2 first.3 (false_from_ne_true _ (λ is. shut (opens_to (b ∷ text) is)))

signed_cut : (kind : Kind) (bytes rest text : List ℕ) → text ≡ bytes → IsSign kind bytes rest → cut_at (bytes ++ rest) ≡ (Sign kind text, length bytes)
signed_cut kind bytes rest text same s =
    let named : List ℕ → Form × ℕ = λ t. (Sign kind t, length bytes) in
    by bytes rest (sign_first bytes kind s.listed) s.no_attribute ∙ sign_cut kind bytes rest s ∙ ap named (sym same)
  where
    by : (bytes rest : List ℕ) → IsFirst bytes → (OpensAttribute (bytes ++ rest) → ⊥) → cut_at (bytes ++ rest) ≡ mark_at (bytes ++ rest)
    by [] rest first shut = absurd first
    by (b ∷ bytes) rest first shut = cut_of_sign b (bytes ++ rest) first shut

-- the first cut is what stands there
stands_cut : (form : Form) (bytes rest : List ℕ) → Stands form bytes rest → cut_at (bytes ++ rest) ≡ (form, length bytes)
stands_cut Gap bytes rest (inl run) = space_cut bytes rest run
stands_cut Gap bytes rest (inr a) = cut_of_attribute (bytes ++ rest) a.opens ∙ attribute_cut bytes rest a
stands_cut (Letters text) bytes rest is = word_cut bytes rest text is.0 is.1
stands_cut (Digits text) bytes rest is = decimal_cut bytes rest text is.0 is.1
stands_cut (Part part) bytes rest p =
    cut_of_quote (bytes ++ rest) ((p.sign ++ p.base ∷ (p.gap ++ part.2)) ++ rest) (ap (λ t. t ++ rest) p.spelled)
    ∙ ap (λ o. found_or o (Unfit, 1)) (part_cut part bytes rest p)
stands_cut (Sign kind text) bytes rest is = signed_cut kind bytes rest text is.0 is.1
stands_cut Unfit bytes rest is = absurd is

abbrev HasForm : List ℕ → Type 0
HasForm text = (form : Form) × (bytes : List ℕ) × (rest : List ℕ) × (text ≡ bytes ++ rest) × Stands form bytes rest

-- something stands at the front of a text, or its first byte begins no token
found : (b : ℕ) (text : List ℕ) → HasForm (b ∷ text) ⊎ (cut_at (b ∷ text) ≡ (Unfit, 1))
found b text = by (is_space b) refl (is_letter b) refl (is_digit b) refl (eqb b 39) refl (opens_attribute (b ∷ text)) refl
  where
    run_of : (form : List ℕ → Form) (first class : ℕ → Bool) → first b ≡ true → class b ≡ true
        → ((bytes rest : List ℕ) → IsRun first class bytes rest → Stands (form bytes) bytes rest) → HasForm (b ∷ text)
    run_of form first class is in_class stands =
        let n : ℕ = prefix_len class (b ∷ text) in (
          form (take n (b ∷ text)),
          take n (b ∷ text),
          drop n (b ∷ text),
          sym (take-append-drop n (b ∷ text)),
          stands (take n (b ∷ text)) (drop n (b ∷ text)) (run_here first class b text is in_class),
        )

    quoted : (text : List ℕ) → HasForm (39 ∷ text) ⊎ (cut_at (39 ∷ text) ≡ (Unfit, 1))
    quoted text =
        ⊎_elim (λ (h : HasPart (39 ∷ text)). inl (Part h.0, h.1, h.2, h.3, h.4))
        (λ none. inr (cut_of_quote (39 ∷ text) text refl ∙ ap (λ o. found_or o (Unfit, 1)) none)) (part_or text)

    by : (space : Bool) → is_space b ≡ space → (letter : Bool) → is_letter b ≡ letter → (digit : Bool) → is_digit b ≡ digit → (quote : Bool) → eqb b 39 ≡ quote
        → (opens : Bool) → opens_attribute (b ∷ text) ≡ opens → HasForm (b ∷ text) ⊎ (cut_at (b ∷ text) ≡ (Unfit, 1))
    by true s letter l digit d quote q opens o = inl (run_of (λ t. Gap) is_space is_space s s (λ bytes rest run. inl run))
    by false s true l digit d quote q opens o = inl (run_of Letters is_letter is_word_byte l (or_left _ _ l) (λ bytes rest run. (refl, run)))
    by false s false l true d quote q opens o = inl (run_of Digits is_digit is_decimal_byte d (or_left _ _ d) (λ bytes rest run. (refl, run)))
    by false s false l false d true q opens o =
        subst (λ c. HasForm (c ∷ text) ⊎ (cut_at (c ∷ text) ≡ (Unfit, 1))) (sym (eqb-true b 39 q)) (quoted text)
    by false s false l false d false q true o =
        let opened : OpensAttribute (b ∷ text) = opens_to (b ∷ text) o in
        ⊎_elim (λ (h : (bytes : List ℕ) × (rest : List ℕ) × (b ∷ text ≡ bytes ++ rest) × IsAttribute bytes rest). inl (Gap, h.0, h.1, h.2, inr h.3))
        (λ none. inr (cut_of_attribute (b ∷ text) opened ∙ none)) (attribute_or (b ∷ text) opened)
    by false s false l false d false q false o =
        let shut : OpensAttribute (b ∷ text) → ⊥ = λ opened. true≢false (sym (opens_from (b ∷ text) opened) ∙ o) in
        ⊎_elim (λ (h : HasSign (b ∷ text)). inl (Sign h.0 h.1, h.1, h.2, h.3, (refl, h.4)))
        (λ none. inr (cut_of_sign b text (s, l, d, q) shut ∙ none)) (sign_or_none (b ∷ text) shut)

-- the first cut is the stretch that stands there
stretch_cut : (s : Stretch) (rest : List ℕ) → IsStretch s rest → cut_at (s.bytes ++ rest) ≡ (s.form, length s.bytes)
stretch_cut s rest is = by s.bytes is
  where
    by : (bytes : List ℕ) → Stands s.form bytes rest ⊎ (s.form ≡ Unfit) × IsUnfit bytes rest → cut_at (bytes ++ rest) ≡ (s.form, length bytes)
    by bytes (inl stands) = stands_cut s.form bytes rest stands
    by [] (inr is) = let one : 0 ≡ 1 = is.1.one in absurd (omega (arith, one))
    by (b ∷ []) (inr is) =
        let named : Form → Form × ℕ = λ form. (form, 1) in
        ⊎_elim (λ (h : HasForm (b ∷ rest)). absurd (is.1.nothing h.0 h.1 h.2 h.3 h.4)) (λ none. none ∙ ap named (sym is.0)) (found b rest)
    by (b ∷ c ∷ bytes) (inr is) = let one : suc (suc (length bytes)) ≡ 1 = is.1.one in absurd (omega (arith, one))

stands_some : (form : Form) (bytes rest : List ℕ) → Stands form bytes rest → 0 < length bytes
stands_some form (b ∷ bytes) rest is = omega arith
stands_some Gap [] rest (inl run) = absurd run
stands_some Gap [] rest (inr a) = let e : [] ≡ 40 ∷ 42 ∷ (a.inside ++ codes "*)") = a.spelled in absurd cc
stands_some (Letters text) [] rest is = absurd is.1
stands_some (Digits text) [] rest is = absurd is.1
stands_some (Part part) [] rest p = let e : [] ≡ 39 ∷ (p.sign ++ p.base ∷ (p.gap ++ part.2)) = p.spelled in absurd cc
stands_some (Sign kind text) [] rest is = absurd (sign_first [] kind is.1.listed)
stands_some Unfit [] rest is = absurd is

stretch_some : (s : Stretch) (rest : List ℕ) → IsStretch s rest → 0 < length s.bytes
stretch_some s rest (inl stands) = stands_some s.form s.bytes rest stands
stretch_some s rest (inr is) = let one : length s.bytes ≡ 1 = is.1.one in omega (arith, one)

-- a text that isn't empty begins with a stretch
stretch_here : (b : ℕ) (text : List ℕ) → (s : Stretch) × (rest : List ℕ) × (b ∷ text ≡ s.bytes ++ rest) × IsStretch s rest
stretch_here b text = ⊎_elim fit unfit (found b text)
  where
    Here : Type 0
    Here = (s : Stretch) × (rest : List ℕ) × (b ∷ text ≡ s.bytes ++ rest) × IsStretch s rest

    fit : HasForm (b ∷ text) → Here
    fit h = (record { form = h.0; bytes = h.1 }, h.2, h.3, inl h.4)

    unfit : cut_at (b ∷ text) ≡ (Unfit, 1) → Here
    unfit none = (
      record { form = Unfit; bytes = b ∷ [] },
      text,
      refl,
      inr (
        refl,
        record {
          one = refl;
          nothing = λ form front behind e stands.
              no_unfit form front behind (ap (λ (c : Form × ℕ). c.0) (sym none ∙ ap cut_at e ∙ stands_cut form front behind stands)) stands;
        },
      ),
    )
      where
        no_unfit : (form : Form) (front behind : List ℕ) → Unfit ≡ form → Stands form front behind → ⊥
        no_unfit form front behind e stands = subst (λ f. Stands f front behind) (sym e) stands

-- each text has its stretches
pub has_stretches : (text : List ℕ) → (ss : List Stretch) × Stretches text ss
has_stretches text = within (length text) text (omega arith)
  where
    within : (n : ℕ) (text : List ℕ) → length text ≤ n → (ss : List Stretch) × Stretches text ss
    within n [] most = ([], refl)
    within zero (b ∷ text) most = absurd (omega (arith, most))
    within (suc n) (b ∷ text) most =
        let here : (s : Stretch) × (rest : List ℕ) × (b ∷ text ≡ s.bytes ++ rest) × IsStretch s rest = stretch_here b text in
        let some : 0 < length here.0.bytes = stretch_some here.0 here.1 here.3 in
        let whole : suc (length text) ≡ length here.0.bytes + length here.1 = ap length here.2 ∙ length-append here.0.bytes here.1 in
        let later : (ss : List Stretch) × Stretches here.1 ss = within n here.1 (omega (arith, most, some, whole)) in
        (here.0 ∷ later.0, (here.1, here.2, here.3, later.1))

-- and only these
pub only_stretches : (text : List ℕ) (ss zs : List Stretch) → Stretches text ss → Stretches text zs → ss ≡ zs
only_stretches text [] [] is are = refl
only_stretches text [] (z ∷ zs) is are =
    let some : 0 < length z.bytes = stretch_some z are.0 are.2 in
    let none : 0 ≡ length z.bytes + length are.0 = ap length (sym is ∙ are.1) ∙ length-append z.bytes are.0 in
    absurd (omega (arith, some, none))
only_stretches text (s ∷ ss) [] is are =
    let some : 0 < length s.bytes = stretch_some s is.0 is.2 in
    let none : 0 ≡ length s.bytes + length is.0 = ap length (sym are ∙ is.1) ∙ length-append s.bytes is.0 in
    absurd (omega (arith, some, none))
only_stretches text (s ∷ ss) (z ∷ zs) is are =
    let cut : (s.form, length s.bytes) ≡ (z.form, length z.bytes) =
    sym (stretch_cut s is.0 is.2) ∙ ap cut_at (sym is.1 ∙ are.1) ∙ stretch_cut z are.0 are.2 in
    let form : s.form ≡ z.form = ap (λ (c : Form × ℕ). c.0) cut in
    let size : length z.bytes ≡ length s.bytes = ap (λ (c : Form × ℕ). c.1) (sym cut) in
    let bytes : s.bytes ≡ z.bytes =
    sym (take_at s.bytes is.0 (length s.bytes) refl) ∙ ap (take (length s.bytes)) (sym is.1 ∙ are.1) ∙ take_at z.bytes are.0 (length s.bytes) size in
    let rest : are.0 ≡ is.0 =
    sym (drop_at z.bytes are.0 (length s.bytes) size) ∙ ap (drop (length s.bytes)) (sym are.1 ∙ is.1) ∙ drop_at s.bytes is.0 (length s.bytes) refl in
    let first : s ≡ z = ap (λ f. record { form = f; bytes = s.bytes }) form ∙ ap (λ b. record { form = z.form; bytes = b }) bytes in
    ap (λ x. x ∷ ss) first ∙ ap (λ xs. z ∷ xs) (only_stretches is.0 ss zs is.3 (subst (λ r. Stretches r zs) rest are.3))

-- the lexemes of a text are those of its stretches
pub stretch_lexemes : (fixed : Bool) (at : Place) (text : List ℕ) (ss : List Stretch) → Stretches text ss → text_lexemes fixed at text ≡ placed fixed at ss
unfolding text_lexemes
stretch_lexemes fixed at text [] is = ap (text_lexemes fixed at) is
stretch_lexemes fixed at text (s ∷ ss) is =
    let some : 0 < length s.bytes = stretch_some s is.0 is.2 in
    let whole : length (s.bytes ++ is.0) ≡ length s.bytes + length is.0 = length-append s.bytes is.0 in
    ap (text_lexemes fixed at) is.1
    ∙ first_cut fixed at (s.bytes ++ is.0) s.form (length s.bytes) (omega (arith, some, whole)) (sym (stretch_cut s is.0 is.2)) some
    ∙ ap (λ bs. lexeme_here at s.form ++ text_lexemes fixed (moved_over fixed at bs) (drop (length s.bytes) (s.bytes ++ is.0))) (take_at s.bytes is.0 (length s.bytes) refl)
    ∙ ap (λ r. lexeme_here at s.form ++ text_lexemes fixed (moved_over fixed at s.bytes) r) (drop_at s.bytes is.0 (length s.bytes) refl)
    ∙ ap (λ ls. lexeme_here at s.form ++ ls) (stretch_lexemes fixed (moved_over fixed at s.bytes) is.0 ss is.3)
