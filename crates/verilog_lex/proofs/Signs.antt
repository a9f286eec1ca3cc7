-- The longest sign of the tables.
use Rattle.std.proofs.Common.{◌≡◌, ◌⊎◌, inl, inr, ◌<◌, ◌≤◌, ℕ, Bool, true, false, not, ◌&&◌, cond, eqb, List, [], ◌∷◌, ◌++◌, length, take, drop, get_or, Option, Some, None, refl, sym, ap, subst, ◌∙◌, arith, take-append-drop, take_at}
use Rattle.std.specs.List.{list_all}
use Rattle.std.specs.Str.{bytes_eq}
use Rattle.std.proofs.lemmas.Bool.{and_parts, eqb-true, not-true}
use Rattle.std.proofs.lemmas.Slice.Eq.{bytes_eq-Decides}
use Rattle.std.proofs.lemmas.Option.{none-some}
use Rattle.ls_text.specs.Bytes.{is_letter, is_digit, is_space}
use Rattle.verilog_lex.specs.declared.kind.Kind.{Kind}
use Rattle.verilog_lex.specs.Forms.{Form, Sign, Unfit}
use Rattle.verilog_lex.specs.Keywords.{kind_in}
use Rattle.verilog_lex.specs.Signs.{triples, doubles, singles}
use Rattle.verilog_lex.specs.Cuts.{sign_or, mark_at}
use Rattle.verilog_lex.specs.Stretches.{OpensAttribute, signs, IsSign}

abbrev Table : Type 0
Table = List (List ℕ × Kind)

-- what holds of every text of a table holds of one that it has
listed_has : (p : List ℕ → Bool) (table : Table) (text : List ℕ) (k : Kind) → list_all (λ e. p e.0) table ≡ true → kind_in table text ≡ Some k → p text ≡ true
listed_has p [] text k all is = absurd (none-some k is)
listed_has p (e ∷ table) text k all is =
    let parts : (p e.0 ≡ true) × (list_all (λ e. p e.0) table ≡ true) = and_parts (p e.0) _ all in
    by (bytes_eq e.0 text) refl parts.0 (listed_has p table text k parts.1) is
  where
    by : (same : Bool) → bytes_eq e.0 text ≡ same → p e.0 ≡ true → (kind_in table text ≡ Some k → p text ≡ true) → cond same (Some e.1) (kind_in table text) ≡ Some k → p text ≡ true
    by true same here later is = subst (λ t. p t ≡ true) ((bytes_eq-Decides e.0 text).0 same) here
    by false same here later is = later is

in_front : (xs ys : Table) (text : List ℕ) (k : Kind) → kind_in xs text ≡ Some k → kind_in (xs ++ ys) text ≡ Some k
in_front [] ys text k is = absurd (none-some k is)
in_front (e ∷ xs) ys text k is = by (bytes_eq e.0 text) (in_front xs ys text k) is
  where
    by : (same : Bool) → (kind_in xs text ≡ Some k → kind_in (xs ++ ys) text ≡ Some k) → cond same (Some e.1) (kind_in xs text) ≡ Some k → cond same (Some e.1) (kind_in (xs ++ ys) text) ≡ Some k
    by true later is = is
    by false later is = later is

in_back : (xs ys : Table) (text : List ℕ) → kind_in xs text ≡ None → kind_in (xs ++ ys) text ≡ kind_in ys text
in_back [] ys text none = refl
in_back (e ∷ xs) ys text none = by (bytes_eq e.0 text) (in_back xs ys text) none
  where
    by : (same : Bool) → (kind_in xs text ≡ None → kind_in (xs ++ ys) text ≡ kind_in ys text) → cond same (Some e.1) (kind_in xs text) ≡ None → cond same (Some e.1) (kind_in (xs ++ ys) text) ≡ kind_in ys text
    by true later none = absurd cc
    by false later none = later none

-- a sign has so many bytes, and its first begins no other form
abbrev is_sign_of : ℕ → List ℕ → Bool
is_sign_of n text =
    eqb (length text) n && (not (is_space (get_or text 0 0)) && (not (is_letter (get_or text 0 0)) && (not (is_digit (get_or text 0 0)) && not (eqb (get_or text 0 0) 39))))

triple_of : (text : List ℕ) (k : Kind) → kind_in triples text ≡ Some k → is_sign_of 3 text ≡ true
unfolding triples
triple_of text k is = listed_has (is_sign_of 3) triples text k refl is

double_of : (text : List ℕ) (k : Kind) → kind_in doubles text ≡ Some k → is_sign_of 2 text ≡ true
unfolding doubles
double_of text k is = listed_has (is_sign_of 2) doubles text k refl is

single_of : (text : List ℕ) (k : Kind) → kind_in singles text ≡ Some k → is_sign_of 1 text ≡ true
unfolding singles
single_of text k is = listed_has (is_sign_of 1) singles text k refl is

-- such a text has so many bytes
sized : (n : ℕ) (text : List ℕ) → is_sign_of n text ≡ true → length text ≡ n
sized n text is = eqb-true (length text) n (and_parts (eqb (length text) n) _ is).0

listed_cases : (text : List ℕ) (k : Kind) → kind_in signs text ≡ Some k
    → (kind_in triples text ≡ Some k) ⊎ ((kind_in doubles text ≡ Some k) ⊎ (kind_in singles text ≡ Some k))
listed_cases text k is = by (kind_in triples text) refl (kind_in doubles text) refl
  where
    by : (three : Option Kind) → kind_in triples text ≡ three → (two : Option Kind) → kind_in doubles text ≡ two
        → (kind_in triples text ≡ Some k) ⊎ ((kind_in doubles text ≡ Some k) ⊎ (kind_in singles text ≡ Some k))
    by (Some j) three o two = inl (three ∙ sym (in_front triples (doubles ++ singles) text j three) ∙ is)
    by None three (Some j) two = inr (inl (two ∙ sym (in_front doubles singles text j two) ∙ sym (in_back triples (doubles ++ singles) text three) ∙ is))
    by None three None two = inr (inr (sym (in_back doubles singles text two) ∙ sym (in_back triples (doubles ++ singles) text three) ∙ is))

none_in : (table : Table) (text : List ℕ) → ((k : Kind) → kind_in table text ≡ Some k → ⊥) → kind_in table text ≡ None
none_in table text no_kind = by (kind_in table text) refl
  where
    by : (o : Option Kind) → kind_in table text ≡ o → o ≡ None
    by None is = refl
    by (Some k) is = absurd (no_kind k is)

listed_double : (text : List ℕ) (k : Kind) → kind_in doubles text ≡ Some k → kind_in signs text ≡ Some k
listed_double text k is =
    let two : length text ≡ 2 = sized 2 text (double_of text k is) in
    in_back triples (doubles ++ singles) text (none_in triples text (λ j three. let three : length text ≡ 3 = sized 3 text (triple_of text j three) in omega (arith, two, three)))
    ∙ in_front doubles singles text k is

listed_single : (text : List ℕ) (k : Kind) → kind_in singles text ≡ Some k → kind_in signs text ≡ Some k
listed_single text k is =
    let one : length text ≡ 1 = sized 1 text (single_of text k is) in
    in_back triples (doubles ++ singles) text (none_in triples text (λ j three. let three : length text ≡ 3 = sized 3 text (triple_of text j three) in omega (arith, one, three)))
    ∙ in_back doubles singles text (none_in doubles text (λ j two. let two : length text ≡ 2 = sized 2 text (double_of text j two) in omega (arith, one, two)))
    ∙ is

-- the first byte of a sign begins nothing else
abbrev pub IsFirst : List ℕ → Type 0
IsFirst [] = ⊥
IsFirst (b ∷ text) = (is_space b ≡ false) × (is_letter b ≡ false) × (is_digit b ≡ false) × (eqb b 39 ≡ false)

first_is : (n : ℕ) (text : List ℕ) → is_sign_of n text ≡ true → 0 < n → IsFirst text
first_is n [] is some = let none : 0 ≡ n = sized n [] is in omega (arith, none, some)
first_is n (b ∷ text) is some =
    let size : _ × ((not (is_space b) && (not (is_letter b) && (not (is_digit b) && not (eqb b 39)))) ≡ true) = and_parts (eqb (length (b ∷ text)) n) _ is in
    let space : (not (is_space b) ≡ true) × _ = and_parts (not (is_space b)) _ size.1 in
    let letter : (not (is_letter b) ≡ true) × _ = and_parts (not (is_letter b)) _ space.1 in
    let digit : (not (is_digit b) ≡ true) × (not (eqb b 39) ≡ true) = and_parts (not (is_digit b)) _ letter.1 in
    (not-true _ space.0, not-true _ letter.0, not-true _ digit.0, not-true _ digit.1)

pub sign_first : (text : List ℕ) (k : Kind) → kind_in signs text ≡ Some k → IsFirst text
sign_first text k is = by (listed_cases text k is)
  where
    by : (kind_in triples text ≡ Some k) ⊎ ((kind_in doubles text ≡ Some k) ⊎ (kind_in singles text ≡ Some k)) → IsFirst text
    by (inl three) = first_is 3 text (triple_of text k three) (omega arith)
    by (inr (inl two)) = first_is 2 text (double_of text k two) (omega arith)
    by (inr (inr one)) = first_is 1 text (single_of text k one) (omega arith)

abbrev mark_of_one : List ℕ → Form × ℕ
mark_of_one text = sign_or (take 1 text) (kind_in singles (take 1 text)) (Unfit, 1)

abbrev mark_of_two : List ℕ → Form × ℕ
mark_of_two text = sign_or (take 2 text) (kind_in doubles (take 2 text)) (mark_of_one text)

pub sign_cut : (kind : Kind) (bytes rest : List ℕ) → IsSign kind bytes rest → mark_at (bytes ++ rest) ≡ (Sign kind bytes, length bytes)
unfolding mark_at
sign_cut kind bytes rest s = by (listed_cases bytes kind s.listed)
  where
    text : List ℕ
    text = bytes ++ rest

    no_three : length bytes < 3 → kind_in triples (take 3 text) ≡ None
    no_three short = none_in triples (take 3 text) (λ j is.
        let three : length (take 3 text) ≡ 3 = sized 3 (take 3 text) (triple_of (take 3 text) j is) in
        let most : length (take 3 text) ≤ length bytes = s.longest j (take 3 text) (drop 3 text) (sym (take-append-drop 3 text)) (in_front triples (doubles ++ singles) (take 3 text) j is) in
        omega (arith, three, most, short))

    no_two : length bytes < 2 → kind_in doubles (take 2 text) ≡ None
    no_two short = none_in doubles (take 2 text) (λ j is.
        let two : length (take 2 text) ≡ 2 = sized 2 (take 2 text) (double_of (take 2 text) j is) in
        let most : length (take 2 text) ≤ length bytes = s.longest j (take 2 text) (drop 2 text) (sym (take-append-drop 2 text)) (listed_double (take 2 text) j is) in
        omega (arith, two, most, short))

    by : (kind_in triples bytes ≡ Some kind) ⊎ ((kind_in doubles bytes ≡ Some kind) ⊎ (kind_in singles bytes ≡ Some kind)) → mark_at text ≡ (Sign kind bytes, length bytes)
    by (inl three) =
        ap (λ front. sign_or front (kind_in triples front) (mark_of_two text)) (take_at bytes rest 3 (sized 3 bytes (triple_of bytes kind three)))
        ∙ ap (λ o. sign_or bytes o (mark_of_two text)) three
    by (inr (inl two)) =
        let size : length bytes ≡ 2 = sized 2 bytes (double_of bytes kind two) in
        ap (λ o. sign_or (take 3 text) o (mark_of_two text)) (no_three (omega (arith, size)))
        ∙ ap (λ front. sign_or front (kind_in doubles front) (mark_of_one text)) (take_at bytes rest 2 size)
        ∙ ap (λ o. sign_or bytes o (mark_of_one text)) two
    by (inr (inr one)) =
        let size : length bytes ≡ 1 = sized 1 bytes (single_of bytes kind one) in
        ap (λ o. sign_or (take 3 text) o (mark_of_two text)) (no_three (omega (arith, size)))
        ∙ ap (λ o. sign_or (take 2 text) o (mark_of_one text)) (no_two (omega (arith, size)))
        ∙ ap (λ front. sign_or front (kind_in singles front) (Unfit, 1)) (take_at bytes rest 1 size)
        ∙ ap (λ o. sign_or bytes o (Unfit, 1)) one

abbrev pub HasSign : List ℕ → Type 0
HasSign text = (kind : Kind) × (bytes : List ℕ) × (rest : List ℕ) × (text ≡ bytes ++ rest) × IsSign kind bytes rest

-- a sign begins the text, or no sign of the tables does
pub sign_or_none : (text : List ℕ) → (OpensAttribute text → ⊥) → HasSign text ⊎ (mark_at text ≡ (Unfit, 1))
unfolding mark_at
sign_or_none text shut = by (kind_in triples (take 3 text)) refl (kind_in doubles (take 2 text)) refl (kind_in singles (take 1 text)) refl
  where
    -- the front of so many bytes is a sign, and no longer one begins the text
    at : (n : ℕ) (k : Kind) → length (take n text) ≡ n → kind_in signs (take n text) ≡ Some k
        → ((j : Kind) (more behind : List ℕ) → text ≡ more ++ behind → kind_in triples more ≡ Some j → length more ≤ n)
        → ((j : Kind) (more behind : List ℕ) → text ≡ more ++ behind → kind_in doubles more ≡ Some j → length more ≤ n)
        → ((j : Kind) (more : List ℕ) → kind_in singles more ≡ Some j → length more ≤ n)
        → HasSign text
    at n k size is three two one =
        let whole : take n text ++ drop n text ≡ text = take-append-drop n text in (
          k,
          take n text,
          drop n text,
          sym whole,
          record {
            listed = is;
            longest = λ j more behind e listed. subst (λ m. length more ≤ m) (sym size) (within j more behind (sym whole ∙ e) (listed_cases more j listed));
            no_attribute = λ o. shut (subst OpensAttribute whole o);
          },
        )
      where
        within : (j : Kind) (more behind : List ℕ) → text ≡ more ++ behind
            → (kind_in triples more ≡ Some j) ⊎ ((kind_in doubles more ≡ Some j) ⊎ (kind_in singles more ≡ Some j)) → length more ≤ n
        within j more behind e (inl is) = three j more behind e is
        within j more behind e (inr (inl is)) = two j more behind e is
        within j more behind e (inr (inr is)) = one j more is

    size_one : (j : Kind) (more : List ℕ) → kind_in singles more ≡ Some j → length more ≡ 1
    size_one j more is = sized 1 more (single_of more j is)

    size_two : (j : Kind) (more : List ℕ) → kind_in doubles more ≡ Some j → length more ≡ 2
    size_two j more is = sized 2 more (double_of more j is)

    size_three : (j : Kind) (more : List ℕ) → kind_in triples more ≡ Some j → length more ≡ 3
    size_three j more is = sized 3 more (triple_of more j is)

    -- no front is in a table that hasn't the front of that length
    missed : (table : Table) (n : ℕ) → kind_in table (take n text) ≡ None → (j : Kind) (more behind : List ℕ) → length more ≡ n → text ≡ more ++ behind → kind_in table more ≡ Some j → ⊥
    missed table n none j more behind size e is =
        none-some j (sym none ∙ ap (kind_in table) (ap (take n) e ∙ take_at more behind n size) ∙ is)

    by : (three : Option Kind) → kind_in triples (take 3 text) ≡ three → (two : Option Kind) → kind_in doubles (take 2 text) ≡ two
        → (one : Option Kind) → kind_in singles (take 1 text) ≡ one → HasSign text ⊎ (mark_at text ≡ (Unfit, 1))
    by (Some k) three p two q one =
        inl (at 3 k (size_three k (take 3 text) three) (in_front triples (doubles ++ singles) (take 3 text) k three)
        (λ j more behind e is. let size = size_three j more is in omega (arith, size))
        (λ j more behind e is. let size = size_two j more is in omega (arith, size))
        (λ j more is. let size = size_one j more is in omega (arith, size)))
    by None three (Some k) two q one =
        inl (at 2 k (size_two k (take 2 text) two) (listed_double (take 2 text) k two)
        (λ j more behind e is. absurd (missed triples 3 three j more behind (size_three j more is) e is))
        (λ j more behind e is. let size = size_two j more is in omega (arith, size))
        (λ j more is. let size = size_one j more is in omega (arith, size)))
    by None three None two (Some k) one =
        inl (at 1 k (size_one k (take 1 text) one) (listed_single (take 1 text) k one)
        (λ j more behind e is. absurd (missed triples 3 three j more behind (size_three j more is) e is))
        (λ j more behind e is. absurd (missed doubles 2 two j more behind (size_two j more is) e is))
        (λ j more is. let size = size_one j more is in omega (arith, size)))
    by None three None two None one =
        inr (ap (λ o. sign_or (take 3 text) o (mark_of_two text)) three
        ∙ ap (λ o. sign_or (take 2 text) o (mark_of_one text)) two
        ∙ ap (λ o. sign_or (take 1 text) o (Unfit, 1)) one)
