-- No text but that of the last token is the end.
use Rattle.std.proofs.Common.{◌≡◌, ℕ, Bool, true, false, true≢false, cond, eqb, List, [], ◌∷◌, take, slice_index, Option, Some, None, refl}
use Rattle.std.specs.List.{prefix_len}
use Rattle.ls_text.specs.Bytes.{is_letter, is_digit, is_word_byte, is_space}
use Rattle.verilog_lex.specs.declared.kind.Kind.{Kind}
use Rattle.verilog_lex.specs.declared.kind.Kind.TheVariants as kind
use Rattle.verilog_lex.specs.Forms.{Form, Gap, Letters, Digits, Part, Sign, Unfit}
use Rattle.verilog_lex.specs.Keywords.{kind_in, used_words, other_words, kind_or, is_among, word_kind}
use Rattle.verilog_lex.specs.Signs.{triples, doubles, singles}
use Rattle.verilog_lex.specs.Cuts.{is_decimal_byte, part_at, opens_attribute, to_its_end, attribute_at, sign_or, mark_at, found_or, cut_at}

abbrev pub is_end : Kind → Bool
is_end kind.End = true
is_end _ = false

-- whether what a table gives is the end
abbrev gives_end : Option Kind → Bool
gives_end None = false
gives_end (Some k) = is_end k

abbrev has_end : List (List ℕ × Kind) → Bool
has_end [] = false
has_end (e ∷ es) = cond (is_end e.1) true (has_end es)

in_table : (table : List (List ℕ × Kind)) (text : List ℕ) → has_end table ≡ false → gives_end (kind_in table text) ≡ false
in_table [] text none = refl
in_table (e ∷ es) text none = by _ _ _ (in_table es text) none
  where
    by : (same : Bool) (entry : Kind) (other : Option Kind) → (has_end es ≡ false → gives_end other ≡ false)
        → cond (is_end entry) true (has_end es) ≡ false → gives_end (cond same (Some entry) other) ≡ false
    by same entry other rest none = at same (is_end entry) refl none
      where
        at : (same last : Bool) → is_end entry ≡ last → cond last true (has_end es) ≡ false → gives_end (cond same (Some entry) other) ≡ false
        at true true is h = absurd (true≢false h)
        at true false is h = is
        at false true is h = absurd (true≢false h)
        at false false is h = rest h

no_triple : (text : List ℕ) → gives_end (kind_in triples text) ≡ false
unfolding triples
no_triple text = in_table triples text refl

no_double : (text : List ℕ) → gives_end (kind_in doubles text) ≡ false
unfolding doubles
no_double text = in_table doubles text refl

no_single : (text : List ℕ) → gives_end (kind_in singles text) ≡ false
unfolding singles
no_single text = in_table singles text refl

no_used_word : (text : List ℕ) → gives_end (kind_in used_words text) ≡ false
unfolding used_words
no_used_word text = in_table used_words text refl

pub no_word : (text : List ℕ) → is_end (word_kind text) ≡ false
unfolding word_kind
no_word text = by (kind_in used_words text) (is_among other_words text) (no_used_word text)
  where
    by : (o : Option Kind) (other : Bool) → gives_end o ≡ false → is_end (kind_or o (cond other kind.Reserved kind.Word)) ≡ false
    by None true h = refl
    by None false h = refl
    by (Some k) other h = h

-- whether a form is a sign that is the end
abbrev pub is_end_form : Form → Bool
is_end_form (Sign k text) = is_end k
is_end_form _ = false

no_sign : (text : List ℕ) (o : Option Kind) (other : Form × ℕ) → gives_end o ≡ false → is_end_form other.0 ≡ false → is_end_form (sign_or text o other).0 ≡ false
no_sign text None other none rest = rest
no_sign text (Some k) other none rest = none

no_mark : (text : List ℕ) → is_end_form (mark_at text).0 ≡ false
unfolding mark_at
no_mark text =
    no_sign (take 3 text) (kind_in triples (take 3 text)) _ (no_triple (take 3 text))
    (no_sign (take 2 text) (kind_in doubles (take 2 text)) _ (no_double (take 2 text))
    (no_sign (take 1 text) (kind_in singles (take 1 text)) _ (no_single (take 1 text)) refl))

no_attribute : (text : List ℕ) → is_end_form (attribute_at text).0 ≡ false
unfolding attribute_at
no_attribute text = by _
  where
    by : (o : Option ℕ) → is_end_form (to_its_end o).0 ≡ false
    by None = refl
    by (Some n) = refl

no_part : (text : List ℕ) → is_end_form (found_or (part_at text) (Unfit, 1)).0 ≡ false
unfolding part_at
no_part text = by _ _ _
  where
    by : (there : Bool) (part : Bool × ℕ × List ℕ) (n : ℕ) → is_end_form (found_or (cond there (Some (Part part, n)) None) (Unfit, 1)).0 ≡ false
    by true part n = refl
    by false part n = refl

pub no_cut : (text : List ℕ) → is_end_form (cut_at text).0 ≡ false
unfolding cut_at
no_cut text =
    let first = slice_index text 0 in
    by (is_space first) (is_letter first) (is_digit first) (eqb first 39) (opens_attribute text)
    (Gap, prefix_len is_space text) (Letters (take (prefix_len is_word_byte text) text), prefix_len is_word_byte text)
    (Digits (take (prefix_len is_decimal_byte text) text), prefix_len is_decimal_byte text)
    (found_or (part_at text) (Unfit, 1)) (attribute_at text) (mark_at text) refl refl refl (no_part text) (no_attribute text) (no_mark text)
  where
    by : (a b c d e : Bool) (u v w x y z : Form × ℕ) → is_end_form u.0 ≡ false → is_end_form v.0 ≡ false → is_end_form w.0 ≡ false
        → is_end_form x.0 ≡ false → is_end_form y.0 ≡ false → is_end_form z.0 ≡ false
        → is_end_form (cond a u (cond b v (cond c w (cond d x (cond e y z))))).0 ≡ false
    by true b c d e u v w x y z f g h i j k = f
    by false true c d e u v w x y z f g h i j k = g
    by false false true d e u v w x y z f g h i j k = h
    by false false false true e u v w x y z f g h i j k = i
    by false false false false true u v w x y z f g h i j k = j
    by false false false false false u v w x y z f g h i j k = k
