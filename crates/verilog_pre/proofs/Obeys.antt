-- A directive does what the relation on directives says, and nothing else.
use Rattle.std.proofs.Common.{◌≡◌, ℕ, ◌+◌, ◌==◌, ◌&&◌, ◌||◌, not, Bool, true, false, cond, List, [], ◌∷◌, ◌++◌, length, take, drop, Option, Some, None, Result, Ok, Err, refl, sym, ap, subst, ◌∙◌, arith, append_assoc, true≢false}
use Rattle.std.proofs.Math.Seq.{take-append_seam, drop-append_seam}
use Rattle.std.specs.Prelude.{slice_index, is_some}
use Rattle.std.specs.List.{prefix_len}
use Rattle.std.proofs.lemmas.Bool.{eqb-true, or_parts}
use Rattle.std.proofs.lemmas.List.{take-append-drop, length-append}
use Rattle.std.proofs.lemmas.List.Folds.{length-prefix_len}
use Rattle.ls_text.specs.declared.place.Place.{Place}
use Rattle.ls_text.specs.Bytes.{is_letter, is_word_byte, is_blank}
use Rattle.ls_text.specs.Readings.{TextFault, ◌>>=◌}
use Rattle.verilog_pre.specs.declared.conditional.Conditional.{Conditional}
use Rattle.verilog_pre.specs.declared.directive.Directive.{Directive}
use Rattle.verilog_pre.specs.declared.directive.Directive.TheVariants as directive
use Rattle.verilog_pre.specs.Bodies.{body_parts, body_len}
use Rattle.verilog_pre.specs.BodyStretches.{Body}
use Rattle.verilog_pre.specs.Conditionals.{is_read, continued, closed}
use Rattle.verilog_pre.specs.Directives.{directive_of, is_conditional, is_use, name_at}
use Rattle.verilog_pre.specs.Expansions.{Output, expanded}
use Rattle.verilog_pre.specs.Obeys.{HasName, HasNoName, wants_name, is_definable, used_at, Obeys, Nameless, Defines, Undefinable, Undefines, Opens, OpensNegated, Continues, CannotContinue, Turns, CannotTurn, Closes, CannotClose, SkipsLine, Ignored, Uses, CannotUse, Carries, Skips, Obeyed}
use Rattle.verilog_pre.specs.Parts.{Part, Use}
use Rattle.verilog_pre.specs.Reading.{Read, bad, with_out, with_body, define_name, undef_name, ifdef_name, elsif_name, nest_or_bad, named, use_macro, directive_at, directive_read}
use Rattle.verilog_pre.specs.States.{State}
use Rattle.verilog_pre.specs.Shapes.{AllAre, StopsAt, IsWord}
use Rattle.verilog_pre.specs.Uses.{Expands}
use Rattle.verilog_pre.proofs.Stretches.{front_all, front_stops, leading_word, front_is}
use Rattle.verilog_pre.proofs.BodyTurns.{whole_body, only_body}
use Rattle.verilog_pre.proofs.Expanded.{whole_use, only_use}

abbrev not_newline : ℕ → Bool
not_newline b = not (b == 10)

-- ---- a name is found where one stands

-- what is found where a name is looked for
data Found (text : List ℕ) : Option (List ℕ × ℕ) → Type 0 where
  NoName : HasNoName text → Found text None
  OneName : (blanks name rest : List ℕ) → HasName text blanks name rest → Found text (Some (name, length blanks + length name))

-- a letter is no blank
other : (c k : ℕ) → is_letter k ≡ false → is_letter c ≡ true → (c == k) ≡ false
other c k none letter = at (c == k) refl
  where
    at : (t : Bool) → (c == k) ≡ t → t ≡ false
    at true e = absurd (true≢false (sym letter ∙ ap is_letter (eqb-true c k e) ∙ none))
    at false e = refl

not_blank : (c : ℕ) → is_letter c ≡ true → is_blank c ≡ false
not_blank c letter =
    ap (λ t. t || ((c == 9) || ((c == 12) || (c == 13)))) (other c 32 refl letter)
    ∙ ap (λ t. t || ((c == 12) || (c == 13))) (other c 9 refl letter)
    ∙ ap (λ t. t || (c == 13)) (other c 12 refl letter)
    ∙ other c 13 refl letter

begins_none : (xs : List ℕ) → is_letter (slice_index xs 0) ≡ false → StopsAt is_letter xs
begins_none [] none = tt
begins_none (b ∷ bs) none = none

found : (text : List ℕ) → Found text (name_at text)
unfolding name_at
found text = at (is_letter (slice_index left 0)) refl
  where
    left : List ℕ
    left = drop (prefix_len is_blank text) text

    n : ℕ
    n = prefix_len is_word_byte left

    joined : take (prefix_len is_blank text) text ++ left ≡ text
    joined = take-append-drop (prefix_len is_blank text) text

    size : length (take (prefix_len is_blank text) text) + length (take n left) ≡ prefix_len is_blank text + n
    size =
        let blanks : length (take (prefix_len is_blank text) text) ≡ prefix_len is_blank text = length-prefix_len is_blank text in
        let name : length (take n left) ≡ n = length-prefix_len is_word_byte left in
        omega (arith, blanks, name)

    at : (t : Bool) → is_letter (slice_index left 0) ≡ t → Found text (cond t (Some (take n left, prefix_len is_blank text + n)) None)
    at true letter =
        subst (λ k. Found text (Some (take n left, k))) size
        (OneName (take (prefix_len is_blank text) text) (take n left) (drop n left)
        (record {
          is = sym joined ∙ ap (λ xs. take (prefix_len is_blank text) text ++ xs) (sym (take-append-drop n left));
          blank = front_all is_blank text;
          word = leading_word left letter;
        }))
    at false none =
        NoName (record {
          blanks = take (prefix_len is_blank text) text;
          rest = left;
          is = sym joined;
          blank = front_all is_blank text;
          ends = front_stops is_blank text;
          none = begins_none left none;
        })

-- ---- the name that stands there is found

left_is : (text blanks name rest : List ℕ) → HasName text blanks name rest → drop (length blanks + length name) text ≡ rest
left_is text blanks name rest has =
    ap (drop (length blanks + length name)) (has.is ∙ sym (append_assoc blanks name rest))
    ∙ ap (λ n. drop n ((blanks ++ name) ++ rest)) (sym (length-append blanks name))
    ∙ drop-append_seam (blanks ++ name) rest

-- the name's letter behind the blanks
letter_first : (name rest : List ℕ) → IsWord name rest → is_letter (slice_index (name ++ rest) 0) ≡ true
letter_first [] rest word = absurd (true≢false (sym word.begins))
letter_first (b ∷ bs) rest word = word.begins

stops_blank : (xs : List ℕ) → is_letter (slice_index xs 0) ≡ true → StopsAt is_blank xs
stops_blank [] letter = tt
stops_blank (b ∷ bs) letter = not_blank b letter

-- the name that stands behind so many blanks, if one does
abbrev name_if : List ℕ → ℕ → Bool → Option (List ℕ × ℕ)
name_if left blank t = cond t (Some (take (prefix_len is_word_byte left) left, blank + prefix_len is_word_byte left)) None

abbrev name_behind : List ℕ → ℕ → Option (List ℕ × ℕ)
name_behind left blank = name_if left blank (is_letter (slice_index left 0))

behind_blanks : (blanks left : List ℕ) → AllAre is_blank blanks → StopsAt is_blank left → name_at (blanks ++ left) ≡ name_behind left (length blanks)
unfolding name_at
behind_blanks blanks left blank stops =
    ap (λ n. name_behind (drop n (blanks ++ left)) n) (front_is is_blank blanks left blank stops)
    ∙ ap (λ xs. name_behind xs (length blanks)) (drop-append_seam blanks left)

name_is : (text blanks name rest : List ℕ) → HasName text blanks name rest → name_at text ≡ Some (name, length blanks + length name)
name_is text blanks name rest has =
    let letter : is_letter (slice_index (name ++ rest) 0) ≡ true = letter_first name rest has.word in
    ap name_at has.is
    ∙ behind_blanks blanks (name ++ rest) has.blank (stops_blank (name ++ rest) letter)
    ∙ ap (name_if (name ++ rest) (length blanks)) letter
    ∙ ap (λ n. Some (take n (name ++ rest), length blanks + n)) (front_is is_word_byte name rest has.word.all has.word.ends)
    ∙ ap (λ xs. Some (xs, length blanks + length name)) (take-append_seam name rest)

no_name_is : (text : List ℕ) → HasNoName text → name_at text ≡ None
no_name_is text has =
    ap name_at has.is ∙ behind_blanks has.blanks has.rest has.blank has.ends ∙ nothing has.rest has.none
  where
    nothing : (xs : List ℕ) → StopsAt is_letter xs → name_behind xs (length has.blanks) ≡ None
    nothing [] none = refl
    nothing (b ∷ bs) none = ap (name_if (b ∷ bs) (length has.blanks)) none

-- ---- a macro's definition

abbrev defined_if : Place → ℕ → List ℕ → State → List ℕ → ℕ → List ℕ → Bool → Read
defined_if at offset word st name n rest t = cond t (bad at word) (Ok (with_body name (body_parts at.file (offset + n) rest) st, n + body_len rest))

refused_if : (name rest : List ℕ) → ((slice_index rest 0 == 40) || not (is_use (directive_of name))) ≡ not (is_definable name rest)
refused_if name [] = refl
refused_if name (b ∷ bs) = either (b == 40) (is_use (directive_of name))
  where
    either : (x y : Bool) → (x || not y) ≡ not (not x && y)
    either true y = refl
    either false y = refl

define_is : (at : Place) (offset : ℕ) (word : List ℕ) (st : State) (text blanks name rest : List ℕ) → HasName text blanks name rest
    → define_name at offset word st text (name, length blanks + length name)
    ≡ defined_if at offset word st name (length blanks + length name) rest (not (is_definable name rest))
unfolding define_name
define_is at offset word st text blanks name rest has =
    ap (λ xs. defined_if at offset word st name (length blanks + length name) xs ((slice_index xs 0 == 40) || not (is_use (directive_of name))))
    (left_is text blanks name rest has)
    ∙ ap (defined_if at offset word st name (length blanks + length name) rest) (refused_if name rest)

defines : (at : Place) (offset : ℕ) (word : List ℕ) (st : State) (text blanks name rest : List ℕ) → HasName text blanks name rest
    → Obeys at offset word st text directive.Define (define_name at offset word st text (name, length blanks + length name))
defines at offset word st text blanks name rest has =
    subst (Obeys at offset word st text directive.Define) (sym (define_is at offset word st text blanks name rest has))
    (told (is_definable name rest) refl)
  where
    told : (t : Bool) → is_definable name rest ≡ t
        → Obeys at offset word st text directive.Define (defined_if at offset word st name (length blanks + length name) rest (not t))
    told true e =
        Defines blanks name rest (body_parts at.file (offset + (length blanks + length name)) rest) (body_len rest) has e
        (whole_body at.file (offset + (length blanks + length name)) rest)
    told false e = Undefinable blanks name rest has e

-- ---- what a directive does is related

abbrev Named : Place → ℕ → List ℕ → State → List ℕ → Directive → (List ℕ × ℕ → Read) → Type 0
Named at offset word st text d next =
    (blanks name rest : List ℕ) → HasName text blanks name rest → Obeys at offset word st text d (next (name, length blanks + length name))

-- a directive that wants a name, by what it does with one
by_name : (at : Place) (offset : ℕ) (word : List ℕ) (st : State) (text : List ℕ) (d : Directive) (next : List ℕ × ℕ → Read)
    → wants_name d ≡ true → Named at offset word st text d next → Obeys at offset word st text d (named at word next (name_at text))
by_name at offset word st text d next wants with_name = told (name_at text) (found text)
  where
    told : (o : Option (List ℕ × ℕ)) → Found text o → Obeys at offset word st text d (named at word next o)
    told o (NoName none) = Nameless d wants none
    told o (OneName blanks name rest has) = with_name blanks name rest has

continues : (at : Place) (offset : ℕ) (word : List ℕ) (st : State) (text blanks name rest : List ℕ) → HasName text blanks name rest
    → Obeys at offset word st text directive.Elsif (elsif_name at word st (name, length blanks + length name))
continues at offset word st text blanks name rest has = told (continued (is_some (st.table name)) false st.nest) refl
  where
    told : (o : Option (List Conditional)) → continued (is_some (st.table name)) false st.nest ≡ o
        → Obeys at offset word st text directive.Elsif (nest_or_bad at word st (length blanks + length name) o)
    told None e = CannotContinue blanks name rest has e
    told (Some nest) e = Continues blanks name rest nest has e

turns : (at : Place) (offset : ℕ) (word : List ℕ) (st : State) (text : List ℕ) (o : Option (List Conditional)) → continued true true st.nest ≡ o
    → Obeys at offset word st text directive.Else (nest_or_bad at word st 0 o)
turns at offset word st text None e = CannotTurn e
turns at offset word st text (Some nest) e = Turns nest e

ends : (at : Place) (offset : ℕ) (word : List ℕ) (st : State) (text : List ℕ) (o : Option (List Conditional)) → closed st.nest ≡ o
    → Obeys at offset word st text directive.Endif (nest_or_bad at word st 0 o)
ends at offset word st text None e = CannotClose e
ends at offset word st text (Some nest) e = Closes nest e

skips_line : (at : Place) (offset : ℕ) (word : List ℕ) (st : State) (text : List ℕ)
    → Obeys at offset word st text directive.RestOfLine (Ok (st, prefix_len not_newline text))
skips_line at offset word st text =
    let n : ℕ = prefix_len not_newline text in
    subst (λ k. Obeys at offset word st text directive.RestOfLine (Ok (st, k))) (length-prefix_len not_newline text)
    (SkipsLine (take n text) (drop n text) (sym (take-append-drop n text)) (front_all not_newline text) (front_stops not_newline text))

uses : (at : Place) (offset : ℕ) (word : List ℕ) (st : State) (text : List ℕ) → Obeys at offset word st text directive.Use (use_macro at word st)
uses at offset word st text = told (expanded (used_at at st) word st.out) (whole_use (used_at at st) word st.out)
  where
    told : (r : Result Output TextFault) → Expands (used_at at st) [] st.out (Use word ∷ []) r
        → Obeys at offset word st text directive.Use (r >>= λ out. Ok (with_out st out, 0))
    told (Ok out) gives = Uses out gives
    told (Err e) gives = CannotUse e gives

obeys : (at : Place) (offset : ℕ) (word : List ℕ) (st : State) (text : List ℕ) (d : Directive)
    → Obeys at offset word st text d (directive_at at offset word st text d)
obeys at offset word st text directive.Define =
    by_name at offset word st text directive.Define (define_name at offset word st text) refl
    (λ blanks name rest has. defines at offset word st text blanks name rest has)
obeys at offset word st text directive.Undef =
    by_name at offset word st text directive.Undef (undef_name st) refl (λ blanks name rest has. Undefines blanks name rest has)
obeys at offset word st text directive.Ifdef =
    by_name at offset word st text directive.Ifdef (ifdef_name at false st) refl (λ blanks name rest has. Opens blanks name rest has)
obeys at offset word st text directive.Ifndef =
    by_name at offset word st text directive.Ifndef (ifdef_name at true st) refl (λ blanks name rest has. OpensNegated blanks name rest has)
obeys at offset word st text directive.Elsif =
    by_name at offset word st text directive.Elsif (elsif_name at word st) refl
    (λ blanks name rest has. continues at offset word st text blanks name rest has)
obeys at offset word st text directive.Else = turns at offset word st text (continued true true st.nest) refl
obeys at offset word st text directive.Endif = ends at offset word st text (closed st.nest) refl
obeys at offset word st text directive.RestOfLine = skips_line at offset word st text
obeys at offset word st text directive.NoEffect = Ignored
obeys at offset word st text directive.Use = uses at offset word st text

pub whole_directive : (at : Place) (offset : ℕ) (word : List ℕ) (st : State) (text : List ℕ)
    → Carries at offset word st text (directive_read at offset word st text)
unfolding directive_read
whole_directive at offset word st text = told (is_read st.nest || is_conditional (directive_of word)) refl
  where
    told : (t : Bool) → (is_read st.nest || is_conditional (directive_of word)) ≡ t
        → Carries at offset word st text (cond t (directive_at at offset word st text (directive_of word)) (Ok (st, 0)))
    told true e = Obeyed (directive_at at offset word st text (directive_of word)) e (obeys at offset word st text (directive_of word))
    told false e =
        let both : (is_read st.nest ≡ false) × (is_conditional (directive_of word) ≡ false) =
        or_parts (is_read st.nest) (is_conditional (directive_of word)) e in
        Skips both.0 both.1

-- ---- and nothing else is

nameless_is : (at : Place) (offset : ℕ) (word : List ℕ) (st : State) (text : List ℕ) (d : Directive)
    → wants_name d ≡ true → name_at text ≡ None → bad at word ≡ directive_at at offset word st text d
nameless_is at offset word st text directive.Define wants none = sym (ap (named at word (define_name at offset word st text)) none)
nameless_is at offset word st text directive.Undef wants none = sym (ap (named at word (undef_name st)) none)
nameless_is at offset word st text directive.Ifdef wants none = sym (ap (named at word (ifdef_name at false st)) none)
nameless_is at offset word st text directive.Ifndef wants none = sym (ap (named at word (ifdef_name at true st)) none)
nameless_is at offset word st text directive.Elsif wants none = sym (ap (named at word (elsif_name at word st)) none)
nameless_is at offset word st text directive.Else wants none = absurd (true≢false (sym wants))
nameless_is at offset word st text directive.Endif wants none = absurd (true≢false (sym wants))
nameless_is at offset word st text directive.RestOfLine wants none = absurd (true≢false (sym wants))
nameless_is at offset word st text directive.NoEffect wants none = absurd (true≢false (sym wants))
nameless_is at offset word st text directive.Use wants none = absurd (true≢false (sym wants))

defined_is : (at : Place) (offset : ℕ) (word : List ℕ) (st : State) (text blanks name rest : List ℕ) (parts : List Part) (n : ℕ)
    → HasName text blanks name rest → is_definable name rest ≡ true → Body at.file (offset + (length blanks + length name)) rest parts n
    → define_name at offset word st text (name, length blanks + length name) ≡ Ok (with_body name parts st, length blanks + length name + n)
defined_is at offset word st text blanks name rest parts n has free body =
    let is : (parts ≡ body_parts at.file (offset + (length blanks + length name)) rest) × (n ≡ body_len rest) =
    only_body at.file (offset + (length blanks + length name)) rest parts n body in
    define_is at offset word st text blanks name rest has
    ∙ ap (λ t. defined_if at offset word st name (length blanks + length name) rest (not t)) free
    ∙ ap (λ ps. Ok (with_body name ps st, length blanks + length name + body_len rest)) (sym is.0)
    ∙ ap (λ k. Ok (with_body name parts st, length blanks + length name + k)) (sym is.1)

obeyed_is : (at : Place) (offset : ℕ) (word : List ℕ) (st : State) (text : List ℕ) (d : Directive) (r : Read)
    → Obeys at offset word st text d r → r ≡ directive_at at offset word st text d
obeyed_is at offset word st text d r (Nameless x wants none) = nameless_is at offset word st text x wants (no_name_is text none)
obeyed_is at offset word st text d r (Defines blanks name rest parts n has free body) =
    sym (ap (named at word (define_name at offset word st text)) (name_is text blanks name rest has)
    ∙ defined_is at offset word st text blanks name rest parts n has free body)
obeyed_is at offset word st text d r (Undefinable blanks name rest has taken) =
    sym (ap (named at word (define_name at offset word st text)) (name_is text blanks name rest has)
    ∙ define_is at offset word st text blanks name rest has
    ∙ ap (λ t. defined_if at offset word st name (length blanks + length name) rest (not t)) taken)
obeyed_is at offset word st text d r (Undefines blanks name rest has) =
    sym (ap (named at word (undef_name st)) (name_is text blanks name rest has))
obeyed_is at offset word st text d r (Opens blanks name rest has) =
    sym (ap (named at word (ifdef_name at false st)) (name_is text blanks name rest has))
obeyed_is at offset word st text d r (OpensNegated blanks name rest has) =
    sym (ap (named at word (ifdef_name at true st)) (name_is text blanks name rest has))
obeyed_is at offset word st text d r (Continues blanks name rest nest has is) =
    sym (ap (named at word (elsif_name at word st)) (name_is text blanks name rest has) ∙ ap (nest_or_bad at word st (length blanks + length name)) is)
obeyed_is at offset word st text d r (CannotContinue blanks name rest has is) =
    sym (ap (named at word (elsif_name at word st)) (name_is text blanks name rest has) ∙ ap (nest_or_bad at word st (length blanks + length name)) is)
obeyed_is at offset word st text d r (Turns nest is) = sym (ap (nest_or_bad at word st 0) is)
obeyed_is at offset word st text d r (CannotTurn is) = sym (ap (nest_or_bad at word st 0) is)
obeyed_is at offset word st text d r (Closes nest is) = sym (ap (nest_or_bad at word st 0) is)
obeyed_is at offset word st text d r (CannotClose is) = sym (ap (nest_or_bad at word st 0) is)
obeyed_is at offset word st text d r (SkipsLine line rest is all stops) =
    sym (ap (λ n. Ok (st, n)) (ap (prefix_len not_newline) is ∙ front_is not_newline line rest all stops))
obeyed_is at offset word st text d r Ignored = refl
obeyed_is at offset word st text d r (Uses out gives) =
    ap (λ x. x >>= λ out. Ok (with_out st out, 0)) (only_use (used_at at st) word st.out (Ok out) gives)
obeyed_is at offset word st text d r (CannotUse e gives) =
    ap (λ x. x >>= λ out. Ok (with_out st out, 0)) (only_use (used_at at st) word st.out (Err e) gives)

pub only_directive : (at : Place) (offset : ℕ) (word : List ℕ) (st : State) (text : List ℕ) (r : Read) → Carries at offset word st text r
    → r ≡ directive_read at offset word st text
unfolding directive_read
only_directive at offset word st text r (Skips shut plain) =
    sym (ap (λ t. cond (t || is_conditional (directive_of word)) (directive_at at offset word st text (directive_of word)) (Ok (st, 0))) shut
    ∙ ap (λ t. cond t (directive_at at offset word st text (directive_of word)) (Ok (st, 0))) plain)
only_directive at offset word st text r (Obeyed x read does) =
    obeyed_is at offset word st text (directive_of word) x does
    ∙ sym (ap (λ t. cond t (directive_at at offset word st text (directive_of word)) (Ok (st, 0))) read)
