-- What belongs to a directive lies within the text.
use Rattle.std.proofs.Common.{◌≡◌, ℕ, zero, suc, ◌+◌, ◌-◌, ◌≤◌, ◌==◌, ◌&&◌, ◌||◌, not, Bool, true, false, cond, List, [], ◌∷◌, length, take, drop, Option, Some, None, Result, Ok, Err, refl, subst, arith, true≢false}
use Rattle.std.specs.Prelude.{slice_index, is_some}
use Rattle.std.specs.List.{prefix_len}
use Rattle.std.proofs.lemmas.List.{length-drop}
use Rattle.std.proofs.lemmas.List.Sums.{prefix_len-le-length}
use Rattle.ls_text.specs.declared.place.Place.{Place}
use Rattle.ls_text.specs.Bytes.{is_letter, is_word_byte, is_blank}
use Rattle.ls_text.specs.Readings.{TextFault, ◌>>=◌}
use Rattle.verilog_pre.specs.declared.body_cut.BodyCut.{BodyCut}
use Rattle.verilog_pre.specs.declared.conditional.Conditional.{Conditional}
use Rattle.verilog_pre.specs.declared.directive.Directive.{Directive}
use Rattle.verilog_pre.specs.declared.directive.Directive.TheVariants as directive
use Rattle.verilog_pre.specs.Bodies.{body_cut, cut_len, goes_on, comment_or, comment_len, body_from, body_parts, body_len, trimmed_len}
use Rattle.verilog_pre.specs.Conditionals.{is_read, continued, closed}
use Rattle.verilog_pre.specs.Directives.{directive_of, is_conditional, is_use, name_at}
use Rattle.verilog_pre.specs.Expansions.{Output, expanded}
use Rattle.verilog_pre.specs.Reading.{Read, bad, named, define_name, nest_or_bad, directive_at, directive_read, with_body, with_out}
use Rattle.verilog_pre.specs.States.{State}

-- ---- the body of a macro

abbrev EndsWithin : List ℕ → BodyCut → Type 0
EndsWithin text c = goes_on c ≡ false → cut_len c ≤ length text

either : (text : List ℕ) (t : Bool) (c d : BodyCut) → EndsWithin text c → EndsWithin text d → EndsWithin text (cond t c d)
either text true c d h k = h
either text false c d h k = k

comment_goes : (text inside : List ℕ) (o : Option ℕ) → EndsWithin text (comment_or inside o)
comment_goes text inside None off = absurd (true≢false off)
comment_goes text inside (Some n) off = absurd (true≢false off)

last_within : (text : List ℕ) → EndsWithin text (body_cut text)
unfolding body_cut
last_within text =
    either text (slice_index text 0 == 10) _ _ (λ off. omega arith)
    (either text ((slice_index text 0 == 92) && (slice_index text 1 == 10)) _ _ (λ off. absurd (true≢false off))
    (either text ((slice_index text 0 == 47) && (slice_index text 1 == 47)) _ _ (λ off. prefix_len-le-length (λ c. not (c == 10)) text)
    (either text ((slice_index text 0 == 47) && (slice_index text 1 == 42)) _ _ (comment_goes text (drop 2 text) (comment_len 0 0 (drop 2 text)))
    (either text ((slice_index text 0 == 96) && is_letter (slice_index text 1)) _ _ (λ off. absurd (true≢false off)) (λ off. absurd (true≢false off))))))

from_within : (skip : ℕ) (bs : List ℕ) → body_from skip bs ≤ length bs
from_within skip [] = omega arith
from_within (suc k) (b ∷ bs) = let more : body_from k bs ≤ length bs = from_within k bs in omega (arith, more)
from_within zero (b ∷ bs) = at (goes_on (body_cut (b ∷ bs))) refl (from_within (cut_len (body_cut (b ∷ bs)) - 1) bs)
  where
    at : (t : Bool) → goes_on (body_cut (b ∷ bs)) ≡ t → body_from (cut_len (body_cut (b ∷ bs)) - 1) bs ≤ length bs
        → cond t (1 + body_from (cut_len (body_cut (b ∷ bs)) - 1) bs) (cut_len (body_cut (b ∷ bs))) ≤ length (b ∷ bs)
    at true e more = omega (arith, more)
    at false e more = last_within (b ∷ bs) e

body_within : (text : List ℕ) → body_len text ≤ length text
unfolding body_len trimmed_len
body_within text =
    let blank : ℕ = prefix_len is_blank text in
    let first : blank ≤ length text = prefix_len-le-length is_blank text in
    let behind : body_from 0 (drop blank text) ≤ length (drop blank text) = from_within 0 (drop blank text) in
    let left : length (drop blank text) ≡ length text - blank = length-drop blank text in
    omega (arith, first, behind, left)

-- ---- the name behind a directive

abbrev NameWithin : List ℕ → Option (List ℕ × ℕ) → Type 0
NameWithin rest None = Unit {0}
NameWithin rest (Some n) = n.1 ≤ length rest

name_within : (rest : List ℕ) → NameWithin rest (name_at rest)
unfolding name_at
name_within rest =
    let blank : ℕ = prefix_len is_blank rest in
    let n : ℕ = prefix_len is_word_byte (drop blank rest) in
    at (is_letter (slice_index (drop blank rest) 0)) (take n (drop blank rest)) (blank + n)
    (let first : blank ≤ length rest = prefix_len-le-length is_blank rest in
    let second : n ≤ length (drop blank rest) = prefix_len-le-length is_word_byte (drop blank rest) in
    let left : length (drop blank rest) ≡ length rest - blank = length-drop blank rest in
    omega (arith, first, second, left))
  where
    at : (t : Bool) (name : List ℕ) (k : ℕ) → k ≤ length rest → NameWithin rest (cond t (Some (name, k)) None)
    at true name k h = h
    at false name k h = tt

-- ---- a directive

-- a reading goes no further than this
abbrev ReadWithin : ℕ → Read → Type 0
ReadWithin n (Ok t) = t.1 ≤ n
ReadWithin n (Err e) = Unit {0}

named_within : (at : Place) (word rest : List ℕ) (next : List ℕ × ℕ → Read) (o : Option (List ℕ × ℕ)) → NameWithin rest o
    → ((n : List ℕ × ℕ) → n.1 ≤ length rest → ReadWithin (length rest) (next n)) → ReadWithin (length rest) (named at word next o)
named_within at word rest next None within more = tt
named_within at word rest next (Some n) within more = more n within

define_within : (at : Place) (offset : ℕ) (word : List ℕ) (st : State) (rest : List ℕ) (n : List ℕ × ℕ) → n.1 ≤ length rest
    → ReadWithin (length rest) (define_name at offset word st rest n)
unfolding define_name
define_within at offset word st rest n within = told ((slice_index (drop n.1 rest) 0 == 40) || not (is_use (directive_of n.0)))
  where
    told : (t : Bool) → ReadWithin (length rest)
        (cond t (bad at word) (Ok (with_body n.0 (body_parts at.file (offset + n.1) (drop n.1 rest)) st, n.1 + body_len (drop n.1 rest))))
    told true = tt
    told false =
        let body : body_len (drop n.1 rest) ≤ length (drop n.1 rest) = body_within (drop n.1 rest) in
        let left : length (drop n.1 rest) ≡ length rest - n.1 = length-drop n.1 rest in
        omega (arith, within, body, left)

nest_within : (at : Place) (word : List ℕ) (st : State) (n k : ℕ) (o : Option (List Conditional)) → n ≤ k → ReadWithin k (nest_or_bad at word st n o)
nest_within at word st n k None within = tt
nest_within at word st n k (Some nest) within = within

use_within : (st : State) (k : ℕ) (r : Result Output TextFault) → ReadWithin k (r >>= λ out. Ok (with_out st out, 0))
use_within st k (Ok out) = omega arith
use_within st k (Err e) = tt

at_within : (at : Place) (offset : ℕ) (word : List ℕ) (st : State) (rest : List ℕ) (d : Directive)
    → ReadWithin (length rest) (directive_at at offset word st rest d)
at_within at offset word st rest directive.Define = named_within at word rest _ (name_at rest) (name_within rest) (define_within at offset word st rest)
at_within at offset word st rest directive.Undef = named_within at word rest _ (name_at rest) (name_within rest) (λ n within. within)
at_within at offset word st rest directive.Ifdef = named_within at word rest _ (name_at rest) (name_within rest) (λ n within. within)
at_within at offset word st rest directive.Ifndef = named_within at word rest _ (name_at rest) (name_within rest) (λ n within. within)
at_within at offset word st rest directive.Elsif =
    named_within at word rest _ (name_at rest) (name_within rest) (λ n within. nest_within at word st n.1 (length rest) (continued (is_some (st.table n.0)) false st.nest) within)
at_within at offset word st rest directive.Else = nest_within at word st 0 (length rest) (continued true true st.nest) (omega arith)
at_within at offset word st rest directive.Endif = nest_within at word st 0 (length rest) (closed st.nest) (omega arith)
at_within at offset word st rest directive.RestOfLine = prefix_len-le-length (λ b. not (b == 10)) rest
at_within at offset word st rest directive.NoEffect = omega arith
at_within at offset word st rest directive.Use =
    use_within st (length rest) (expanded (record { table = st.table; parts = st.parts; at = at }) word st.out)

read_within : (at : Place) (offset : ℕ) (word : List ℕ) (st : State) (rest : List ℕ)
    → ReadWithin (length rest) (directive_read at offset word st rest)
unfolding directive_read
read_within at offset word st rest = told (is_read st.nest || is_conditional (directive_of word))
  where
    told : (t : Bool) → ReadWithin (length rest) (cond t (directive_at at offset word st rest (directive_of word)) (Ok (st, 0)))
    told true = at_within at offset word st rest (directive_of word)
    told false = omega arith

pub directive_within : (at : Place) (offset : ℕ) (word : List ℕ) (st : State) (rest : List ℕ) (t : State × ℕ)
    → directive_read at offset word st rest ≡ Ok t → t.1 ≤ length rest
directive_within at offset word st rest t is = subst (ReadWithin (length rest)) is (read_within at offset word st rest)
