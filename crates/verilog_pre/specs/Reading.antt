-- The pieces of files (IEEE 1364-2005, clause 19), or the first fault.
use Rattle.std.specs.Prelude.{ℕ, zero, suc, ◌+◌, ◌-◌, Bool, true, false, ◌||◌, ◌==◌, not, nat_lt, if◌then◌else◌, List, [], ◌∷◌, ◌++◌, length, take, drop, slice_index, slice_get, codes, Option, Some, None, is_some, Result, Ok, Err}
use Rattle.std.specs.List.{prefix_len}
use Rattle.ls_text.specs.declared.place.Place.{Place}
use Rattle.ls_text.specs.declared.source_file.SourceFile.{SourceFile}
use Rattle.ls_text.specs.Readings.{TextFault, fault_at, ◌>>=◌}
use Rattle.ls_text.specs.Places.{step, place_after, file_start}
use Rattle.verilog_pre.specs.declared.directive.Directive.{Directive}
use Rattle.verilog_pre.specs.declared.directive.Directive.TheVariants as directive
use Rattle.verilog_pre.specs.declared.conditional.Conditional.{Conditional}
use Rattle.verilog_pre.specs.Parts.{Part}
use Rattle.ls_text.specs.declared.piece.Piece.{Piece}
use Rattle.verilog_pre.specs.Bodies.{body_parts, body_len}
use Rattle.verilog_pre.specs.Conditionals.{is_read, opened, continued, closed}
use Rattle.verilog_pre.specs.Directives.{directive_of, is_conditional, is_use, name_at}
use Rattle.verilog_pre.specs.Expansions.{Output, emitted, expanded}
use Rattle.verilog_pre.specs.Heads.{head_of, stays_open}
use Rattle.verilog_pre.specs.declared.head.Head.{Head}
use Rattle.verilog_pre.specs.declared.head.Head.TheVariants as head
use Rattle.verilog_pre.specs.States.{State}
use Rattle.verilog_pre.specs.Tables.{Table, with_macro, no_macros}

abbrev pub bad : {A : Type 0} → Place → List ℕ → Result A TextFault
bad at word = Err (fault_at 12 at (word ∷ []))

abbrev pub with_nest : State → List Conditional → State
with_nest st nest = record { table = st.table; parts = st.parts; count = st.count; out = st.out; nest = nest }

abbrev pub with_table : State → Table → State
with_table st table = record { table = table; parts = st.parts; count = st.count; out = st.out; nest = st.nest }

abbrev pub with_out : State → Output → State
with_out st out = record { table = st.table; parts = st.parts; count = st.count; out = out; nest = st.nest }

-- one more macro, whose body has these parts
abbrev pub with_body : List ℕ → List Part → State → State
with_body name parts st = record {
  table = with_macro name (Some (record { number = st.count; first = length st.parts; last = length (st.parts ++ parts) })) st.table;
  parts = st.parts ++ parts;
  count = st.count + 1;
  out = st.out;
  nest = st.nest;
}

-- A directive's reading is the state behind it, and how many bytes it has behind its word.
abbrev pub Read : Type 0
Read = Result (State × ℕ) TextFault

-- a directive that wants a name
abbrev pub named : Place → List ℕ → (List ℕ × ℕ → Read) → Option (List ℕ × ℕ) → Read
named at word next None = bad at word
named at word next (Some n) = next n

-- no macro has arguments or the name of a directive (19.3.1)
unfoldable pub define_name : Place → ℕ → List ℕ → State → List ℕ → List ℕ × ℕ → Read
define_name at offset word st rest n =
    if (slice_index (drop n.1 rest) 0 == 40) || not (is_use (directive_of n.0)) then bad at word
    else Ok (with_body n.0 (body_parts at.file (offset + n.1) (drop n.1 rest)) st, n.1 + body_len (drop n.1 rest))

-- an undef forgets the macro of that name (19.3.2)
abbrev pub undef_name : State → List ℕ × ℕ → Read
undef_name st n = Ok (with_table st (with_macro n.0 None st.table), n.1)

abbrev pub holds_if : Bool → Bool → Bool
holds_if negated known = if negated then not known else known

abbrev pub ifdef_name : Place → Bool → State → List ℕ × ℕ → Read
ifdef_name at negated st n = Ok (with_nest st (opened at negated (holds_if negated (is_some (st.table n.0))) st.nest), n.1)

-- a branch or an end of a conditional that isn't there is refused (19.4)
abbrev pub nest_or_bad : Place → List ℕ → State → ℕ → Option (List Conditional) → Read
nest_or_bad at word st n None = bad at word
nest_or_bad at word st n (Some nest) = Ok (with_nest st nest, n)

abbrev pub elsif_name : Place → List ℕ → State → List ℕ × ℕ → Read
elsif_name at word st n = nest_or_bad at word st n.1 (continued (is_some (st.table n.0)) false st.nest)

abbrev pub use_macro : Place → List ℕ → State → Read
use_macro at word st =
    expanded (record { table = st.table; parts = st.parts; at = at }) word st.out >>= λ out. Ok (with_out st out, 0)

abbrev pub directive_at : Place → ℕ → List ℕ → State → List ℕ → Directive → Read
directive_at at offset word st rest directive.Define = named at word (define_name at offset word st rest) (name_at rest)
directive_at at offset word st rest directive.Undef = named at word (undef_name st) (name_at rest)
directive_at at offset word st rest directive.Ifdef = named at word (ifdef_name at false st) (name_at rest)
directive_at at offset word st rest directive.Ifndef = named at word (ifdef_name at true st) (name_at rest)
directive_at at offset word st rest directive.Elsif = named at word (elsif_name at word st) (name_at rest)
directive_at at offset word st rest directive.Else = nest_or_bad at word st 0 (continued true true st.nest)
directive_at at offset word st rest directive.Endif = nest_or_bad at word st 0 (closed st.nest)
directive_at at offset word st rest directive.RestOfLine = Ok (st, prefix_len (λ b. not (b == 10)) rest)
directive_at at offset word st rest directive.NoEffect = Ok (st, 0)
directive_at at offset word st rest directive.Use = use_macro at word st

-- skipped text is read for the five directives of conditionals alone
unfoldable pub directive_read : Place → ℕ → List ℕ → State → List ℕ → Read
directive_read at offset word st rest =
    if is_read st.nest || is_conditional (directive_of word) then directive_at at offset word st rest (directive_of word) else Ok (st, 0)

-- the place of the first byte that would pass the limit, where one of n bytes does
abbrev pub full_place : ℕ → ℕ → Place → List ℕ → Place
full_place bytes n at text = if nat_lt bytes n then place_after at (take bytes text) else at

-- a run of bytes is a piece; 10 at the first byte that would pass the limit
unfoldable pub run_read : Place → ℕ → State → List ℕ → ℕ → Read
run_read at offset st text n =
    if is_read st.nest then
    (emitted (full_place st.out.bytes n at text) (record { file = at.file; start = offset; end = offset + n; at = at; fixed = false }) n st.out
    >>= λ out. Ok (with_out st out, n))
    else Ok (st, n)

abbrev pub behind_word : List ℕ → Read → Read
behind_word word read = read >>= λ t. Ok (t.0, 1 + length word + t.1)

-- a backquote and a word of n bytes
unfoldable pub word_read : Place → ℕ → State → List ℕ → ℕ → Read
word_read at offset st text n =
    let word = take n (drop 1 text) in
    behind_word word (directive_read at (offset + 1 + n) word st (drop n (drop 1 text)))

abbrev pub head_at : Place → ℕ → State → List ℕ → Head → Read
head_at at offset st text (head.Comment n) = Ok (st, n)
head_at at offset st text head.OpenComment = Err (fault_at 12 at [])
head_at at offset st text (head.Word n) = word_read at offset st text n
head_at at offset st text (head.Run n) = run_read at offset st text n

abbrev pub opening_word : Bool → List ℕ
opening_word negated = if negated then codes "ifndef" else codes "ifdef"

-- a conditional that its file leaves open is refused at its opening (19.4)
abbrev pub left_open : Conditional → TextFault
left_open c = fault_at 12 c.at (opening_word c.negated ∷ [])

-- the earlier of a fault and the opening of the outermost conditional around it, which may stay open
abbrev pub earlier : Option Conditional → Bool → TextFault → TextFault
earlier None stays e = e
earlier (Some outer) stays e = if stays then left_open outer else e

abbrev pub first_fault : List Conditional → List ℕ → Read → Read
first_fault nest text (Ok t) = Ok t
first_fault nest text (Err e) = Err (earlier (slice_get nest 0) (stays_open (length nest) text) e)

-- what begins a text that isn't empty, and how many bytes it has
unfoldable pub turn : Place → ℕ → State → List ℕ → Read
turn at offset st text = first_fault st.nest text (head_at at offset st text (head_of text))

-- a text, of which the first so many bytes are read
abbrev pub text_from : Place → ℕ → State → ℕ → List ℕ → Result State TextFault
text_from at offset st skip [] = Ok st
text_from at offset st (suc k) (b ∷ bs) = text_from (step at b) (offset + 1) st k bs
text_from at offset st zero (b ∷ bs) =
    turn at offset st (b ∷ bs) >>= λ t. text_from (step at b) (offset + 1) t.0 (t.1 - 1) bs

unfoldable pub text_read : Place → ℕ → State → List ℕ → Result State TextFault
text_read at offset st text = text_from at offset st 0 text

-- a conditional that is open at its file's end is refused, the outermost first
abbrev pub ended : State → Option Conditional → Result State TextFault
ended st None = Ok st
ended st (Some c) = Err (left_open c)

unfoldable pub file_read : ℕ → State → List ℕ → Result State TextFault
file_read file st text =
    text_read (file_start file) 0 st text >>= λ st. ended st (slice_get st.nest 0)

-- macros carry over from file to file
abbrev pub files_from : ℕ → State → List SourceFile → Result State TextFault
files_from file st [] = Ok st
files_from file st (f ∷ fs) = file_read file st f.text >>= λ st. files_from (file + 1) st fs

abbrev pub no_pieces : Output
no_pieces = record { uses = 1048576; bytes = 16777216; pieces = [] }

abbrev pub at_first : State
at_first = record { table = no_macros; parts = []; count = 0; out = no_pieces; nest = [] }

unfoldable pub pieces : List SourceFile → Result (List Piece) TextFault
pieces files = files_from 0 at_first files >>= λ st. Ok st.out.pieces
