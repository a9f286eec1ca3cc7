-- What a directive does (IEEE 1364-2005, clause 19), by the bytes behind its word: the state behind it, and how many of these
-- bytes belong to it, or its fault.
use Rattle.std.specs.Prelude.{◌≡◌, ℕ, ◌+◌, Bool, true, false, not, ◌&&◌, ◌||◌, ◌==◌, List, [], ◌∷◌, ◌++◌, length, Some, None, is_some, Ok, Err}
use Rattle.ls_text.specs.declared.place.Place.{Place}
use Rattle.ls_text.specs.Bytes.{is_letter, is_blank}
use Rattle.ls_text.specs.Readings.{TextFault}
use Rattle.verilog_pre.specs.declared.conditional.Conditional.{Conditional}
use Rattle.verilog_pre.specs.declared.directive.Directive.{Directive}
use Rattle.verilog_pre.specs.declared.directive.Directive.TheVariants as directive
use Rattle.verilog_pre.specs.BodyStretches.{Body}
use Rattle.verilog_pre.specs.Conditionals.{is_read, opened, continued, closed}
use Rattle.verilog_pre.specs.Directives.{directive_of, is_conditional, is_use}
use Rattle.verilog_pre.specs.Expansions.{Output, Context}
use Rattle.verilog_pre.specs.Parts.{Part, Use}
use Rattle.verilog_pre.specs.Reading.{Read, bad, with_nest, with_table, with_out, with_body}
use Rattle.verilog_pre.specs.States.{State}
use Rattle.verilog_pre.specs.Shapes.{AllAre, StopsAt, IsWord}
use Rattle.verilog_pre.specs.Tables.{with_macro}
use Rattle.verilog_pre.specs.Uses.{Expands}

-- a name (clause 3.7) behind blanks on the directive's line
pub record HasName (text blanks name rest : List ℕ) : Type 0 where
  pub is : text ≡ blanks ++ (name ++ rest)
  pub blank : AllAre is_blank blanks
  pub word : IsWord name rest

-- behind the blanks no name begins, or the text ends
pub record HasNoName (text : List ℕ) : Type 0 where
  pub blanks : List ℕ
  pub rest : List ℕ
  pub is : text ≡ blanks ++ rest
  pub blank : AllAre is_blank blanks
  pub ends : StopsAt is_blank rest
  pub none : StopsAt is_letter rest

-- the directives that want a name
abbrev pub wants_name : Directive → Bool
wants_name directive.Define = true
wants_name directive.Undef = true
wants_name directive.Ifdef = true
wants_name directive.Ifndef = true
wants_name directive.Elsif = true
wants_name directive.Else = false
wants_name directive.Endif = false
wants_name directive.RestOfLine = false
wants_name directive.NoEffect = false
wants_name directive.Use = false

-- a `(` right behind the name of a macro begins its arguments
abbrev pub begins_arguments : List ℕ → Bool
begins_arguments [] = false
begins_arguments (b ∷ bs) = b == 40

-- no macro has arguments or the name of a directive
abbrev pub is_definable : List ℕ → List ℕ → Bool
is_definable name rest = not (begins_arguments rest) && is_use (directive_of name)

-- what the uses at a place rest on
abbrev pub used_at : Place → State → Context
used_at at st = record { table = st.table; parts = st.parts; at = at }

-- What a directive does at a place, where `text` stands behind its word from an offset on.
pub data Obeys (at : Place) (offset : ℕ) (word : List ℕ) (st : State) (text : List ℕ) : Directive → Read → Type 0 where
  -- the name that a directive wants isn't on its line
  Nameless : (d : Directive)
      → wants_name d ≡ true
      → HasNoName text
      → Obeys at offset word st text d (bad at word)
  -- clause 19.3.1, `define`: the macro's body is what stands behind its name on the line, and on the lines that
  -- continue it
  Defines : (blanks name rest : List ℕ) (parts : List Part) (n : ℕ)
      → HasName text blanks name rest
      → is_definable name rest ≡ true
      → Body at.file (offset + (length blanks + length name)) rest parts n
      → Obeys at offset word st text directive.Define (Ok (with_body name parts st, length blanks + length name + n))
  -- with arguments, or of a directive's name
  Undefinable : (blanks name rest : List ℕ)
      → HasName text blanks name rest
      → is_definable name rest ≡ false
      → Obeys at offset word st text directive.Define (bad at word)
  -- clause 19.3.2, `undef`: the name has no macro any more
  Undefines : (blanks name rest : List ℕ) → HasName text blanks name rest
      → Obeys at offset word st text directive.Undef (Ok (with_table st (with_macro name None st.table), length blanks + length name))
  -- clause 19.4, `ifdef` and `ifndef`: a conditional whose first branch holds where the name has a macro, or where it has none
  Opens : (blanks name rest : List ℕ)
      → HasName text blanks name rest
      → Obeys at offset word st text directive.Ifdef
      (Ok (with_nest st (opened at false (is_some (st.table name)) st.nest), length blanks + length name))
  OpensNegated : (blanks name rest : List ℕ)
      → HasName text blanks name rest
      → Obeys at offset word st text directive.Ifndef
      (Ok (with_nest st (opened at true (not (is_some (st.table name))) st.nest), length blanks + length name))
  -- clause 19.4, `elsif`: the innermost conditional's next branch, which holds where the name has a macro
  Continues : (blanks name rest : List ℕ) (nest : List Conditional)
      → HasName text blanks name rest
      → continued (is_some (st.table name)) false st.nest ≡ Some nest
      → Obeys at offset word st text directive.Elsif (Ok (with_nest st nest, length blanks + length name))
  -- no conditional is open, or the innermost has had its `else`
  CannotContinue : (blanks name rest : List ℕ)
      → HasName text blanks name rest
      → continued (is_some (st.table name)) false st.nest ≡ None
      → Obeys at offset word st text directive.Elsif (bad at word)
  -- clause 19.4, `else`: the innermost conditional's last branch
  Turns : (nest : List Conditional) → continued true true st.nest ≡ Some nest
      → Obeys at offset word st text directive.Else (Ok (with_nest st nest, 0))
  -- no conditional is open, or the innermost has had its `else`
  CannotTurn : continued true true st.nest ≡ None → Obeys at offset word st text directive.Else (bad at word)
  -- clause 19.4, `endif`: the innermost conditional's end
  Closes : (nest : List Conditional) → closed st.nest ≡ Some nest → Obeys at offset word st text directive.Endif (Ok (with_nest st nest, 0))
  -- no conditional is open
  CannotClose : closed st.nest ≡ None → Obeys at offset word st text directive.Endif (bad at word)
  -- clauses 19.2 and 19.8, `default_nettype` and `timescale`: what they set, up to the end of the line, says nothing here
  SkipsLine : (line rest : List ℕ)
      → text ≡ line ++ rest
      → AllAre (λ b. not (b == 10)) line
      → StopsAt (λ b. not (b == 10)) rest
      → Obeys at offset word st text directive.RestOfLine (Ok (st, length line))
  -- clause 19.1, `celldefine` and `endcelldefine`: a mark that says nothing here
  Ignored : Obeys at offset word st text directive.NoEffect (Ok (st, 0))
  -- clause 19.3.1, any other word: the use of its macro
  Uses : (out : Output) → Expands (used_at at st) [] st.out (Use word ∷ []) (Ok out)
      → Obeys at offset word st text directive.Use (Ok (with_out st out, 0))
  -- the use's first fault
  CannotUse : (e : TextFault) → Expands (used_at at st) [] st.out (Use word ∷ []) (Err e) → Obeys at offset word st text directive.Use (Err e)

-- What a word behind a backquote does where it stands: skipped text is read for the five directives of conditionals alone
-- (clause 19.4).
pub data Carries (at : Place) (offset : ℕ) (word : List ℕ) (st : State) (text : List ℕ) : Read → Type 0 where
  Skips : is_read st.nest ≡ false
      → is_conditional (directive_of word) ≡ false
      → Carries at offset word st text (Ok (st, 0))
  Obeyed : (r : Read)
      → (is_read st.nest || is_conditional (directive_of word)) ≡ true
      → Obeys at offset word st text (directive_of word) r
      → Carries at offset word st text r
