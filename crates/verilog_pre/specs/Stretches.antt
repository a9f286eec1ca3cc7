-- What stands in the text of a file, stretch by stretch: comments (IEEE 1364-2005, clause 3.3), directives (clause 19), and
-- the longest runs of other bytes between them.
use Rattle.std.specs.Prelude.{◌≡◌, ◌<◌, ◌≤◌, ℕ, ◌+◌, ◌-◌, false, true, List, [], ◌∷◌, ◌++◌, length, take, Result, Ok, Err}
use Rattle.ls_text.specs.declared.place.Place.{Place}
use Rattle.ls_text.specs.Readings.{TextFault, fault_at}
use Rattle.ls_text.specs.Places.{place_after}
use Rattle.verilog_pre.specs.declared.conditional.Conditional.{Conditional}
use Rattle.verilog_pre.specs.Conditionals.{is_read}
use Rattle.verilog_pre.specs.LeavesOpen.{LeavesOpen}
use Rattle.verilog_pre.specs.Obeys.{Carries}
use Rattle.verilog_pre.specs.Reading.{with_out, left_open}
use Rattle.verilog_pre.specs.Shapes.{HasNo, ends_comment, IsLineComment, IsBlockComment, IsRun, IsWord}
use Rattle.verilog_pre.specs.States.{State}

-- one piece more, and its bytes are taken off the limit
abbrev pub with_run : Place → ℕ → State → List ℕ → State
with_run at offset st cut = with_out st (record {
  uses = st.out.uses;
  bytes = st.out.bytes - length cut;
  pieces = st.out.pieces ++ record { file = at.file; start = offset; end = offset + length cut; at = at; fixed = false } ∷ [];
})

-- What the stretch `cut` does before `rest`, from one state to the next, or its fault.
pub data Does (at : Place) (offset : ℕ) (st : State) (cut rest : List ℕ) : Result State TextFault → Type 0 where
  LineComment : IsLineComment cut rest → Does at offset st cut rest (Ok st)
  BlockComment : IsBlockComment cut → Does at offset st cut rest (Ok st)
  -- a `/*` that no `*/` closes
  OpenComment : (inside : List ℕ)
      → cut ≡ 47 ∷ 42 ∷ inside
      → rest ≡ []
      → HasNo ends_comment inside
      → Does at offset st cut rest (Err (fault_at 12 at []))
  Skipped : IsRun cut rest
      → is_read st.nest ≡ false
      → Does at offset st cut rest (Ok st)
  Run : IsRun cut rest
      → is_read st.nest ≡ true
      → length cut ≤ st.out.bytes
      → Does at offset st cut rest (Ok (with_run at offset st cut))
  -- the place is that of the first byte too many
  FullRun : IsRun cut rest
      → is_read st.nest ≡ true
      → st.out.bytes < length cut
      → Does at offset st cut rest (Err (fault_at 10 (place_after at (take st.out.bytes cut)) []))
  -- a backquote, a word, and what belongs to the directive behind it
  Directive : (word behind : List ℕ)
      → cut ≡ 96 ∷ (word ++ behind)
      → IsWord word (behind ++ rest)
      → (next : State)
      → Carries at (offset + 1 + length word) word st (behind ++ rest) (Ok (next, length behind))
      → Does at offset st cut rest (Ok next)
  BadDirective : (word behind : List ℕ)
      → cut ≡ 96 ∷ (word ++ behind)
      → IsWord word (behind ++ rest)
      → (e : TextFault)
      → Carries at (offset + 1 + length word) word st (behind ++ rest) (Err e)
      → Does at offset st cut rest (Err e)

-- What the stretches of a text do one after another, up to its end or the first fault.
pub data Reads : Place → ℕ → State → List ℕ → Result State TextFault → Type 0 where
  AtEnd : (at : Place) (offset : ℕ) (st : State) → Reads at offset st [] (Ok st)
  Goes : (at : Place) (offset : ℕ) (st next : State) (cut rest : List ℕ) (r : Result State TextFault)
      → Does at offset st cut rest (Ok next)
      → Reads (place_after at cut) (offset + length cut) next rest r
      → Reads at offset st (cut ++ rest) r
  -- no conditional that is open at the fault stays open
  Fails : (at : Place) (offset : ℕ) (st : State) (cut rest : List ℕ) (e : TextFault)
      → Does at offset st cut rest (Err e)
      → LeavesOpen (length st.nest) (cut ++ rest) false
      → Reads at offset st (cut ++ rest) (Err e)
  -- a conditional that stays open behind the fault was opened before it, the outermost first
  Opens : (at : Place) (offset : ℕ) (st : State) (cut rest : List ℕ) (e : TextFault) (outer : Conditional) (inner : List Conditional)
      → Does at offset st cut rest (Err e)
      → st.nest ≡ outer ∷ inner
      → LeavesOpen (length st.nest) (cut ++ rest) true
      → Reads at offset st (cut ++ rest) (Err (left_open outer))
