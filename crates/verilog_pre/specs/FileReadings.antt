-- What files do one after another (IEEE 1364-2005, clauses 19.3.1 and 19.4): each is read from where the one before it ended,
-- so macros carry over, and none ends within a conditional.
use Rattle.std.specs.Prelude.{◌≡◌, ℕ, ◌+◌, List, [], ◌∷◌, Result, Ok, Err}
use Rattle.ls_text.specs.declared.source_file.SourceFile.{SourceFile}
use Rattle.ls_text.specs.Readings.{TextFault, ◌>>=◌}
use Rattle.ls_text.specs.Places.{file_start}
use Rattle.verilog_pre.specs.declared.conditional.Conditional.{Conditional}
use Rattle.ls_text.specs.declared.piece.Piece.{Piece}
use Rattle.verilog_pre.specs.Reading.{left_open, at_first}
use Rattle.verilog_pre.specs.States.{State}
use Rattle.verilog_pre.specs.Stretches.{Reads}

-- What files do, of which the first has this number.
pub data ReadsFiles : ℕ → State → List SourceFile → Result State TextFault → Type 0 where
  AtEnd : (file : ℕ) (st : State) → ReadsFiles file st [] (Ok st)
  Goes : (file : ℕ) (st next : State) (f : SourceFile) (files : List SourceFile) (r : Result State TextFault)
      → Reads (file_start file) 0 st f.text (Ok next)
      → next.nest ≡ []
      → ReadsFiles (file + 1) next files r
      → ReadsFiles file st (f ∷ files) r
  -- the outermost conditional that is open is refused at its opening
  LeftOpen : (file : ℕ) (st next : State) (f : SourceFile) (files : List SourceFile) (outer : Conditional) (inner : List Conditional)
      → Reads (file_start file) 0 st f.text (Ok next)
      → next.nest ≡ outer ∷ inner
      → ReadsFiles file st (f ∷ files) (Err (left_open outer))
  Fails : (file : ℕ) (st : State) (f : SourceFile) (files : List SourceFile) (e : TextFault)
      → Reads (file_start file) 0 st f.text (Err e)
      → ReadsFiles file st (f ∷ files) (Err e)

-- the pieces of all files, or the first fault
pub record HavePieces (files : List SourceFile) (r : Result (List Piece) TextFault) : Type 0 where
  pub read : Result State TextFault
  pub reads : ReadsFiles 0 at_first files read
  pub gives : r ≡ (read >>= λ st. Ok st.out.pieces)
