-- Files are read as the relation on files says, and in no other way.
use Rattle.std.proofs.Common.{◌≡◌, ℕ, ◌+◌, length, List, [], ◌∷◌, Result, Ok, Err, refl, sym, ap, subst, ◌∙◌, arith}
use Rattle.std.specs.Prelude.{slice_get}
use Rattle.ls_text.specs.declared.source_file.SourceFile.{SourceFile}
use Rattle.ls_text.specs.Readings.{TextFault, ◌>>=◌}
use Rattle.ls_text.specs.Places.{file_start}
use Rattle.verilog_pre.specs.declared.conditional.Conditional.{Conditional}
use Rattle.ls_text.specs.declared.piece.Piece.{Piece}
use Rattle.verilog_pre.specs.Reading.{text_read, ended, file_read, files_from, at_first, pieces}
use Rattle.verilog_pre.specs.States.{State}
use Rattle.verilog_pre.specs.Stretches.{Reads}
use Rattle.verilog_pre.specs.FileReadings.{ReadsFiles, AtEnd, Goes, LeftOpen, Fails, HavePieces}
use Rattle.verilog_pre.proofs.Turns.{whole, only}

abbrev rest_read : ℕ → List SourceFile → State → Result State TextFault
rest_read file files st = files_from (file + 1) st files

-- a file whose text is read so, and then the rest
file_is : (file : ℕ) (st : State) (f : SourceFile) (files : List SourceFile) (r : Result State TextFault) → text_read (file_start file) 0 st f.text ≡ r
    → files_from file st (f ∷ files) ≡ ((r >>= λ s. ended s (slice_get s.nest 0)) >>= rest_read file files)
unfolding file_read
file_is file st f files r is = ap (λ x. (x >>= λ s. ended s (slice_get s.nest 0)) >>= rest_read file files) is

closed_is : (file : ℕ) (files : List SourceFile) (next : State) (nest : List Conditional) → next.nest ≡ nest
    → (ended next (slice_get next.nest 0) >>= rest_read file files) ≡ (ended next (slice_get nest 0) >>= rest_read file files)
closed_is file files next nest is = ap (λ n. ended next (slice_get n 0) >>= rest_read file files) is

pub only_files : (file : ℕ) (st : State) (files : List SourceFile) (r : Result State TextFault) → ReadsFiles file st files r → r ≡ files_from file st files
only_files file st files r (AtEnd n s) = refl
only_files file st files r (Goes n s next f fs q reads shut more) =
    only_files (n + 1) next fs q more
    ∙ sym (file_is n s f fs (Ok next) (sym (only (file_start n) 0 s f.text (Ok next) reads)) ∙ closed_is n fs next [] shut)
only_files file st files r (LeftOpen n s next f fs outer inner reads open_) =
    sym (file_is n s f fs (Ok next) (sym (only (file_start n) 0 s f.text (Ok next) reads)) ∙ closed_is n fs next (outer ∷ inner) open_)
only_files file st files r (Fails n s f fs e reads) =
    sym (file_is n s f fs (Err e) (sym (only (file_start n) 0 s f.text (Err e) reads)))

pub whole_files : (file : ℕ) (st : State) (files : List SourceFile) → ReadsFiles file st files (files_from file st files)
whole_files file st [] = AtEnd file st
whole_files file st (f ∷ files) =
    told (text_read (file_start file) 0 st f.text) refl (whole (length f.text) (file_start file) 0 st f.text (omega arith)) (λ next. whole_files (file + 1) next files)
  where
    Files : Result State TextFault → Type 0
    Files r = ReadsFiles file st (f ∷ files) r

    behind : (next : State) → text_read (file_start file) 0 st f.text ≡ Ok next → Reads (file_start file) 0 st f.text (Ok next)
        → ((next : State) → ReadsFiles (file + 1) next files (files_from (file + 1) next files))
        → (nest : List Conditional) → next.nest ≡ nest → Files (files_from file st (f ∷ files))
    behind next is reads more [] shut =
        subst Files (sym (file_is file st f files (Ok next) is ∙ closed_is file files next [] shut))
        (Goes file st next f files (files_from (file + 1) next files) reads shut (more next))
    behind next is reads more (outer ∷ inner) open_ =
        subst Files (sym (file_is file st f files (Ok next) is ∙ closed_is file files next (outer ∷ inner) open_))
        (LeftOpen file st next f files outer inner reads open_)

    told : (r : Result State TextFault) → text_read (file_start file) 0 st f.text ≡ r → Reads (file_start file) 0 st f.text r
        → ((next : State) → ReadsFiles (file + 1) next files (files_from (file + 1) next files)) → Files (files_from file st (f ∷ files))
    told (Ok next) is reads more = behind next is reads more next.nest refl
    told (Err e) is reads more = subst Files (sym (file_is file st f files (Err e) is)) (Fails file st f files e reads)

pub whole_pieces : (files : List SourceFile) → HavePieces files (pieces files)
unfolding pieces
whole_pieces files = record { read = files_from 0 at_first files; reads = whole_files 0 at_first files; gives = refl }

pub only_pieces : (files : List SourceFile) (r : Result (List Piece) TextFault) → HavePieces files r → r ≡ pieces files
unfolding pieces
only_pieces files r have = have.gives ∙ ap (λ read. read >>= λ st. Ok st.out.pieces) (only_files 0 at_first files have.read have.reads)
