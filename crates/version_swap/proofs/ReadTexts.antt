-- The tokens of files, by what the preprocessor and the lexer answer.
use Rattle.std.proofs.Common.{◌≡◌, List, ℕ, Result, Ok, sym, ap, subst, ◌∙◌}
use Rattle.ls_text.specs.declared.refusal.Refusal.{Refusal}
use Rattle.ls_text.specs.declared.source_file.SourceFile.{SourceFile}
use Rattle.ls_text.specs.Readings.{TextFault, Gives, Refuses, ◌>>=◌}
use Rattle.ls_text.proofs.Refused.{refused_on}
use Rattle.ls_text.specs.declared.piece.Piece.{Piece}
use Rattle.verilog_pre.specs.FileReadings.{HavePieces}
use Rattle.verilog_pre.specs.Reading.{pieces}
use Rattle.verilog_pre.proofs.FileReadings.{only_pieces}
use Rattle.verilog_lex.specs.Readings.{Reads}
use Rattle.verilog_lex.specs.Tokens.{Said, tokens}
use Rattle.verilog_lex.proofs.Readings.{related_tokens}
use Rattle.version_swap.specs.Texts.{file_tokens}

-- the pieces were answered, and then what the lexer answers
pub then_tokens : {A : Type 0} (names : List (List ℕ)) (view : A → List Said) (answer : Result A Refusal) (files : List SourceFile)
    (slice ps : List Piece)
    → slice ≡ ps → (read : Result (List Piece) TextFault) × HavePieces files read × (read ≡ Ok ps)
    → (read : Result (List Said) TextFault) × Reads files slice read × Gives names view answer read
    → Gives names view answer (file_tokens files)
unfolding file_tokens
then_tokens names view answer files slice ps same (read, have, is) lexed =
    subst (Gives names view answer)
    (sym (ap (λ r. r >>= λ qs. tokens files qs) (sym (only_pieces files read have) ∙ is) ∙ ap (tokens files) (sym same)))
    (related_tokens names view answer files slice lexed)

-- the files were refused
pub no_tokens : (names : List (List ℕ)) (e : Refusal) (files : List SourceFile)
    → (read : Result (List Piece) TextFault) × HavePieces files read × Refuses names e read → Refuses names e (file_tokens files)
unfolding file_tokens
no_tokens names e files (read, have, refuses) =
    refused_on names e (pieces files) (λ qs. tokens files qs) (subst (Refuses names e) (only_pieces files read have) refuses)
