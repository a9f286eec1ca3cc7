-- The reading of pieces as one relation over whole lists: the stretches of each piece (IEEE 1364-2005, clauses 3.1 to 3.8),
-- the groups of all their lexemes (clause 3.5.1), the token of each group, and the end.
use Rattle.std.specs.Prelude.{◌≡◌, List, [], ◌∷◌, ◌++◌, codes, Result, Ok}
use Rattle.ls_text.specs.declared.source_file.SourceFile.{SourceFile}
use Rattle.ls_text.specs.Files.{text_between}
use Rattle.ls_text.specs.Readings.{TextFault, ◌>>=◌}
use Rattle.ls_text.specs.declared.piece.Piece.{Piece}
use Rattle.verilog_lex.specs.declared.kind.Kind.TheVariants as kind
use Rattle.verilog_lex.specs.Lexemes.{Lexeme}
use Rattle.verilog_lex.specs.Stretches.{Stretch, Stretches, placed}
use Rattle.verilog_lex.specs.Groups.{Group, Groups, group_tokens}
use Rattle.verilog_lex.specs.Tokens.{Said, plain, end_place}

-- the lexemes of pieces: those of the stretches of each, so that none crosses the end of a piece
abbrev pub HaveLexemes : List SourceFile → List Piece → List Lexeme → Type 0
HaveLexemes files [] ls = ls ≡ []
HaveLexemes files (p ∷ pieces) ls =
    (ss : List Stretch) × (rest : List Lexeme) × Stretches (text_between files p.file p.start p.end) ss
    × (ls ≡ placed p.fixed p.at ss ++ rest) × HaveLexemes files pieces rest

-- what reading the pieces gives: the tokens and the end behind them, or the first fault
pub record Reads (files : List SourceFile) (pieces : List Piece) (read : Result (List Said) TextFault) : Type 0 where
  pub lexemes : List Lexeme
  pub groups : List Group
  pub cut : HaveLexemes files pieces lexemes
  pub grouped : Groups lexemes groups
  pub gives : read ≡ (group_tokens groups >>= λ ts. Ok (ts ++ plain kind.End (end_place files) (codes "-") ∷ []))
