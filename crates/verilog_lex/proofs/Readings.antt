-- The tokens of pieces are the one reading that there is.
use Rattle.std.proofs.Common.{◌≡◌, ℕ, List, [], ◌∷◌, ◌++◌, codes, Result, Ok, refl, sym, ap, subst, ◌∙◌}
use Rattle.ls_text.specs.declared.source_file.SourceFile.{SourceFile}
use Rattle.ls_text.specs.Files.{text_between}
use Rattle.ls_text.specs.declared.refusal.Refusal.{Refusal}
use Rattle.ls_text.specs.Readings.{TextFault, Gives, ◌>>=◌}
use Rattle.ls_text.specs.declared.piece.Piece.{Piece}
use Rattle.verilog_lex.specs.declared.kind.Kind.TheVariants as kind
use Rattle.verilog_lex.specs.Lexemes.{Lexeme, pieces_lexemes}
use Rattle.verilog_lex.specs.Stretches.{Stretch, Stretches, placed}
use Rattle.verilog_lex.specs.Groups.{Group, Groups}
use Rattle.verilog_lex.specs.Tokens.{Said, plain, end_place, lexeme_tokens, tokens}
use Rattle.verilog_lex.specs.Readings.{HaveLexemes, Reads}
use Rattle.verilog_lex.proofs.Stretches.{has_stretches, stretch_lexemes}
use Rattle.verilog_lex.proofs.Groups.{has_groups, group_lexemes}

have_lexemes : (files : List SourceFile) (pieces : List Piece) → HaveLexemes files pieces (pieces_lexemes files pieces)
have_lexemes files [] = refl
have_lexemes files (p ∷ pieces) =
    let text : List ℕ = text_between files p.file p.start p.end in
    let cut : (ss : List Stretch) × Stretches text ss = has_stretches text in
    (cut.0, pieces_lexemes files pieces, cut.1, ap (λ ls. ls ++ pieces_lexemes files pieces) (stretch_lexemes p.fixed p.at text cut.0 cut.1), have_lexemes files pieces)

only_lexemes : (files : List SourceFile) (pieces : List Piece) (ls : List Lexeme) → HaveLexemes files pieces ls → pieces_lexemes files pieces ≡ ls
only_lexemes files [] ls is = sym is
only_lexemes files (p ∷ pieces) ls is =
    ap (λ first. first ++ pieces_lexemes files pieces) (stretch_lexemes p.fixed p.at (text_between files p.file p.start p.end) is.0 is.2)
    ∙ ap (λ rest. placed p.fixed p.at is.0 ++ rest) (only_lexemes files pieces is.1 is.4)
    ∙ sym is.3

abbrev ended : List SourceFile → Result (List Said) TextFault → Result (List Said) TextFault
ended files read = read >>= λ ts. Ok (ts ++ plain kind.End (end_place files) (codes "-") ∷ [])

pub has_reading : (files : List SourceFile) (pieces : List Piece) → Reads files pieces (tokens files pieces)
unfolding tokens
has_reading files pieces =
    let ls : List Lexeme = pieces_lexemes files pieces in
    let gs : (gs : List Group) × Groups ls gs = has_groups ls in
    record { lexemes = ls; groups = gs.0; cut = have_lexemes files pieces; grouped = gs.1; gives = ap (ended files) (group_lexemes ls gs.0 gs.1) }

pub only_reading : (files : List SourceFile) (pieces : List Piece) (read : Result (List Said) TextFault) → Reads files pieces read → read ≡ tokens files pieces
unfolding tokens
only_reading files pieces read r =
    r.gives ∙ ap (ended files) (sym (group_lexemes r.lexemes r.groups r.grouped))
    ∙ ap (λ ls. ended files (lexeme_tokens ls)) (sym (only_lexemes files pieces r.lexemes r.cut))

-- an answer that is related to the pieces is what the walk over them gives
pub related_tokens : {A : Type 0} (names : List (List ℕ)) (view : A → List Said) (answer : Result A Refusal) (files : List SourceFile) (pieces : List Piece)
    → (read : Result (List Said) TextFault) × Reads files pieces read × Gives names view answer read → Gives names view answer (tokens files pieces)
related_tokens names view answer files pieces (read, reads, gives) = subst (Gives names view answer) (only_reading files pieces read reads) gives
