-- The lexemes of pieces, each with its place: every stretch that is no white space and no attribute (IEEE 1364-2005,
-- clauses 3.1, 3.2 and 3.8).
use Rattle.std.specs.Prelude.{ℕ, zero, suc, ◌-◌, Bool, if◌then◌else◌, List, [], ◌∷◌, ◌++◌}
use Rattle.std.specs.List.{flat_map}
use Rattle.ls_text.specs.declared.place.Place.{Place}
use Rattle.ls_text.specs.declared.source_file.SourceFile.{SourceFile}
use Rattle.ls_text.specs.Places.{step, place_after}
use Rattle.ls_text.specs.Files.{text_between}
use Rattle.ls_text.specs.declared.piece.Piece.{Piece}
use Rattle.verilog_lex.specs.Forms.{Form, is_gap}
use Rattle.verilog_lex.specs.Cuts.{cut_at}

pub record Lexeme : Type 0 where
  pub form : Form
  pub at : Place

abbrev pub lexeme_here : Place → Form → List Lexeme
lexeme_here at form = if is_gap form then [] else record { form = form; at = at } ∷ []

-- the tokens of a fixed piece, which comes from the use of a macro (clause 19.3.1), all have its place
abbrev pub moved : Bool → Place → ℕ → Place
moved fixed at b = if fixed then at else step at b

abbrev pub moved_over : Bool → Place → List ℕ → Place
moved_over fixed at bs = if fixed then at else place_after at bs

-- the lexemes of a text, of which the first so many bytes belong to a stretch before them
abbrev pub lexemes_from : Bool → Place → ℕ → List ℕ → List Lexeme
lexemes_from fixed at skip [] = []
lexemes_from fixed at (suc k) (b ∷ bs) = lexemes_from fixed (moved fixed at b) k bs
lexemes_from fixed at zero (b ∷ bs) =
    lexeme_here at (cut_at (b ∷ bs)).0 ++ lexemes_from fixed (moved fixed at b) ((cut_at (b ∷ bs)).1 - 1) bs

-- the lexemes of a text that begins at a place: those of its `Stretches`
unfoldable pub text_lexemes : Bool → Place → List ℕ → List Lexeme
text_lexemes fixed at text = lexemes_from fixed at 0 text

abbrev pub piece_lexemes : List SourceFile → Piece → List Lexeme
piece_lexemes files p = text_lexemes p.fixed p.at (text_between files p.file p.start p.end)

-- no lexeme crosses the end of a piece
abbrev pub pieces_lexemes : List SourceFile → List Piece → List Lexeme
pieces_lexemes files pieces = flat_map (piece_lexemes files) pieces
