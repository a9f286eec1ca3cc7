-- What tokens, and what is left to read, stand for.
use Rattle.std.specs.Prelude.{◌≡◌, ◌<◌, ℕ, List, [], ◌∷◌, ◌++◌, drop, Bool, Option, Some, None, Result, Ok, Err}
use Rattle.ls_text.specs.Texts.{text_at}
use Rattle.ls_text.specs.declared.refusal.Refusal.{Refusal}
use Rattle.ls_text.specs.Readings.{TextFault, Refuses}
use Rattle.verilog_lex.specs.declared.token.Token.{Token}
use Rattle.verilog_lex.specs.declared.lexeme.Lexeme as code
use Rattle.verilog_lex.specs.declared.number_part.Based.{Based}
use Rattle.verilog_lex.specs.declared.cursor.Cursor.{Cursor}
use Rattle.verilog_lex.specs.Forms.{form}
use Rattle.verilog_lex.specs.Lexemes.{Lexeme, text_lexemes, pieces_lexemes}
use Rattle.verilog_lex.specs.Tokens.{Said, with_front, lexeme_tokens}

-- a token with its text, by the table of names
abbrev pub said : List (List ℕ) → Token → Said
said names t = record { kind = t.kind; at = t.at; text = text_at names t.text.0; literal = t.literal }

-- the table gave the name of the token
abbrev pub IsNamed : ℕ → Token → Type 0
IsNamed count t = t.text.0 < count

abbrev pub part_view : Based → Bool × ℕ × List ℕ
part_view part = (part.signed, part.radix, part.digits.now)

abbrev pub lexeme : code.Lexeme → Lexeme
lexeme l = record { form = form l.shape; at = l.at }

-- the lexemes that are left to read
abbrev pub left : Cursor → List Lexeme
left c = text_lexemes c.fixed c.at c.text.now ++ pieces_lexemes c.files.now (drop c.next c.pieces.now)

-- one rest has the pieces that the other has, after their first
abbrev pub SameRest : Cursor → Cursor → Type 0
SameRest a b = (a.next ≡ b.next) × (a.pieces.now ≡ b.pieces.now) × (a.files.now ≡ b.files.now)

-- What a turn of the lexer found: nothing left, the next token, or the first fault.
abbrev pub Turns : List (List ℕ) → Result (Option (Token × Cursor)) Refusal → Result (List Said) TextFault → Type 0
Turns names (Ok None) read = read ≡ Ok []
Turns names (Ok (Some x)) read = read ≡ with_front (said names x.0 ∷ []) (lexeme_tokens (left x.1))
Turns names (Err e) read = Refuses names e read
