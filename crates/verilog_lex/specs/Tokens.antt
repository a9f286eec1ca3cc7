-- The tokens of lexemes (IEEE 1364-2005, clause 3.1), or the first fault.
use Rattle.std.specs.Prelude.{ℕ, zero, suc, ◌-◌, Bool, false, List, [], ◌∷◌, ◌++◌, codes, length, Option, Some, None, Result, Ok, Err, slice_get}
use Rattle.ls_text.specs.declared.place.Place.{Place}
use Rattle.ls_text.specs.declared.source_file.SourceFile.{SourceFile}
use Rattle.ls_text.specs.Places.{place_after, file_start}
use Rattle.ls_text.specs.Files.{text_of}
use Rattle.ls_text.specs.Readings.{TextFault, fault_at, ◌>>=◌}
use Rattle.ls_text.specs.declared.piece.Piece.{Piece}
use Rattle.verilog_lex.specs.declared.kind.Kind.{Kind}
use Rattle.verilog_lex.specs.declared.kind.Kind.TheVariants as kind
use Rattle.verilog_lex.specs.declared.literal.Literal.{Literal}
use Rattle.verilog_lex.specs.Forms.{Form, Gap, Letters, Digits, Part, Sign, Unfit, part_of}
use Rattle.verilog_lex.specs.Keywords.{word_kind}
use Rattle.verilog_lex.specs.Numbers.{decimal_literal, based_literal}
use Rattle.verilog_lex.specs.Lexemes.{Lexeme, pieces_lexemes}

-- a token with its text
pub record Said : Type 0 where
  pub kind : Kind
  pub at : Place
  pub text : List ℕ
  pub literal : Literal

abbrev pub no_literal : Literal
no_literal = record { size = 0; signed = false; value = 0; mask = 0 }

abbrev pub plain : Kind → Place → List ℕ → Said
plain kind at text = record { kind = kind; at = at; text = text; literal = no_literal }

-- a number (clause 3.5.1) is refused with 14 where its digits stand for none
abbrev pub number_at : Place → Option (Kind × Literal) → Result Said TextFault
number_at at None = Err (fault_at 14 at [])
number_at at (Some n) = Ok (record { kind = n.0; at = at; text = codes "number"; literal = n.1 })

-- the based part that comes first
abbrev pub first_part : List Lexeme → Option (Bool × ℕ × List ℕ)
first_part [] = None
first_part (l ∷ ls) = part_of l.form

-- the token of a form, before a based part or something else: a word (clause 3.7), a number (clause 3.5.1) or a sign
-- (clause 3.4); a byte that begins no token is refused with 13
abbrev pub token_at : Place → Form → Option (Bool × ℕ × List ℕ) → Result Said TextFault
token_at at Gap part = Err (fault_at 13 at [])
token_at at (Letters text) part = Ok (plain (word_kind text) at text)
token_at at (Digits digits) part = number_at at (decimal_literal digits part)
token_at at (Part own) part = number_at at (based_literal 0 own.0 own.1 own.2)
token_at at (Sign kind text) part = Ok (plain kind at text)
token_at at Unfit part = Err (fault_at 13 at [])

-- a plain decimal takes the based part that comes next (clause 3.5.1)
abbrev pub taken_if : Option (Bool × ℕ × List ℕ) → ℕ
taken_if None = 0
taken_if (Some part) = 1

abbrev pub taken : Form → Option (Bool × ℕ × List ℕ) → ℕ
taken Gap part = 0
taken (Letters text) part = 0
taken (Digits digits) part = taken_if part
taken (Part own) part = 0
taken (Sign kind text) part = 0
taken Unfit part = 0

-- this front, and then what is read
abbrev pub with_front : {A : Type 0} → List A → Result (List A) TextFault → Result (List A) TextFault
with_front front (Ok ts) = Ok (front ++ ts)
with_front front (Err e) = Err e

-- the tokens of lexemes, of which the first so many belong to a token before them
abbrev pub tokens_from : ℕ → List Lexeme → Result (List Said) TextFault
tokens_from skip [] = Ok []
tokens_from (suc k) (l ∷ ls) = tokens_from k ls
tokens_from zero (l ∷ ls) =
    token_at l.at l.form (first_part ls) >>= λ t. with_front (t ∷ []) (tokens_from (taken l.form (first_part ls)) ls)

-- the tokens of all lexemes: those of their `Groups`
unfoldable pub lexeme_tokens : List Lexeme → Result (List Said) TextFault
lexeme_tokens ls = tokens_from 0 ls

-- after the last byte of the last file
abbrev pub end_place : List SourceFile → Place
end_place files = place_after (file_start (length files - 1)) (text_of (slice_get files (length files - 1)))

-- the tokens of pieces, and the end behind them: the one reading that `Reads` of specs/Readings allows
unfoldable pub tokens : List SourceFile → List Piece → Result (List Said) TextFault
tokens files pieces =
    lexeme_tokens (pieces_lexemes files pieces) >>= λ ts. Ok (ts ++ plain kind.End (end_place files) (codes "-") ∷ [])
