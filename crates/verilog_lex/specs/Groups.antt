-- The lexemes of each token (IEEE 1364-2005, clause 3.5.1): a size and the based part behind it are one number.
use Rattle.std.specs.Prelude.{◌≡◌, ℕ, Bool, List, [], ◌∷◌, Option, Some, None, Result, Ok}
use Rattle.ls_text.specs.Readings.{TextFault, ◌>>=◌}
use Rattle.verilog_lex.specs.Forms.{Form, Digits, Part}
use Rattle.verilog_lex.specs.Lexemes.{Lexeme}
use Rattle.verilog_lex.specs.Tokens.{Said, first_part, token_at, with_front}

-- the first lexeme of a token, and the based part behind it, if it takes one
pub record Group : Type 0 where
  pub lexeme : Lexeme
  pub part : Option (Bool × ℕ × List ℕ)

abbrev pub IsDecimal : Form → Type 0
IsDecimal form = (digits : List ℕ) × (form ≡ Digits digits)

-- a plain decimal takes the based part that is the next lexeme; any other lexeme is a token by itself
abbrev pub IsGroup : Lexeme → Option (Bool × ℕ × List ℕ) → List Lexeme → List Lexeme → Type 0
IsGroup l (Some part) ls rest = (next : Lexeme) × (ls ≡ l ∷ next ∷ rest) × IsDecimal l.form × (next.form ≡ Part part)
IsGroup l None ls rest = (ls ≡ l ∷ rest) × (IsDecimal l.form → first_part rest ≡ None)

-- the groups of lexemes, one behind the other
abbrev pub Groups : List Lexeme → List Group → Type 0
Groups ls [] = ls ≡ []
Groups ls (g ∷ gs) = (rest : List Lexeme) × IsGroup g.lexeme g.part ls rest × Groups rest gs

-- the token of each, or the first fault
abbrev pub group_tokens : List Group → Result (List Said) TextFault
group_tokens [] = Ok []
group_tokens (g ∷ gs) = token_at g.lexeme.at g.lexeme.form g.part >>= λ t. with_front (t ∷ []) (group_tokens gs)
