-- Tokens as reading gives them (IEEE 1364-2005, clauses 3.1 to 3.8), by the texts of a table of names.
use Rattle.std.specs.Prelude.{◌≡◌, ◌≢◌, ◌<◌, ◌⊎◌, ⊤, ℕ, ◌^◌, false, if◌then◌else◌, List, [], ◌∷◌, codes, length, Option, Some, None}
use Rattle.std.specs.Int.{bit_at}
use Rattle.ls_text.specs.Bytes.{is_letter}
use Rattle.ls_text.specs.Texts.{text_at}
use Rattle.verilog_lex.specs.declared.kind.Kind.{Kind}
use Rattle.verilog_lex.specs.declared.kind.Kind.TheVariants as k
use Rattle.verilog_lex.specs.declared.literal.Literal.{Literal}
use Rattle.verilog_lex.specs.declared.token.Token.{Token}
use Rattle.verilog_lex.specs.Keywords.{kind_in, word_kind}
use Rattle.verilog_lex.specs.Stretches.{signs}
use Rattle.verilog_lex.specs.Tokens.{no_literal}

-- the byte isn't in the text
abbrev pub IsFreeOf : ℕ → List ℕ → Type 0
IsFreeOf byte [] = ⊤
IsFreeOf byte (b ∷ bs) = (b ≢ byte) × IsFreeOf byte bs

-- the kind of a word (clause 3.7) or of a sign (clause 3.4)
abbrev pub text_kind : List ℕ → Option Kind
text_kind [] = None
text_kind (b ∷ bs) = if is_letter b then Some (word_kind (b ∷ bs)) else kind_in signs (b ∷ bs)

-- a word or a sign, which has neither a space nor a line end in it
pub record IsWritten (kind : Kind) (text : List ℕ) (l : Literal) : Type 0 where
  pub listed : text_kind text ≡ Some kind
  pub spaceless : IsFreeOf 32 text
  pub lineless : IsFreeOf 10 text
  pub empty : l ≡ no_literal

-- a number (clause 3.5.1)
pub record IsNumber (kind : Kind) (text : List ℕ) (l : Literal) : Type 0 where
  pub number : kind ≡ k.Number
  pub shown : text ≡ codes "number"
  pub sized : l.size < 2 ^ 64
  pub small : l.value < 2 ^ 128
  pub plain : l.mask ≡ 0

-- a number with digits that match any bit (clause 9.5.1): these count as 0
pub record IsPattern (kind : Kind) (text : List ℕ) (l : Literal) : Type 0 where
  pub wild : kind ≡ k.Wild
  pub shown : text ≡ codes "number"
  pub sized : l.size < 2 ^ 64
  pub unsigned : l.signed ≡ false
  pub small : l.value < 2 ^ l.size
  pub narrow : l.mask < 2 ^ l.size
  pub apart : (i : ℕ) → bit_at l.mask i ≡ 1 → bit_at l.value i ≡ 0

-- what a token other than the end is
abbrev pub IsToken : Kind → List ℕ → Literal → Type 0
IsToken kind text l = IsWritten kind text l ⊎ (IsNumber kind text l ⊎ IsPattern kind text l)

-- the token's text is in the table, and is that of its kind
abbrev pub IsProper : List (List ℕ) → Token → Type 0
IsProper names t = (t.text.0 < length names) × IsToken t.kind (text_at names t.text.0) t.literal

-- so is each token that reading gives, but for the end
abbrev pub IsRead : List (List ℕ) → Token → Type 0
IsRead names t = t.kind ≢ k.End → IsProper names t
