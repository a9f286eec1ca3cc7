-- A text as a list of stretches: what each is, by the clauses of IEEE 1364-2005, and that each is the longest there.
use Rattle.std.specs.Prelude.{◌≡◌, ◌≢◌, ◌≤◌, ◌<◌, ◌⊎◌, ⊤, ℕ, Bool, true, false, List, [], ◌∷◌, ◌++◌, codes, length, Some}
use Rattle.std.specs.List.{AllPass}
use Rattle.ls_text.specs.declared.place.Place.{Place}
use Rattle.ls_text.specs.Bytes.{is_letter, is_digit, is_word_byte, is_space}
use Rattle.verilog_lex.specs.declared.kind.Kind.{Kind}
use Rattle.verilog_lex.specs.Forms.{Form, Gap, Letters, Digits, Part, Sign, Unfit}
use Rattle.verilog_lex.specs.Keywords.{kind_in}
use Rattle.verilog_lex.specs.Signs.{triples, doubles, singles}
use Rattle.verilog_lex.specs.Cuts.{is_decimal_byte, is_part_digit, is_part_byte, is_sign_letter, radix_of}
use Rattle.verilog_lex.specs.Lexemes.{Lexeme, lexeme_here, moved_over}

-- the text is over, or its next byte isn't of the class
abbrev pub EndsAt : (ℕ → Bool) → List ℕ → Type 0
EndsAt class [] = ⊤
EndsAt class (b ∷ rest) = class b ≡ false

-- a run of bytes of a class, to the end of the run; the first is also of another class, as a word begins with a letter
abbrev pub IsRun : (ℕ → Bool) → (ℕ → Bool) → List ℕ → List ℕ → Type 0
IsRun first class [] rest = ⊥
IsRun first class (b ∷ bytes) rest = (first b ≡ true) × AllPass class (b ∷ bytes) × EndsAt class rest

-- a text has this word somewhere
abbrev pub Occurs : List ℕ → List ℕ → Type 0
Occurs word text = (before : List ℕ) × (after : List ℕ) × (text ≡ before ++ (word ++ after))

-- `(*`, whose next byte that isn't white space is there, and isn't `)` (clause 3.8; `@(*)` opens none, clause 9.7.5)
pub record OpensAttribute (text : List ℕ) : Type 0 where
  pub gap : List ℕ
  pub next : ℕ
  pub after : List ℕ
  pub spelled : text ≡ codes "(*" ++ (gap ++ next ∷ after)
  pub spaces : AllPass is_space gap
  pub visible : is_space next ≡ false
  pub other : next ≢ 41

-- an attribute (clause 3.8): up to the first `*)` behind its opening
pub record IsAttribute (bytes rest : List ℕ) : Type 0 where
  pub opens : OpensAttribute (bytes ++ rest)
  pub inside : List ℕ
  pub spelled : bytes ≡ codes "(*" ++ (inside ++ codes "*)")
  pub first : Occurs (codes "*)") inside → ⊥

-- a based part is signed where an s stands between its quote and its base letter
abbrev pub IsSignedness : Bool → List ℕ → Type 0
IsSignedness false sign = sign ≡ []
IsSignedness true sign = (s : ℕ) × (sign ≡ s ∷ []) × (is_sign_letter s ≡ true)

-- a based part (clause 3.5.1): a quote, an optional s, a base letter, optional white space, and a run of digits of any
-- base, with _ after the first. The part is whether it is signed, its radix and its digits
pub record IsPart (part : Bool × ℕ × List ℕ) (bytes rest : List ℕ) : Type 0 where
  pub sign : List ℕ
  pub base : ℕ
  pub gap : List ℕ
  pub spelled : bytes ≡ codes "'" ++ (sign ++ base ∷ (gap ++ part.2))
  pub signed : IsSignedness part.0 sign
  pub radix : radix_of base ≡ part.1
  pub based : 0 < part.1
  pub spaces : AllPass is_space gap
  pub digits : IsRun is_part_digit is_part_byte part.2 rest

-- the signs of the tables
abbrev pub signs : List (List ℕ × Kind)
signs = triples ++ (doubles ++ singles)

-- an operator or another sign (clauses 3.4 and 5.1): no longer one of the tables begins the text, and no attribute does
pub record IsSign (kind : Kind) (bytes rest : List ℕ) : Type 0 where
  pub listed : kind_in signs bytes ≡ Some kind
  pub longest : (other : Kind) (more behind : List ℕ) → bytes ++ rest ≡ more ++ behind → kind_in signs more ≡ Some other
      → length more ≤ length bytes
  pub no_attribute : OpensAttribute (bytes ++ rest) → ⊥

-- what stands at the front of a text, before the rest
abbrev pub Stands : Form → List ℕ → List ℕ → Type 0
-- white space (clause 3.2), or an attribute (clause 3.8)
Stands Gap bytes rest = IsRun is_space is_space bytes rest ⊎ IsAttribute bytes rest
-- a word (clause 3.7)
Stands (Letters text) bytes rest = (text ≡ bytes) × IsRun is_letter is_word_byte bytes rest
-- a plain decimal (clause 3.5.1)
Stands (Digits digits) bytes rest = (digits ≡ bytes) × IsRun is_digit is_decimal_byte bytes rest
-- a based part (clause 3.5.1)
Stands (Part part) bytes rest = IsPart part bytes rest
-- an operator or another sign (clause 3.4)
Stands (Sign kind text) bytes rest = (text ≡ bytes) × IsSign kind bytes rest
Stands Unfit bytes rest = ⊥

-- one byte that begins no token: nothing of these stands at the front of the text
pub record IsUnfit (bytes rest : List ℕ) : Type 0 where
  pub one : length bytes ≡ 1
  pub nothing : (form : Form) (front behind : List ℕ) → bytes ++ rest ≡ front ++ behind → Stands form front behind → ⊥

-- a part of a text, and what it is
pub record Stretch : Type 0 where
  pub form : Form
  pub bytes : List ℕ

-- what stands there, or a byte that begins no token
abbrev pub IsStretch : Stretch → List ℕ → Type 0
IsStretch s rest = Stands s.form s.bytes rest ⊎ (s.form ≡ Unfit) × IsUnfit s.bytes rest

-- the stretches of a text, one behind the other
abbrev pub Stretches : List ℕ → List Stretch → Type 0
Stretches text [] = text ≡ []
Stretches text (s ∷ ss) = (rest : List ℕ) × (text ≡ s.bytes ++ rest) × IsStretch s rest × Stretches rest ss

-- the lexemes among the stretches of a text that begins at a place: those that are no gaps, each with its place
abbrev pub placed : Bool → Place → List Stretch → List Lexeme
placed fixed at [] = []
placed fixed at (s ∷ ss) = lexeme_here at s.form ++ placed fixed (moved_over fixed at s.bytes) ss
