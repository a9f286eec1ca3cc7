-- What stands in the body of a macro, stretch by stretch (IEEE 1364-2005, clause 19.3.1): runs of bytes, uses of macros,
-- comments and continued lines, up to the end of the line.
use Rattle.std.specs.Prelude.{◌≡◌, ◌<◌, ℕ, ◌+◌, Bool, not, ◌&&◌, ◌||◌, ◌==◌, ◌⊎◌, List, [], ◌∷◌, ◌++◌, length, take}
use Rattle.verilog_pre.specs.Parts.{Part, Use, Open}
use Rattle.ls_text.specs.Bytes.{is_blank}
use Rattle.verilog_pre.specs.Bodies.{begins_cut, run_part}
use Rattle.verilog_pre.specs.Shapes.{HasNo, BeginsWith, AllAre, StopsAt, ends_comment, IsLineComment, IsWord}

-- a newline that no backslash continues
abbrev pub ends_line : ℕ → ℕ → Bool
ends_line a b = (b == 10) && not (a == 92)

-- a comment, a use or a continued line begins
abbrev pub begins_stretch : ℕ → ℕ → Bool
begins_stretch a b = ((a == 92) && (b == 10)) || begins_cut a b

abbrev pub last_of : ℕ → List ℕ → ℕ
last_of a [] = a
last_of a (b ∷ bs) = last_of b bs

-- behind these bytes the text ends, or the line does
abbrev pub LineEnds : List ℕ → List ℕ → Type 0
LineEnds line rest = (rest ≡ []) ⊎ BeginsWith ends_line (last_of 0 line ∷ rest)

-- `/*` to the first `*/`, within the lines of the body
pub record IsBodyComment (cut : List ℕ) : Type 0 where
  pub inside : List ℕ
  pub is : cut ≡ 47 ∷ 42 ∷ (inside ++ 42 ∷ 47 ∷ [])
  pub first : HasNo ends_comment (inside ++ 42 ∷ [])
  pub on_lines : HasNo ends_line (0 ∷ inside)

-- `/*` and the rest of the body's lines, which don't close it
pub record IsOpenComment (cut rest : List ℕ) : Type 0 where
  pub inside : List ℕ
  pub is : cut ≡ 47 ∷ 42 ∷ inside
  pub none : HasNo ends_comment inside
  pub on_lines : HasNo ends_line (0 ∷ inside)
  pub ends : LineEnds inside rest

-- a run of bytes on one line, and as long as there is one
pub record IsBodyRun (cut rest : List ℕ) : Type 0 where
  pub some : 0 < length cut
  pub on_line : AllAre (λ b. not (b == 10)) cut
  pub plain : HasNo begins_stretch (cut ++ take 1 rest)
  pub ends : StopsAt (λ b. not (b == 10)) rest ⊎ BeginsWith begins_stretch rest

-- The parts that the stretch `cut` gives before `rest`.
pub data Gives (file offset : ℕ) (cut rest : List ℕ) : List Part → Type 0 where
  Run : IsBodyRun cut rest → Gives file offset cut rest (run_part file offset cut rest)
  Continued : cut ≡ 92 ∷ 10 ∷ [] → Gives file offset cut rest []
  Comment : IsBodyComment cut → Gives file offset cut rest []
  Unclosed : IsOpenComment cut rest → Gives file offset cut rest (Open ∷ [])
  Macro : (word : List ℕ)
      → cut ≡ 96 ∷ word
      → IsWord word rest
      → Gives file offset cut rest (Use word ∷ [])

-- The parts of a body at the front of a text that no white space begins, and how many bytes the body has.
pub data Trimmed (file : ℕ) : ℕ → List ℕ → List Part → ℕ → Type 0 where
  AtEnd : (offset : ℕ) → Trimmed file offset [] [] 0
  AtNewline : (offset : ℕ) (rest : List ℕ) → Trimmed file offset (10 ∷ rest) [] 0
  AtComment : (offset : ℕ) (cut rest : List ℕ) → IsLineComment cut rest → Trimmed file offset (cut ++ rest) [] (length cut)
  Goes : (offset : ℕ) (cut rest : List ℕ) (parts more : List Part) (n : ℕ)
      → Gives file offset cut rest parts
      → Trimmed file (offset + length cut) rest more n
      → Trimmed file offset (cut ++ rest) (parts ++ more) (length cut + n)

-- The parts of a body at the front of a text, and how many bytes the body has: white space at its front is in no part.
pub record Body (file offset : ℕ) (text : List ℕ) (parts : List Part) (n : ℕ) : Type 0 where
  pub blanks : List ℕ
  pub rest : List ℕ
  pub is : text ≡ blanks ++ rest
  pub blank : AllAre is_blank blanks
  pub ends : StopsAt is_blank rest
  pub size : ℕ
  pub count : n ≡ length blanks + size
  pub behind : Trimmed file (offset + length blanks) rest parts size
