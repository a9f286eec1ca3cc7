-- The stretches of a text: comments (IEEE 1364-2005, clause 3.3), words (clause 3.7), and the longest runs of bytes between
-- comments and directives (clause 19).
use Rattle.std.specs.Prelude.{◌≡◌, ◌<◌, ℕ, Bool, false, true, not, ◌&&◌, ◌==◌, ◌⊎◌, List, [], ◌∷◌, ◌++◌, length, take, slice_index}
use Rattle.ls_text.specs.Bytes.{is_letter, is_word_byte}
use Rattle.verilog_pre.specs.Bodies.{begins_cut}

-- no two bytes side by side are such a pair
abbrev pub HasNo : (ℕ → ℕ → Bool) → List ℕ → Type 0
HasNo pair [] = Unit {0}
HasNo pair (a ∷ []) = Unit {0}
HasNo pair (a ∷ b ∷ bs) = (pair a b ≡ false) × HasNo pair (b ∷ bs)

-- the first two bytes are such a pair
abbrev pub BeginsWith : (ℕ → ℕ → Bool) → List ℕ → Type 0
BeginsWith pair [] = ⊥
BeginsWith pair (a ∷ []) = ⊥
BeginsWith pair (a ∷ b ∷ bs) = pair a b ≡ true

-- each byte is of this class
abbrev pub AllAre : (ℕ → Bool) → List ℕ → Type 0
AllAre class [] = Unit {0}
AllAre class (b ∷ bs) = (class b ≡ true) × AllAre class bs

-- the text ends, or goes on with a byte that isn't of this class
abbrev pub StopsAt : (ℕ → Bool) → List ℕ → Type 0
StopsAt class [] = Unit {0}
StopsAt class (b ∷ bs) = class b ≡ false

abbrev pub ends_comment : ℕ → ℕ → Bool
ends_comment a b = (a == 42) && (b == 47)

-- `//` and the rest of its line
pub record IsLineComment (cut rest : List ℕ) : Type 0 where
  pub inside : List ℕ
  pub is : cut ≡ 47 ∷ 47 ∷ inside
  pub on_line : AllAre (λ b. not (b == 10)) inside
  pub ends : StopsAt (λ b. not (b == 10)) rest

-- `/*` to the first `*/` behind it
pub record IsBlockComment (cut : List ℕ) : Type 0 where
  pub inside : List ℕ
  pub is : cut ≡ 47 ∷ 42 ∷ (inside ++ 42 ∷ 47 ∷ [])
  pub first : HasNo ends_comment (inside ++ 42 ∷ [])

-- a run of bytes in which no comment and no directive begins, and as long as there is one
pub record IsRun (cut rest : List ℕ) : Type 0 where
  pub some : 0 < length cut
  pub plain : HasNo begins_cut (cut ++ take 1 rest)
  pub ends : (rest ≡ []) ⊎ BeginsWith begins_cut rest

-- a letter or `_`, and as many letters, digits, `_` and `$` as follow it
pub record IsWord (word rest : List ℕ) : Type 0 where
  pub begins : is_letter (slice_index word 0) ≡ true
  pub all : AllAre is_word_byte word
  pub ends : StopsAt is_word_byte rest
