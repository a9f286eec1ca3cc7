-- The first line of bytes, whatever comes behind them.
use Rattle.std.specs.Prelude.{◌≡◌, ℕ, Bool, true, false, List, [], ◌∷◌, ◌++◌, ⊤}
use Rattle.command_read.specs.Lines.{script_lines}

-- what may come behind bytes, and whether the input may end there: anything, but nothing where it has ended already
abbrev pub MayFollow : (ended : Bool) → (more : List ℕ) → (end : Bool) → Type 0
MayFollow false more end = ⊤
MayFollow true more end = (more ≡ []) × (end ≡ true)

-- the bytes begin with that line, and the rest follows it, whatever comes behind
pub record Leads (ended : Bool) (bytes line rest : List ℕ) : Type 0 where
  pub lines : (more : List ℕ) (end : Bool) → MayFollow ended more end → script_lines end (bytes ++ more) ≡ line ∷ script_lines end (rest ++ more)
