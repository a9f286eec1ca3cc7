-- Bytes of which the lines up to a place are looked at.
use Rattle.std.specs.Prelude.{◌≡◌, ℕ, Bool, List, ◌++◌, drop}
use Rattle.command_read.specs.Lines.{script_lines}
use Rattle.command_read.specs.Leading.{MayFollow}
use Rattle.command_read.specs.Scripts.{Stand, asked_by, asks}

-- what bytes ask for, the first of which begin that line, is what their lines from a place on ask for, whatever comes behind
pub record Scanned (ended : Bool) (number : ℕ) (bytes : List ℕ) (stand : Stand) (line next : ℕ) : Type 0 where
  pub rest : (more : List ℕ) (end : Bool) → MayFollow ended more end → asks end number (bytes ++ more)
      ≡ asked_by end stand line (script_lines end (drop next bytes ++ more))
