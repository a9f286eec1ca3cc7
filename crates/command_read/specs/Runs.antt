-- What a reader has told since its beginning.
use Rattle.std.specs.Prelude.{◌≡◌, ℕ, Bool, List, ◌++◌, Result}
use Rattle.ls_text.specs.Readings.{TextFault}
use Rattle.command_read.specs.declared.reader.Reader.{Reader}
use Rattle.command_read.specs.Leading.{MayFollow}
use Rattle.command_read.specs.Asking.{Asked}
use Rattle.command_read.specs.Scripts.{asks}
use Rattle.command_read.specs.Readers.{has_ended, asked_of}

-- the second commands are the first ones, and then perhaps more
abbrev pub Continues : (front all : List (Result Asked TextFault)) → Type 0
Continues front all = (rest : List (Result Asked TextFault)) × (all ≡ front ++ rest)

-- a reader has kept those bytes since its beginning and told that: it is what they ask for, and then what is still asked for, whatever comes behind
pub record HasTold (r : Reader) (bytes : List ℕ) (told : List (Result Asked TextFault)) : Type 0 where
  pub asked : (more : List ℕ) (end : Bool) → MayFollow (has_ended r) more end → asks end 1 (bytes ++ more) ≡ told ++ asked_of r more end
