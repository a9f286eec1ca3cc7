-- What a reader hands out is of its form.
use Rattle.std.proofs.Common.{ℕ, Bool, true, false, List, [], ◌∷◌, ◌++◌, Ok, refl}
use Rattle.command_read.specs.Asking.{Asked}
use Rattle.command_read.specs.Formed.{IsFormed}
use Rattle.command_read.specs.Leading.{MayFollow}
use Rattle.command_read.specs.Readers.{HandsOut, asked_of, has_ended, left, next_number}
use Rattle.command_read.specs.declared.reader.Reader.{Reader}
use Rattle.command_read.proofs.Forms.{asks_formed_first}

-- nothing may come behind any bytes, which then end
pub may_end : (ended : Bool) → MayFollow ended [] true
may_end true = (refl, refl)
may_end false = tt

-- a command that is handed out is of its form
pub formed_first : (old new : Reader) (kept : List ℕ) (asked : Asked) → HandsOut old new (Ok asked ∷ []) kept → IsFormed asked
formed_first old new kept asked hands =
    asks_formed_first true (next_number old) (left old ++ (kept ++ [])) asked (asked_of new [] true) (hands [] true (may_end (has_ended new)))
