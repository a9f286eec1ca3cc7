-- What a refusal says of a reading.
use Rattle.std.proofs.Common.{◌≡◌, ℕ, List, Result, Err, sym, ap, ◌∙◌}
use Rattle.ls_text.specs.declared.refusal.Refusal.{Refusal}
use Rattle.ls_text.specs.declared.refusal.Refusal.TheVariants as refusal
use Rattle.ls_text.specs.Readings.{TextFault, Refuses}
use Rattle.command_read.specs.Spoken.{IsFault}

-- a refusal that is a fault refuses a reading that gives that fault
pub refuses : {B : Type 0} (names : List (List ℕ)) (e : Refusal) (fault : TextFault) (read : Result B TextFault) → IsFault names e fault → read ≡ Err fault → Refuses names e read
refuses names (refusal.Fault f) fault read is gives = gives ∙ ap Err (sym is)
refuses names refusal.NoMemory fault read is gives = tt
