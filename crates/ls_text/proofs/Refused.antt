-- A refusal of a first step is one of the whole.
use Rattle.std.proofs.Common.{List, ℕ, Result, ap}
use Rattle.ls_text.specs.declared.refusal.Refusal.{Refusal}
use Rattle.ls_text.specs.declared.refusal.Refusal.TheVariants as refusal
use Rattle.ls_text.specs.Readings.{TextFault, Refuses, ◌>>=◌}

pub refused_on : {A B : Type 0} (names : List (List ℕ)) (e : Refusal) (read : Result A TextFault) (f : A → Result B TextFault)
    → Refuses names e read → Refuses names e (read >>= f)
refused_on names (refusal.Fault x) read f h = ap (λ r. r >>= f) h
refused_on names refusal.NoMemory read f h = tt
