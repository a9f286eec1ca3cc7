-- What a registry holds, as plain data: keys with their units, in the order in which they came in.
use Rattle.std.specs.Prelude.{◌≡◌, Bool, true, false, if◌then◌else◌, List, [], ◌∷◌, ◌++◌, map, Option, Some, None, Result, Ok, ◌⊎◌}
use Rattle.std.specs.List.{All}
use Rattle.ls_text.specs.declared.fault.Fault.{Fault}
use Rattle.ls_text.specs.declared.refusal.Refusal.{Refusal}
use Rattle.ls_text.specs.declared.refusal.Refusal.TheVariants as refusal
use Rattle.module_registry.specs.declared.build_job.BuildJob.{BuildJob}
use Rattle.module_registry.specs.Keys.{KeyData, same, jobs_of}
use Rattle.ls_text.specs.Answers.{◌>>=◌}
use Rattle.module_registry.specs.Building.{Built, built_all}

pub record Entry : Type 0 where
  pub key : KeyData
  pub unit : Built

abbrev pub keys_of : List Entry → List KeyData
keys_of es = map (λ (e : Entry). e.key) es

-- the unit that is held under a key
abbrev pub unit_under : KeyData → List Entry → Option Built
unit_under k [] = None
unit_under k (e ∷ es) = if same k e.key then Some e.unit else unit_under k es

abbrev pub is_among : KeyData → List KeyData → Bool
is_among k [] = false
is_among k (h ∷ hs) = if same k h then true else is_among k hs

-- a key, where it isn't held
abbrev pub if_missing : (held : List KeyData) → KeyData → List KeyData
if_missing held k = if is_among k held then [] else k ∷ []

-- the keys that aren't held, in their order
abbrev pub missing : (held : List KeyData) → List KeyData → List KeyData
missing held [] = []
missing held (k ∷ ks) = if_missing held k ++ missing held ks

-- each of these keys is neither held nor one of those before it
abbrev pub are_new : (held : List KeyData) → List KeyData → Bool
are_new held [] = true
are_new held (k ∷ ks) = if is_among k held then false else are_new (held ++ k ∷ []) ks

-- keys with their units
abbrev pub entries : List KeyData → List Built → List Entry
entries [] us = []
entries (k ∷ ks) [] = []
entries (k ∷ ks) (u ∷ us) = record { key = k; unit = u } ∷ entries ks us

-- what is held once these keys are: what was held, and then each missing key with the unit of its job; or the first fault among these jobs
abbrev pub ensured : (BuildJob → Result Built Fault) → List Entry → List KeyData → Result (List Entry) Fault
ensured builds es keys = built_all builds (jobs_of (missing (keys_of es) keys)) >>= λ us. Ok (es ++ entries (missing (keys_of es) keys) us)

-- the jobs that were made, behind a refusal: none more where there is a fault; where memory ran out, none more or all that were missing
abbrev pub MadeAt : Refusal → (before more after : List BuildJob) → Type 0
MadeAt (refusal.Fault f) before more after = after ≡ before
MadeAt refusal.NoMemory before more after = (after ≡ before) ⊎ (after ≡ before ++ more)

-- each unit is what building gives for the job of its key
pub record Holds (builds : BuildJob → Result Built Fault) (es : List Entry) : Type 0 where
  pub each : All (λ (e : Entry). builds e.key.job ≡ Ok e.unit) es
