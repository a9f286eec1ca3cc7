-- Keys and jobs in the order of the first instances that have them: one of which another of the same text stands before is left out.
use Rattle.std.specs.Prelude.{ℕ, Bool, true, false, if◌then◌else◌, List, [], ◌∷◌, ◌++◌}
use Rattle.std.specs.Str.{bytes_eq}
use Rattle.sha2.specs.Sha256.{sha256}
use Rattle.module_registry.specs.declared.build_job.BuildJob.{BuildJob}
use Rattle.module_registry.specs.Entries.{is_among}
use Rattle.module_registry.specs.Jobs.{job_text}
use Rattle.module_registry.specs.Keys.{KeyData}

-- ---- jobs, by their texts

abbrev pub is_text_among : (names : List (List ℕ)) → (text : List ℕ) → List BuildJob → Bool
is_text_among names text [] = false
is_text_among names text (j ∷ js) = if bytes_eq text (job_text names j) then true else is_text_among names text js

abbrev pub with_job : (names : List (List ℕ)) → List BuildJob → BuildJob → List BuildJob
with_job names js j = if is_text_among names (job_text names j) js then js else js ++ j ∷ []

-- these, and of further ones the first of each text
abbrev pub first_jobs : (names : List (List ℕ)) → List BuildJob → List BuildJob → List BuildJob
first_jobs names js [] = js
first_jobs names js (k ∷ ks) = first_jobs names (with_job names js k) ks

-- ---- keys

-- the key of a job by a table of names
abbrev pub key_of : (names : List (List ℕ)) → BuildJob → KeyData
key_of names job = record { digest = sha256 (job_text names job); text = job_text names job; job = job }

abbrev pub with_key : List KeyData → KeyData → List KeyData
with_key ks k = if is_among k ks then ks else ks ++ k ∷ []

abbrev pub first_keys : List KeyData → List KeyData → List KeyData
first_keys ks [] = ks
first_keys ks (m ∷ ms) = first_keys (with_key ks m) ms
