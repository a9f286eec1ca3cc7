-- What a forge made behind a refusal.
use Rattle.std.specs.Prelude.{◌≡◌, ℕ, List, [], ◌++◌, map, Option, Ok}
use Rattle.ls_text.specs.declared.name_id.NameId.{NameId}
use Rattle.ls_text.specs.declared.refusal.Refusal.{Refusal}
use Rattle.ls_text.specs.declared.refusal.Refusal.TheVariants.{NoMemory}
use Rattle.ls_text.specs.declared.source_file.SourceFile.{SourceFile}
use Rattle.typed_ir.specs.declared.instance.Instance.{Instance}
use Rattle.module_registry.specs.declared.build_job.BuildJob.{BuildJob}
use Rattle.module_registry.specs.Building.{Built, built_all}
use Rattle.module_registry.specs.Entries.{missing}
use Rattle.module_registry.specs.Keys.{KeyData, jobs_of}
use Rattle.unit_build.specs.Building.{built}
use Rattle.version_swap.specs.FirstKeys.{first_jobs, first_keys, key_of}
use Rattle.version_swap.specs.Founds.{AreFound}

-- no job more, or those of the keys that files come to and that weren't held, in their order: where all of these jobs have units, or memory ran out
pub data MadeBehind (files : List SourceFile) (name : Option NameId) (clock : NameId) (held : List KeyData) (before after : List BuildJob)
    : Refusal → Type 0 where
  no_more : {refusal : Refusal} → after ≡ before → MadeBehind files name clock held before after refusal
  those : {words : List (List ℕ)} {xs : List Instance} {js : List BuildJob} {units : List Built} {refusal : Refusal}
      → AreFound words files name clock xs js → built_all built (first_jobs words [] js) ≡ Ok units
      → after ≡ before ++ jobs_of (missing held (first_keys [] (map (key_of words) js))) → MadeBehind files name clock held before after refusal
  out_of_memory : {words : List (List ℕ)} {xs : List Instance} {js : List BuildJob} → AreFound words files name clock xs js
      → after ≡ before ++ jobs_of (missing held (first_keys [] (map (key_of words) js))) → MadeBehind files name clock held before after NoMemory
