-- What is found of files, with all that the laws of units ask of it.
use Rattle.std.specs.Prelude.{◌≡◌, ◌<◌, ℕ, List, [], length, map, Option, Some, None}
use Rattle.std.specs.List.{All}
use Rattle.ls_text.specs.declared.name_id.NameId.{NameId}
use Rattle.ls_text.specs.declared.source_file.SourceFile.{SourceFile}
use Rattle.ls_text.specs.Texts.{text_at}
use Rattle.verilog_ast.specs.NamesWithin.{names_in_declaration}
use Rattle.verilog_ast.specs.Views.{declaration_of}
use Rattle.typed_ir.specs.declared.instance.Instance.{Instance}
use Rattle.elaborate.specs.Trees.{all_seen}
use Rattle.elaborate.specs.TreeViews.{instance_view}
use Rattle.module_registry.specs.declared.build_job.BuildJob.{BuildJob}
use Rattle.version_swap.specs.JobsUnder.{IsIn}
use Rattle.version_swap.specs.TreeJobs.{AreJobsIn}
use Rattle.version_swap.specs.Founds.{AreFound}

-- the number of a top's name; where none is given, that of the empty text
abbrev pub IsNumberOf : List (List ℕ) → Option NameId → ℕ → Type 0
IsNumberOf names (Some name) n = n ≡ name.0
IsNumberOf names None n = (n < length names) × (text_at names n ≡ [])

-- the names in the module of a job are names of the table
abbrev pub HasModuleIn : (names : List (List ℕ)) → BuildJob → Type 0
HasModuleIn names job = All (IsIn names) (names_in_declaration (declaration_of job.module.value.body))

pub record IsFoundUnder (names : List (List ℕ)) (files : List SourceFile) (name : Option NameId) (clock : NameId) (xs : List Instance)
    (js : List BuildJob) : Type 0 where
  pub found : AreFound names files name clock xs js
  pub known : AreJobsIn found.texts found.known names found.ms found.top clock.0 xs js
  pub seen : map (instance_view found.known) xs ≡ all_seen found.texts found.all
  pub modules : All (HasModuleIn names) js
