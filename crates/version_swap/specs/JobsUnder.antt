-- Jobs as they are made of modules that were read, under a table of names.
use Rattle.std.specs.Prelude.{◌≡◌, ℕ, ◌<◌, ◌≤◌, List, [], length, map, Ok}
use Rattle.std.specs.List.{All}
use Rattle.ls_text.specs.declared.name_id.NameId.{NameId}
use Rattle.verilog_ast.specs.Views.{declaration_of}
use Rattle.gen_unroll.specs.Steps.{ModuleStep, blocks_in}
use Rattle.module_registry.specs.Constants.{constants_of}
use Rattle.module_registry.specs.declared.build_job.BuildJob.{BuildJob}
use Rattle.unit_jobs.specs.BlockNames.{texts_within}
use Rattle.ls_text.specs.TextViews.{text_of}
use Rattle.unit_build.specs.Building.{job_steps}
use Rattle.version_swap.specs.Spelled.{IsSpelledUnder}
use Rattle.version_swap.specs.Told.{IsClockTold, IsChildTold}

-- the number of a name of the table
abbrev pub IsIn : List (List ℕ) → NameId → Type 0
IsIn names id = id.0 < length names

pub record IsJobUnder (names : List (List ℕ)) (job : BuildJob) : Type 0 where
  pub spelled : IsSpelledUnder names job.module.value
  -- no value is left out
  pub values : length job.parameters ≤ length (constants_of (declaration_of job.module.value.body))
  pub clock : IsClockTold names job.clock
  pub children : All (IsChildTold names) job.children
  pub within : All (IsIn names) job.names
  -- its names are those of what stands within its blocks (IEEE Std 1364-2005, 12.4 and 12.5)
  pub named : (steps : List ModuleStep) → job_steps job ≡ Ok steps
      → map (text_of names) job.names ≡ texts_within names (blocks_in steps) [] steps
