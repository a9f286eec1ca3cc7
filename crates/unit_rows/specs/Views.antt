-- What the types of the code mean.
use Rattle.std.specs.Prelude.{List}
use Rattle.module_registry.specs.declared.build_job.BuildJob.{BuildJob}
use Rattle.unit_forge.specs.Views.{jobs_made}
use Rattle.unit_rows.specs.declared.counting_forge.CountingForge.{CountingForge}

-- the jobs whose units were made, in their order
abbrev pub made_by : CountingForge → List BuildJob
made_by f = jobs_made f.inner
