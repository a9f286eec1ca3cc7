-- What the types of the code mean.
use Rattle.std.specs.Prelude.{List}
use Rattle.module_registry.specs.declared.build_job.BuildJob.{BuildJob}
use Rattle.module_registry.specs.Keys.{jobs_of}
use Rattle.unit_forge.specs.declared.rayon_forge.RayonForge.{RayonForge}

-- the jobs that were made, in their order
abbrev pub jobs_made : RayonForge → List BuildJob
jobs_made f = jobs_of f.made.items
