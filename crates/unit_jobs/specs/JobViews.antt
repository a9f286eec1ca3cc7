-- What jobs of the code mean, with the texts of their names.
use Rattle.std.specs.Prelude.{ℕ, List, map}
use Rattle.ls_text.specs.TextViews.{text_of}
use Rattle.module_registry.specs.declared.build_job.BuildJob.{BuildJob}
use Rattle.unit_jobs.specs.Jobs.{InstanceJob}

abbrev pub job_view : (texts : List (List ℕ)) → BuildJob → InstanceJob
job_view texts job = record {
  «module» = job.module.value;
  parameters = job.parameters;
  clock = job.clock;
  children = job.children;
  names = map (text_of texts) job.names;
}
