-- What jobs of the code mean whose names are texts.
use Rattle.std.specs.Prelude.{map}
use Rattle.ls_text.specs.TextViews.{text_items}
use Rattle.unit_jobs.specs.declared.unnamed_job.UnnamedJob.{UnnamedJob}
use Rattle.unit_jobs.specs.Jobs.{InstanceJob}

abbrev pub unnamed_view : UnnamedJob → InstanceJob
unnamed_view u = record {
  «module» = u.module.value;
  parameters = u.parameters;
  clock = u.clock;
  children = u.children;
  names = map text_items u.texts.items;
}
