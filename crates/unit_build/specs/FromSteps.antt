-- The unit of a job by the steps of its module.
use Rattle.std.specs.Prelude.{List, Result}
use Rattle.ls_text.specs.declared.fault.Fault.{Fault}
use Rattle.gen_unroll.specs.Steps.{ModuleStep}
use Rattle.ls_text.specs.Answers.{◌>>=◌}
use Rattle.module_registry.specs.declared.build_job.BuildJob.{BuildJob}
use Rattle.module_registry.specs.Building.{Built}
use Rattle.gen_unroll.specs.Numbers.{module_table}
use Rattle.unit_build.specs.Building.{module_of, settled_signals, unit_with}

abbrev pub unit_from : BuildJob → List ModuleStep → Result Built Fault
unit_from job steps = module_table (module_of job) steps >>= λ t. unit_with job t (settled_signals (module_of job) t steps) steps
