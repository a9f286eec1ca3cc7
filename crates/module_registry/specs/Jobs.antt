-- The text of a job.
use Rattle.std.specs.Prelude.{ℕ, List}
use Rattle.verilog_ast.specs.Views.{declaration_of}
use Rattle.module_registry.specs.Constants.{constants_of}
use Rattle.module_registry.specs.KeyTexts.{key_text}
use Rattle.module_registry.specs.declared.build_job.BuildJob.{BuildJob}

abbrev pub job_text : List (List ℕ) → BuildJob → List ℕ
job_text names job =
    key_text names job.module.value.spelling (constants_of (declaration_of job.module.value.body)) job.parameters job.clock job.children
