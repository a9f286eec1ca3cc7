-- A job under a table is told by its text: the tokens of its module have neither spaces nor line ends in them.
use Rattle.std.proofs.Common.{◌≡◌, ℕ, true, List, ◌∙◌, ap}
use Rattle.verilog_ast.specs.declared.module.Module.{Module}
use Rattle.module_registry.specs.declared.build_job.BuildJob.{BuildJob}
use Rattle.version_swap.specs.Spelled.{IsSpelledUnder}
use Rattle.version_swap.specs.JobsUnder.{IsJobUnder}
use Rattle.version_swap.specs.Told.{lacks, IsTold}
use Rattle.version_swap.proofs.ConstantNames.{constants_told}
use Rattle.version_swap.proofs.ProperWords.{tokens_told}
use Rattle.version_swap.proofs.Spelled.{spelling_lacks}

module_lacks : (names : List (List ℕ)) (x : Module) → IsSpelledUnder names x → lacks 10 x.spelling ≡ true
module_lacks names x h =
    ap (lacks 10) h.spelled.text ∙ spelling_lacks names h.spelled.own (tokens_told names h.spelled.own h.proper)

pub told_under : (names : List (List ℕ)) (job : BuildJob) → IsJobUnder names job → IsTold names job
told_under names job h = record {
  spelling = module_lacks names job.module.value h.spelled;
  constants = constants_told names job.module.value h.spelled;
  values = h.values;
  clock = h.clock;
  children = h.children;
}
