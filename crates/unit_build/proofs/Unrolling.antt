-- The steps of a job, by what unrolling tells.
use Rattle.std.proofs.Common.{◌≡◌, Bool, List, Result, Ok, Err, sym, ◌∙◌, ap}
use Rattle.std.specs.Prelude.{Option, Some, None}
use Rattle.ls_text.specs.declared.fault.Fault.{Fault}
use Rattle.gen_unroll.specs.Steps.{ModuleStep}
use Rattle.gen_unroll.specs.Told.{fault_in}
use Rattle.gen_unroll.specs.Unrolled.{unrolled_module, turn_limit, steps_told}
use Rattle.ls_text.specs.Answers.{◌>>=◌}
use Rattle.gen_unroll.specs.Values.{ConstantValue}
use Rattle.gen_unroll.proofs.Answered.{ended, stopped}
use Rattle.module_registry.specs.declared.build_job.BuildJob.{BuildJob}
use Rattle.gen_unroll.specs.Numbers.{SignalTable, module_table}
use Rattle.unit_build.specs.Building.{module_of, job_steps, settled_signals, unit_with, built}
use Rattle.unit_build.specs.FromSteps.{unit_from}
use Rattle.gen_unroll.specs.Overriding.{constant_sorts, overrides_of}

-- unrolling finds a fault
pub stops : (job : BuildJob) (os : List (Option ConstantValue)) (f : Fault) → os ≡ overrides_of (constant_sorts (module_of job)) job.parameters
    → Some f ≡ fault_in (unrolled_module turn_limit os (module_of job)).ending → built job ≡ Err f
unfolding built job_steps
stops job os f is h =
    ap (λ (zs : List (Option ConstantValue)). steps_told (unrolled_module turn_limit zs (module_of job)) >>= unit_from job) (sym is)
    ∙ ap (λ (r : Result (List ModuleStep) Fault). r >>= unit_from job)
    (stopped (unrolled_module turn_limit os (module_of job)).said (unrolled_module turn_limit os (module_of job)).ending f h)

-- or it tells all steps
pub goes : (job : BuildJob) (os : List (Option ConstantValue)) (ss : List ModuleStep) → os ≡ overrides_of (constant_sorts (module_of job)) job.parameters
    → None ≡ fault_in (unrolled_module turn_limit os (module_of job)).ending → ss ≡ (unrolled_module turn_limit os (module_of job)).said
    → built job ≡ unit_from job ss
unfolding built job_steps
goes job os ss is h said =
    ap (λ (zs : List (Option ConstantValue)). steps_told (unrolled_module turn_limit zs (module_of job)) >>= unit_from job) (sym is)
    ∙ ap (λ (r : Result (List ModuleStep) Fault). r >>= unit_from job)
    (ended (unrolled_module turn_limit os (module_of job)).said (unrolled_module turn_limit os (module_of job)).ending h)
    ∙ ap (unit_from job) (sym said)

-- the unit by the table of its signals and by what is settled
pub from_table : (job : BuildJob) (t : SignalTable) (ss : List ModuleStep) (flags : List Bool) → module_table (module_of job) ss ≡ Ok t
    → flags ≡ settled_signals (module_of job) t ss → unit_from job ss ≡ unit_with job t flags ss
from_table job t ss flags table is =
    ap (λ (r : Result SignalTable Fault). r >>= λ u. unit_with job u (settled_signals (module_of job) u ss) ss) table
    ∙ ap (λ (fs : List Bool). unit_with job t fs ss) (sym is)
