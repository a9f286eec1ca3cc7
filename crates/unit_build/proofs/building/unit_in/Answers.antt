use Rattle.std.proofs.Common.{◌≡◌, Result, Ok, map, sym, subst, rules}
use Rattle.ls_text.specs.declared.fault.Fault.{Fault}
use Rattle.ls_text.specs.Answers.{Answers}
use Rattle.gen_unroll.specs.Views.{step_of}
use Rattle.module_registry.specs.Building.{Built}
use Rattle.module_registry.specs.UnitViews.{built_of}
use Rattle.gen_unroll.specs.ModuleViews.{table_in}
use Rattle.gen_unroll.specs.Numbers.{module_table}
use Rattle.unit_build.specs.Building.{module_of, settled_signals}
use Rattle.unit_build.proofs.Unrolling.{from_table}
use Rattle.unit_build.proofs.building.unit_in.Goals as goal

pub returns : goal.returns
returns c =
    let job = c.args.job.now in
    let steps = map step_of c.args.steps.now in
    let t = table_in c.in_ok-signals.signals in
    let table : module_table (module_of job) steps ≡ Ok t = search rules in
    let flags : c.deref-3.result.now ≡ settled_signals (module_of job) t steps = search rules in
    subst (λ (d : Result Built Fault). Answers c.unit_with.result built_of d) (sym (from_table job t steps c.deref-3.result.now table flags)) c.unit_with.ensures
