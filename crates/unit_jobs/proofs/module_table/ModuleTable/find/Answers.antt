use Rattle.std.proofs.Common.{ap, refl, ◌∙◌}
use Rattle.std.specs.Option.{option_map}
use Rattle.unit_jobs.specs.TableViews.{shared_module}
use Rattle.unit_jobs.proofs.Keys.{lent, looked_up}
use Rattle.unit_jobs.proofs.module_table.ModuleTable.find.Goals as goal

pub returns : goal.returns
returns c =
    lent c.get.result
    ∙ ap (λ o. option_map shared_module o) c.get.ensures.value
    ∙ looked_up c.args.name.0 _ (λ k. refl) c.args.self.now.modules.entries c.args.self.now.named
