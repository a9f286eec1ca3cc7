use Rattle.std.proofs.Common.{ap, refl, ◌∙◌}
use Rattle.std.specs.Option.{option_map}
use Rattle.module_names.proofs.Keys.{declared, lent, looked_up}
use Rattle.module_names.proofs.modules.Modules.find.Goals as goal

pub returns : goal.returns
returns c =
    lent c.get.result
    ∙ ap (λ o. option_map declared o) c.get.ensures.value
    ∙ looked_up c.args.name.0 _ (λ k. refl) c.args.self.now.names.entries c.args.self.now.named
