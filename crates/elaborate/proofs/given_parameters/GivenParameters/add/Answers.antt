use Rattle.std.proofs.Common.{◌∙◌, ap, refl, map}
use Rattle.elaborate.proofs.GivenValues.{given_more}
use Rattle.elaborate.specs.Views.{given_entry}
use Rattle.elaborate.proofs.given_parameters.GivenParameters.add.Goals as goal

pub returns : goal.returns
returns c =
    ap (λ es. map given_entry es) c.in_ok-insert.ensures.entries
    ∙ given_more _ (λ x y. refl) c.args.self.now.values.entries c.args.name c.args.value c.requires
