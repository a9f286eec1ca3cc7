use Rattle.std.proofs.Common.{◌∙◌, sym, ap, refl}
use Rattle.std.specs.Option.{option_copied}
use Rattle.gen_unroll.specs.Views.{override_view}
use Rattle.elaborate.proofs.GivenValues.{found_given}
use Rattle.elaborate.proofs.given_parameters.GivenParameters.find.Goals as goal

pub returns-in-Some : goal.returns-in-Some
returns-in-Some c =
    ap (λ o. override_view o) (ap option_copied (sym c.in-Some.is) ∙ c.get.ensures.value)
    ∙ found_given c.args.name.0 _ (λ k. refl) c.args.self.now.values.entries

pub returns-in-None : goal.returns-in-None
returns-in-None c =
    ap (λ o. override_view o) (ap option_copied (sym c.in-None.is) ∙ c.get.ensures.value)
    ∙ found_given c.args.name.0 _ (λ k. refl) c.args.self.now.values.entries
