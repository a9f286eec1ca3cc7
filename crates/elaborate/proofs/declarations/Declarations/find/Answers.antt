use Rattle.std.proofs.Common.{◌∙◌, sym, ap}
use Rattle.std.specs.Option.{option_map, option_copied}
use Rattle.gen_unroll.specs.Views.{here_of}
use Rattle.elaborate.specs.Views.{declaration_of}
use Rattle.elaborate.proofs.Finding.{looked_up, keys_are}
use Rattle.elaborate.proofs.declarations.Declarations.find.Goals as goal

pub returns-in-Some : goal.returns-in-Some
returns-in-Some c =
    ap (λ o. option_map declaration_of o) (ap option_copied (sym c.in-Some.is) ∙ c.get.ensures.value)
    ∙ looked_up (record { block = here_of c.args.block; name = c.args.name.0 }) _ (λ k. keys_are (record { block = c.args.block; name = c.args.name }) k) c.args.self.now.names.entries

pub returns-in-None : goal.returns-in-None
returns-in-None c =
    ap (λ o. option_map declaration_of o) (ap option_copied (sym c.in-None.is) ∙ c.get.ensures.value)
    ∙ looked_up (record { block = here_of c.args.block; name = c.args.name.0 }) _ (λ k. keys_are (record { block = c.args.block; name = c.args.name }) k) c.args.self.now.names.entries
