use Rattle.std.proofs.Common.{◌∙◌, sym, ap}
use Rattle.std.specs.Option.{option_copied}
use Rattle.typed_ir.proofs.Cases.{turned}
use Rattle.width_rules.proofs.Finding.{meaning_or, looked_up}
use Rattle.width_rules.proofs.scope.Scope.find.Goals as goal

pub returns-in-Some : goal.returns-in-Some
returns-in-Some c =
    ap (λ o. meaning_or o) (ap option_copied (sym c.in-Some.is) ∙ c.get.ensures.value)
    ∙ looked_up c.args.name.0 _ (λ k. turned c.args.name.0 k.0) c.args.self.now.names.entries

pub returns-in-None : goal.returns-in-None
returns-in-None c =
    ap (λ o. meaning_or o) (ap option_copied (sym c.in-None.is) ∙ c.get.ensures.value)
    ∙ looked_up c.args.name.0 _ (λ k. turned c.args.name.0 k.0) c.args.self.now.names.entries
