use Rattle.std.proofs.Common.{◌∙◌, sym, ap}
use Rattle.std.specs.Option.{option_copied}
use Rattle.reg_transform.specs.Found.{name_of}
use Rattle.reg_transform.specs.Registers.{is_same}
use Rattle.reg_transform.proofs.Finding.{names_decide, name_same, looked_up, swap}
use Rattle.reg_transform.proofs.changes.Changes.created.Goals as goal

pub returns-in-Some : goal.returns-in-Some
returns-in-Some c =
    ap option_copied (sym c.in-Some.is)
    ∙ c.get.ensures.value
    ∙ looked_up name_of is_same (name_of c.args.name) _ (λ k. name_same c.args.name k ∙ swap is_same names_decide (name_of c.args.name) (name_of k)) c.args.self.now.created.entries

pub returns-in-None : goal.returns-in-None
returns-in-None c =
    ap option_copied (sym c.in-None.is)
    ∙ c.get.ensures.value
    ∙ looked_up name_of is_same (name_of c.args.name) _ (λ k. name_same c.args.name k ∙ swap is_same names_decide (name_of c.args.name) (name_of k)) c.args.self.now.created.entries
