use Rattle.std.proofs.Common.{◌∙◌, sym, ap}
use Rattle.std.specs.Option.{option_copied, option_map}
use Rattle.ls_text.specs.declared.name_id.NameId.{NameId}
use Rattle.reg_transform.specs.Found.{name_of}
use Rattle.reg_transform.specs.Registers.{is_same}
use Rattle.reg_transform.proofs.Finding.{names_decide, name_same, looked_up, swap}
use Rattle.reg_transform.proofs.changes.Changes.renamed.Goals as goal

pub returns-in-Some : goal.returns-in-Some
returns-in-Some c =
    ap (option_map (λ (n : NameId). n.0))
    (ap option_copied (sym c.in-Some.is)
    ∙ c.get.ensures.value
    ∙ looked_up name_of is_same (name_of c.args.name) _ (λ k. name_same c.args.name k ∙ swap is_same names_decide (name_of c.args.name) (name_of k))
    c.args.self.now.renamed.entries)

pub returns-in-None : goal.returns-in-None
returns-in-None c =
    ap (option_map (λ (n : NameId). n.0))
    (ap option_copied (sym c.in-None.is)
    ∙ c.get.ensures.value
    ∙ looked_up name_of is_same (name_of c.args.name) _ (λ k. name_same c.args.name k ∙ swap is_same names_decide (name_of c.args.name) (name_of k))
    c.args.self.now.renamed.entries)
