use Rattle.std.proofs.Common.{◌∙◌, ap}
use Rattle.std.specs.Option.{option_map}
use Rattle.ls_text.specs.declared.name_id.NameId.{NameId}
use Rattle.reg_transform.specs.Found.{name_of, found}
use Rattle.reg_transform.specs.Registers.{is_same}
use Rattle.reg_transform.proofs.Finding.{names_decide, name_same, put_found, number_put}
use Rattle.reg_transform.proofs.changes.Changes.rename.Goals as goal

pub returns-clause-renamed : goal.returns-clause-renamed
returns-clause-renamed c = λ name.
    ap (option_map (λ (n : NameId). n.0))
    (put_found _ name_of is_same names_decide name_same c.args.self.now.renamed.entries c.insert.new.self.entries c.args.name c.args.from
    c.in_ok-insert.ensures.updates.1 c.in_ok-insert.ensures.updates.3 name)
    ∙ number_put (is_same (name_of c.args.name) name) c.args.from (found name_of is_same c.args.self.now.renamed.entries name)
