use Rattle.reg_transform.specs.Found.{name_of}
use Rattle.reg_transform.specs.Registers.{is_same}
use Rattle.reg_transform.proofs.Finding.{names_decide, name_same, put_found}
use Rattle.reg_transform.proofs.greatest_values.GreatestValues.put.Goals as goal

pub returns : goal.returns
returns c = put_found _ name_of is_same names_decide name_same c.args.self.now.by_name.entries c.insert.new.self.entries c.args.name c.args.value
    c.in_ok-insert.ensures.updates.1 c.in_ok-insert.ensures.updates.3
