use Rattle.reg_transform.specs.Found.{key_of, same_key}
use Rattle.reg_transform.proofs.Finding.{keys_decide, key_same, put_found}
use Rattle.reg_transform.proofs.old_values.OldValues.put.Goals as goal

pub returns : goal.returns
returns c = put_found _ key_of same_key keys_decide key_same c.args.self.now.by_key.entries c.insert.new.self.entries c.args.key c.args.value
    c.in_ok-insert.ensures.updates.1 c.in_ok-insert.ensures.updates.3
