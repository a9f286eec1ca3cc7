use Rattle.reg_transform.proofs.PathTables.{next_step, equal_steps, own_step}
use Rattle.reg_transform.proofs.numbering.number_of.Goals as goal

pub returns : goal.returns
returns c =
    let stored = c.in_ok-number.ensures.stored in
    next_step _ equal_steps own_step c.args.known.now.keys c.insert_full.new.self.keys c.args.step stored.0 c.in_ok-number.number c.requires.table c.requires.goes_on
    c.in_ok-number.ensures.keys stored.1 stored.2
