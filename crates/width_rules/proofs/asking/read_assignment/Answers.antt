use Rattle.width_rules.proofs.Noted.{notes_two}
use Rattle.width_rules.proofs.asking.read_assignment.Goals as goal

pub returns : goal.returns
returns c = notes_two _ _ _ _ _ _ _ _ c.in_ok-next.ensures c.in_ok-end.ensures
