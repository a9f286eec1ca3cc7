use Rattle.stimulus.proofs.Alike.{unlike_lengths}
use Rattle.stimulus.proofs.settings.are_equal.Goals as goal

pub returns-then-one-other : goal.returns-then-one-other
returns-then-one-other c = unlike_lengths c.args.one.now c.args.other.now c.if-one-other.true
