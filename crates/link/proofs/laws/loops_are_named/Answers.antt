use Rattle.link.proofs.Circles.{loop_named}
use Rattle.link.proofs.laws.loops_are_named.Goals as goal

pub returns : goal.returns
returns c = loop_named
