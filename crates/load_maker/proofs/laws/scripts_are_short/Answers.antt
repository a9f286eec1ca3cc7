use Rattle.load_maker.proofs.Lengths.{scripts_short}
use Rattle.load_maker.proofs.laws.scripts_are_short.Goals as goal

pub returns : goal.returns
returns c = scripts_short
