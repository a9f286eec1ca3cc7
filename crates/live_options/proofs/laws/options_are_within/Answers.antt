use Rattle.live_options.proofs.Bounds.{options_within}
use Rattle.live_options.proofs.laws.options_are_within.Goals as goal

pub returns : goal.returns
returns c = options_within
