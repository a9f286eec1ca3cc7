use Rattle.live_session.proofs.TrueDisplays.{true_display}
use Rattle.live_session.specs.Judging.{world_after}
use Rattle.live_session.specs.Worlds.{fresh}
use Rattle.live_session.proofs.laws.displays_tell_the_truth.Goals as goal

pub returns : goal.returns
returns c st before t line prefix design m ms = true_display st (world_after st before fresh) t line prefix design m ms
