use Rattle.book_turn.proofs.Steps.{hears_learns}
use Rattle.book_turn.proofs.turn.Turn.compare.Goals as goal

pub learn_as-requires-clause-rule : goal.learn_as-requires-clause-rule
learn_as-requires-clause-rule g c = hears_learns _ _ _ c.requires.turn.live
