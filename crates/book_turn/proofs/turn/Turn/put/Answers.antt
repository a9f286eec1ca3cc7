use Rattle.book_turn.proofs.Steps.{leaves_push, holder_learns}
use Rattle.book_turn.proofs.turn.Turn.put.Goals as goal

pub push_as-requires-clause-rule : goal.push_as-requires-clause-rule
push_as-requires-clause-rule g c = (
  leaves_push _ _ _ _ _ c.requires.turn.live c.requires.may,
  holder_learns _ _ _ c.requires.turn.live c.requires.may.holds,
)
