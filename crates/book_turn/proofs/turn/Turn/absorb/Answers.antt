use Rattle.book_turn.proofs.Steps.{worker_merges}
use Rattle.book_turn.proofs.turn.Turn.absorb.Goals as goal

pub absorb-requires-clause-rule : goal.absorb-requires-clause-rule
absorb-requires-clause-rule g c = worker_merges _ _ _ _ _ c.requires.session.live c.requires.worker.live c.requires.outside c.requires.worker.kind
