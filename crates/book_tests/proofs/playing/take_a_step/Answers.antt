use Rattle.book_tests.proofs.Tries.{all_held}
use Rattle.book_tests.proofs.playing.take_a_step.Goals as goal

pub returns-in_ok-answer-in_default : goal.returns-in_ok-answer-in_default
returns-in_ok-answer-in_default g c = all_held _ _ _ _ _ _ _ c.call.ensures c.requires.held
