use Rattle.book_tests.specs.Held.{AreHeld}
use Rattle.book_tests.proofs.playing.play_counted.Given as goal

abbrev pub invariant-loop-step : goal.invariant-loop-step
invariant-loop-step g l = AreHeld (λ h. h.ticket) (λ h. h.by) l.book l.held.first l.held.second l.held.closed
