use Rattle.std.proofs.Common.{true}
use Rattle.book_turn.specs.Passes.{IsOf, known}
use Rattle.live_session.specs.AtTurn.{StandsAt}
use Rattle.session_retries.proofs.running.first_wrong.Given as goal

abbrev pub invariant-loop-row : goal.invariant-loop-row
invariant-loop-row g l = IsOf l.turn l.pass true × StandsAt l.session (known l.pass)
