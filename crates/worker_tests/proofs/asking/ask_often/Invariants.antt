use Rattle.std.proofs.Common.{◌≡◌, true, false}
use Rattle.book_turn.specs.Passes.{IsOf, known}
use Rattle.book_turn.specs.Turns.{GoesOn}
use Rattle.segment_verify.specs.Workers.{is_closed, IsFree}
use Rattle.worker_tests.proofs.asking.ask_often.Given as goal

abbrev pub invariant-loop : goal.invariant-loop
invariant-loop g l = IsOf l.turn l.pass true × IsFree (known l.pass) × (is_closed (known l.pass).own ≡ false) × GoesOn (known l.fn.pass) (known l.pass)
