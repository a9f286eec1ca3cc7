use Rattle.std.proofs.Common.{false}
use Rattle.book_turn.specs.Passes.{IsOf, known}
use Rattle.book_history.specs.declared.who.Who.TheVariants.{Worker}
use Rattle.segment_verify.specs.Entries.{HasTurned}
use Rattle.segment_verify.specs.Workers.{IsFree}
use Rattle.segment_verify.proofs.worker.worker_loop.Given as goal

abbrev pub invariant-loop : goal.invariant-loop
invariant-loop g l = IsOf l.turn l.pass false × IsFree (known l.pass) × HasTurned (Worker l.number) (known l.fn.pass) (known l.pass)
