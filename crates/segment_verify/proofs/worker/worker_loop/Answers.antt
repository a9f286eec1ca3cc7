use Rattle.std.proofs.Common.{ap, ◌∙◌, Ok}
use Rattle.book_turn.specs.Passes.{known}
use Rattle.segment_verify.proofs.Turns.{turned_by}
use Rattle.segment_verify.proofs.worker.worker_loop.Goals as goal

pub loop-preserved-in-Ok-Ticket : goal.loop-preserved-in-Ok-Ticket
loop-preserved-in-Ok-Ticket g c = (
  c.work_on.ensures.turn,
  c.work_on.ensures.free,
  turned_by _ _ _ (known c.claim.new.pass) _ _ _ (c.in-Ok-Ticket.is ∙ ap (λ a. Ok a) c.in-Ok-Ticket.field-0-is) c.loop.invariant.2 c.claim.ensures.entries c.work_on.ensures.entries,
)
