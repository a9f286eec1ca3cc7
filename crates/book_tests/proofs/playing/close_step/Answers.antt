use Rattle.book_tests.specs.declared.held_ticket.HeldTicket.{HeldTicket}
use Rattle.book_tests.proofs.Tries.{held_still}
use Rattle.book_tests.proofs.playing.close_step.Goals as goal

pub returns : goal.returns
returns c = record {
  first = held_still {A = HeldTicket} (λ h. h.ticket) (λ h. h.by) c.args.book.now c.close.new.book c.args.held.first c.close.ensures.outs c.requires.held.first;
  second = held_still {A = HeldTicket} (λ h. h.ticket) (λ h. h.by) c.args.book.now c.close.new.book c.args.held.second c.close.ensures.outs c.requires.held.second;
  closed = c.close.ensures.closed;
}
