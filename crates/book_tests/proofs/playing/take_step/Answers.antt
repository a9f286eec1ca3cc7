use Rattle.std.proofs.Common.{sym, ◌∙◌}
use Rattle.book_tests.specs.declared.held_ticket.HeldTicket.{HeldTicket}
use Rattle.book_tests.proofs.Tries.{held_still, all_held}
use Rattle.book_tests.proofs.playing.take_step.Goals as goal

pub parted-other-requires-clause-first : goal.parted-other-requires-clause-first
parted-other-requires-clause-first c = held_still {A = HeldTicket} (λ h. h.ticket) (λ h. h.by) c.args.book.now c.take.new.book c.args.held.first c.take.ensures.keeps.outs c.requires.held.first

pub parted-other-requires-clause-second : goal.parted-other-requires-clause-second
parted-other-requires-clause-second c = held_still {A = HeldTicket} (λ h. h.ticket) (λ h. h.by) c.args.book.now c.take.new.book c.args.held.second c.take.ensures.keeps.outs c.requires.held.second

pub put-requires-clause-chosen : goal.put-requires-clause-chosen
put-requires-clause-chosen c =
    let drawn = rw c.in-Ok.is at c.in_ok-ticket.ensures.drawn in
    drawn

pub returns-in-Ok : goal.returns-in-Ok
returns-in-Ok c = record { first = c.put.ensures.first; second = c.put.ensures.second; closed = c.take.ensures.keeps.closed ∙ c.requires.held.closed ∙ sym c.put.ensures.closed }

pub returns-in-Err : goal.returns-in-Err
returns-in-Err c = all_held _ _ _ _ _ _ _ c.take.ensures.keeps c.requires.held
