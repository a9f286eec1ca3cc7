use Rattle.std.proofs.Common.{refl}
use Rattle.book_tests.proofs.Tries.{keeps_one, keeps_none}
use Rattle.book_tests.proofs.ticket_calls.take_open.Goals as goal

pub returns-in_err-ticket-clause-keeps : goal.returns-in_err-ticket-clause-keeps
returns-in_err-ticket-clause-keeps c = keeps_none c.args.book.now c.claim.new.self c.claim.ensures.settings c.in_err-ticket.ensures.err.0

pub returns-in-Ticket-clause-keeps : goal.returns-in-Ticket-clause-keeps
returns-in-Ticket-clause-keeps c =
    let drawn = rw c.in-Ticket.is at c.in_ok-ticket.ensures.answer in
    keeps_one c.args.book.now c.claim.new.self _ c.claim.ensures.settings drawn.0.events refl (λ n. refl)

pub returns-in-Ticket-clause-drawn : goal.returns-in-Ticket-clause-drawn
returns-in-Ticket-clause-drawn c =
    let drawn = rw c.in-Ticket.is at c.in_ok-ticket.ensures.answer in
    drawn.0.is_out
