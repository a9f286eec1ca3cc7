use Rattle.std.proofs.Common.{refl}
use Rattle.book_tests.proofs.Tries.{keeps_one, keeps_none}
use Rattle.book_tests.proofs.ticket_calls.take_first.Goals as goal

pub returns-in_err-ticket-clause-keeps : goal.returns-in_err-ticket-clause-keeps
returns-in_err-ticket-clause-keeps c = keeps_none c.args.book.now c.claim_first.new.self c.claim_first.ensures.settings c.in_err-ticket.ensures.err.0

pub returns-in-Some-clause-keeps : goal.returns-in-Some-clause-keeps
returns-in-Some-clause-keeps c =
    let drawn = rw c.in-Some.is at c.in_ok-ticket.ensures.answer in
    keeps_one c.args.book.now c.claim_first.new.self _ c.claim_first.ensures.settings drawn.0.events refl (λ n. refl)

pub returns-in-Some-clause-drawn : goal.returns-in-Some-clause-drawn
returns-in-Some-clause-drawn c =
    let drawn = rw c.in-Some.is at c.in_ok-ticket.ensures.answer in
    drawn.0.is_out
