use Rattle.segment_verify.proofs.Passing.{claimed_room, rises}
use Rattle.segment_verify.proofs.book_settle.pass.Goals as goal

pub install-requires-clause-room : goal.install-requires-clause-room
install-requires-clause-room g c κs within =
    let drawn = rw c.in-Some.is at c.in_ok-ticket.ensures.answer in
    claimed_room c.args.book.now c.claim_first.new.self _ _ _ c.claim_first.ensures.settings drawn.0.events c.requires.room

pub release-requires-clause-room : goal.release-requires-clause-room
release-requires-clause-room g c κs within =
    let drawn = rw c.in-Some.is at c.in_ok-ticket.ensures.answer in
    claimed_room c.args.book.now c.claim_first.new.self _ _ _ c.claim_first.ensures.settings drawn.0.events c.requires.room

pub returns-in-Done-clause-ok : goal.returns-in-Done-clause-ok
returns-in-Done-clause-ok g c =
    let drawn = rw c.in-Some.is at c.in_ok-ticket.ensures.answer in
    rises g.M.Machine.kit g.M.Machine.valid c.legal_histories.ensures.settles c.args.book.now c.claim_first.new.self c.install.new.self _ _ _ c.claim_first.ensures.settings c.install.ensures.settings drawn.0
    c.in-Done.ensures.ticket c.install.ensures.events c.legal.ensures
