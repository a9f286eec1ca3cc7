use Rattle.std.proofs.Common.{lit<, sym}
use Rattle.book_history.specs.declared.who.Who.TheVariants.{Session}
use Rattle.book_turn.specs.Passes.{known}
use Rattle.segment_verify.proofs.Turns.{may_claim, has_drawn}
use Rattle.segment_verify.proofs.Openness.{open_now}
use Rattle.turn_settle.proofs.Visiting.{room_now, book_left, asked, claim_adds, claim_owned, all_joined_then, is_visit}
use Rattle.turn_settle.proofs.visits.claim.Goals as goal

pub claim_first-answer-requires-clause-open : goal.claim_first-answer-requires-clause-open
claim_first-answer-requires-clause-open g c κs within = open_now _ _ _ c.deref_mut-book.ensures.value c.enter-boxed.ensures.learned c.requires.turn.kind c.requires.open

pub claim_first-answer-requires-clause-room : goal.claim_first-answer-requires-clause-room
claim_first-answer-requires-clause-room g c κs within = room_now _ _ _ 2 c.deref_mut-book.ensures.value c.enter-boxed.ensures.learned c.requires.turn.kind c.requires.room

pub leave-requires-after_bounds : goal.leave-requires-after_bounds
leave-requires-after_bounds g c κs within = (
  lit< tt,
  (
    c.enter-boxed.ensures.turn,
    may_claim g.M.Machine.kit _ _ _ _ c.claim_first-answer.new.self Session _ c.enter-boxed.ensures.known c.deref_mut-book.ensures.value c.enter-boxed.ensures.learned (sym c.requires.turn.kind)
        c.claim_first-answer.ensures.settings
        (asked g.M.Machine.kit _ c.claim_first-answer.new.self c.claim_first-answer.result c.claim_first-answer.ensures.answer c.claim_first-answer.ensures.err),
  ),
)

pub returns-clause-drawn : goal.returns-clause-drawn
returns-clause-drawn g c =
    has_drawn g.M.Machine.kit _ _ _ _ _ c.claim_first-answer.new.self Session _ c.enter-boxed.ensures.known c.leave.ensures.known c.deref_mut-book.ensures.value c.requires.free c.enter-boxed.ensures.learned
    c.claim_first-answer.ensures.settings
    (asked g.M.Machine.kit _ c.claim_first-answer.new.self c.claim_first-answer.result c.claim_first-answer.ensures.answer c.claim_first-answer.ensures.err)

pub returns-clause-visit : goal.returns-clause-visit
returns-clause-visit g c =
    is_visit g.M.Machine.kit g.M.Machine.valid _ _ _ _ _ _ c.claim_first-answer.new.self c.enter-boxed.ensures.known c.deref_mut-book.ensures.value c.enter-boxed.ensures.learned
    c.claim_first-answer.ensures.settings
    (claim_adds g.M.Machine.kit _ c.claim_first-answer.new.self _
    (asked g.M.Machine.kit _ c.claim_first-answer.new.self c.claim_first-answer.result c.claim_first-answer.ensures.answer c.claim_first-answer.ensures.err))
    c.leave.ensures.known c.requires.turn.kind c.requires.own (claim_owned g.M.Machine.kit _) c.legal.ensures

pub returns-clause-settled : goal.returns-clause-settled
returns-clause-settled g c =
    all_joined_then g.M.Machine.kit (known c.leave.new.pass) _ c.claim_first-answer.new.self c.claim_first-answer.result
    (book_left g.M.Machine.kit _ _ _ _ _ c.claim_first-answer.new.self c.enter-boxed.ensures.known c.deref_mut-book.ensures.value c.enter-boxed.ensures.learned c.claim_first-answer.ensures.settings c.leave.ensures.known)
    c.claim_first-answer.ensures.settings c.claim_first-answer.ensures.answer c.claim_first-answer.ensures.settled
