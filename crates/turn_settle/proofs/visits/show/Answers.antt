use Rattle.std.proofs.Common.{lit<, refl}
use Rattle.turn_settle.proofs.Visiting.{room_now, may_add, free_behind, opened_now, shown_behind, is_visit}
use Rattle.turn_settle.proofs.visits.show.Goals as goal

pub show-answer-requires-clause-opened : goal.show-answer-requires-clause-opened
show-answer-requires-clause-opened g c κs within = opened_now g.M.Machine.kit _ _ _ c.deref_mut-book.ensures.value c.enter-boxed.ensures.learned c.requires.opened

pub show-answer-requires-clause-room : goal.show-answer-requires-clause-room
show-answer-requires-clause-room g c κs within = room_now _ _ _ 1 c.deref_mut-book.ensures.value c.enter-boxed.ensures.learned c.requires.turn.kind c.requires.room

pub leave-requires-after_bounds : goal.leave-requires-after_bounds
leave-requires-after_bounds g c κs within = (
  lit< tt,
  (
    c.enter-boxed.ensures.turn,
    may_add _ _ _ _ c.enter-boxed.ensures.known c.deref_mut-book.ensures.value c.enter-boxed.ensures.learned c.show-answer.new.self _ c.show-answer.ensures.settings c.show-answer.ensures.events
        c.requires.turn.kind refl tt,
  ),
)

pub returns-clause-free : goal.returns-clause-free
returns-clause-free g c =
    free_behind _ _ _ _ c.enter-boxed.ensures.known c.deref_mut-book.ensures.value c.enter-boxed.ensures.learned _ c.show-answer.new.self _ c.leave.ensures.known c.show-answer.ensures.events
    c.requires.free refl

pub returns-clause-visit : goal.returns-clause-visit
returns-clause-visit g c =
    is_visit g.M.Machine.kit g.M.Machine.valid _ _ _ _ _ _ c.show-answer.new.self c.enter-boxed.ensures.known c.deref_mut-book.ensures.value c.enter-boxed.ensures.learned
    c.show-answer.ensures.settings c.show-answer.ensures.events c.leave.ensures.known c.requires.turn.kind c.requires.own refl c.legal.ensures

pub returns-clause-answer : goal.returns-clause-answer
returns-clause-answer g c =
    shown_behind g.M.Machine.kit _ _ _ _ _ c.show-answer.new.self _ c.enter-boxed.ensures.known c.deref_mut-book.ensures.value c.enter-boxed.ensures.learned
    c.show-answer.ensures.settings c.show-answer.ensures.events c.leave.ensures.known c.show-answer.ensures.answer
