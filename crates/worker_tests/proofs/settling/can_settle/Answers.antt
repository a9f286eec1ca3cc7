use Rattle.std.proofs.Common.{lit<, ◌+◌, ◌*◌}
use Rattle.book_turn.proofs.Turns.{goes_more}
use Rattle.turn_settle.proofs.Visiting.{may_look, free_look}
use Rattle.worker_tests.proofs.Settles.{look_open, look_own, look_room, look_opened}
use Rattle.worker_tests.proofs.settling.can_settle.Goals as goal

pub leave-requires-after_bounds : goal.leave-requires-after_bounds
leave-requires-after_bounds g c κs within = (
  lit< tt,
  (c.enter-boxed.ensures.turn, may_look _ _ _ _ c.enter-boxed.ensures.known c.deref_mut-book.ensures.value c.enter-boxed.ensures.learned),
)

pub returns-clause-free : goal.returns-clause-free
returns-clause-free g c =
    free_look _ _ _ _ c.enter-boxed.ensures.known c.deref_mut-book.ensures.value c.enter-boxed.ensures.learned _ c.leave.ensures.known c.requires.free

pub returns-clause-open : goal.returns-clause-open
returns-clause-open g c =
    look_open _ _ _ _ _ c.enter-boxed.ensures.known c.deref_mut-book.ensures.value c.enter-boxed.ensures.learned c.leave.ensures.known c.requires.open

pub returns-clause-goes : goal.returns-clause-goes
returns-clause-goes g c = goes_more _ _ _ c.enter-boxed.ensures.goes c.leave.ensures.goes

pub returns-clause-own : goal.returns-clause-own
returns-clause-own g c =
    look_own _ _ _ _ _ c.enter-boxed.ensures.known c.deref_mut-book.ensures.value c.enter-boxed.ensures.learned c.leave.ensures.known c.requires.turn.kind

pub returns-clause-opened : goal.returns-clause-opened
returns-clause-opened g c = λ yes.
    look_opened g.M.Machine.kit _ _ _ _ _ c.enter-boxed.ensures.known c.deref_mut-book.ensures.value c.enter-boxed.ensures.learned c.leave.ensures.known
    (c.has_room-answer.ensures.opened yes)

pub returns-clause-room : goal.returns-clause-room
returns-clause-room g c = λ yes.
    look_room _ _ _ _ _ c.enter-boxed.ensures.known c.deref_mut-book.ensures.value c.enter-boxed.ensures.learned c.leave.ensures.known
    (2 * c.args.passes + 1) c.requires.turn.kind (c.has_room-answer.ensures.room yes)
