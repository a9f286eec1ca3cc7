use Rattle.std.proofs.Common.{lit<, refl, sym}
use Rattle.segment_verify.proofs.Turns.{out_now, may_use, is_free}
use Rattle.turn_settle.proofs.Visiting.{room_now, is_visit}
use Rattle.turn_settle.proofs.visits.release.Goals as goal

pub release-requires-clause-out : goal.release-requires-clause-out
release-requires-clause-out g c κs within = out_now g.M.Machine.kit _ _ _ _ _ c.deref_mut-book.ensures.value c.enter-boxed.ensures.learned c.requires.ticket

pub release-requires-clause-room : goal.release-requires-clause-room
release-requires-clause-room g c κs within = room_now _ _ _ 1 c.deref_mut-book.ensures.value c.enter-boxed.ensures.learned c.requires.turn.kind c.requires.room

pub leave-requires-after_bounds : goal.leave-requires-after_bounds
leave-requires-after_bounds g c κs within = (
  lit< tt,
  (
    c.enter-boxed.ensures.turn,
    may_use g.M.Machine.kit _ _ _ _ _ c.args.ticket _ _ c.enter-boxed.ensures.known c.deref_mut-book.ensures.value c.enter-boxed.ensures.learned c.requires.ticket
        c.release.ensures.settings c.release.ensures.events (sym c.requires.turn.kind) (λ m. m),
  ),
)

pub returns-clause-free : goal.returns-clause-free
returns-clause-free g c =
    is_free g.M.Machine.kit _ _ _ _ _ c.release.new.self c.args.ticket _ _ c.enter-boxed.ensures.known c.leave.ensures.known c.deref_mut-book.ensures.value c.requires.ticket c.release.ensures.events refl

pub returns-clause-visit : goal.returns-clause-visit
returns-clause-visit g c =
    is_visit g.M.Machine.kit g.M.Machine.valid _ _ _ _ _ _ c.release.new.self c.enter-boxed.ensures.known c.deref_mut-book.ensures.value c.enter-boxed.ensures.learned
    c.release.ensures.settings c.release.ensures.events c.leave.ensures.known c.requires.turn.kind c.requires.own refl c.legal.ensures
