use Rattle.std.proofs.Common.{lit<, refl, sym}
use Rattle.segment_verify.proofs.Turns.{out_now, may_use, is_free}
use Rattle.turn_settle.proofs.Visiting.{room_now, is_visit, installed_by}
use Rattle.turn_settle.proofs.visits.install.Goals as goal

pub install-requires-clause-out : goal.install-requires-clause-out
install-requires-clause-out g c κs within = out_now g.M.Machine.kit _ _ _ _ _ c.deref_mut-book.ensures.value c.enter-boxed.ensures.learned c.requires.ticket

pub install-requires-clause-room : goal.install-requires-clause-room
install-requires-clause-room g c κs within = room_now _ _ _ 1 c.deref_mut-book.ensures.value c.enter-boxed.ensures.learned c.requires.turn.kind c.requires.room

pub leave-requires-after_bounds : goal.leave-requires-after_bounds
leave-requires-after_bounds g c κs within = (
  lit< tt,
  (
    c.enter-boxed.ensures.turn,
    may_use g.M.Machine.kit _ _ _ _ _ c.args.verified _ _ c.enter-boxed.ensures.known c.deref_mut-book.ensures.value c.enter-boxed.ensures.learned c.requires.ticket
        c.install.ensures.settings c.install.ensures.events (sym c.requires.turn.kind) (λ m. m),
  ),
)

pub returns-clause-free : goal.returns-clause-free
returns-clause-free g c =
    is_free g.M.Machine.kit _ _ _ _ _ c.install.new.self c.args.verified _ _ c.enter-boxed.ensures.known c.leave.ensures.known c.deref_mut-book.ensures.value c.requires.ticket c.install.ensures.events refl

pub returns-clause-installed : goal.returns-clause-installed
returns-clause-installed g c =
    installed_by g.M.Machine.kit g.M.Machine.valid _ _ _
    (is_visit g.M.Machine.kit g.M.Machine.valid _ _ _ _ _ _ c.install.new.self c.enter-boxed.ensures.known c.deref_mut-book.ensures.value c.enter-boxed.ensures.learned
    c.install.ensures.settings c.install.ensures.events c.leave.ensures.known c.requires.turn.kind c.requires.own refl c.legal.ensures)
