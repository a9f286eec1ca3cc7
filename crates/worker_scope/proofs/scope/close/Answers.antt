use Rattle.std.proofs.Common.{lit<, refl}
use Rattle.book_turn.specs.Passes.{known}
use Rattle.book_turn.proofs.Turns.{one_turn}
use Rattle.segment_verify.proofs.Openness.{open_now}
use Rattle.worker_scope.proofs.Sessions.{may_add, free_after}
use Rattle.worker_scope.proofs.scope.close.Goals as goal

pub close-requires-clause-open : goal.close-requires-clause-open
close-requires-clause-open g c κs within = open_now _ _ _ c.deref_mut-book.ensures.value c.enter-boxed.ensures.learned c.requires.turn.kind c.requires.open

pub leave-requires-after_bounds : goal.leave-requires-after_bounds
leave-requires-after_bounds g c κs within = (
  lit< tt,
  (
    c.enter-boxed.ensures.turn,
    may_add _ _ (known c.enter-boxed.new.pass) _ _ _ _ c.enter-boxed.ensures.known c.deref_mut-book.ensures.value c.enter-boxed.ensures.learned c.close.ensures.settings c.close.ensures.events
        c.requires.turn.kind refl tt,
  ),
)

pub returns-clause-free : goal.returns-clause-free
returns-clause-free g c =
    free_after _ _ _ _ _ _ _ c.enter-boxed.ensures.known c.deref_mut-book.ensures.value c.enter-boxed.ensures.learned c.close.ensures.settings c.close.ensures.events c.leave.ensures.known c.requires.free refl

pub returns-clause-closed : goal.returns-clause-closed
returns-clause-closed g c =
    one_turn _ _ _ _ _ _ c.close.new.self c.enter-boxed.ensures.known c.deref_mut-book.ensures.value c.enter-boxed.ensures.learned c.close.ensures.events c.leave.ensures.known
