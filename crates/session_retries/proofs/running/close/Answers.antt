use Rattle.std.proofs.Common.{lit<, refl}
use denote.Param.Send.{sendable}
use Rattle.std.proofs.Crossing.{crosses}
use Rattle.book_turn.specs.Passes.{known}
use Rattle.cycle_eval.proofs.DesignsShared.{design_send, design_sync, inputs_send, inputs_sync, ops_send, ops_sync, state_send}
use Rattle.segment_verify.proofs.Openness.{open_now}
use Rattle.worker_scope.proofs.Sessions.{may_add, free_after}
use Rattle.session_retries.proofs.running.close.Goals as goal

pub close-requires-clause-open : goal.close-requires-clause-open
close-requires-clause-open g c κs = open_now _ _ _ c.deref_mut-book.ensures.value c.enter-boxed.ensures.learned c.requires.turn.kind c.requires.open

pub leave-requires-after_bounds : goal.leave-requires-after_bounds
leave-requires-after_bounds g c κs within = (
  lit< tt,
  (
    c.enter-boxed.ensures.turn,
    may_add _ _ (known c.enter-boxed.new.pass) _ _ _ _ c.enter-boxed.ensures.known c.deref_mut-book.ensures.value c.enter-boxed.ensures.learned c.close.ensures.settings c.close.ensures.events
        c.requires.turn.kind refl tt,
  ),
)

pub returns-clause-free : goal.returns-clause-free
returns-clause-free g c =
    free_after _ _ _ _ _ _ _ c.enter-boxed.ensures.known c.deref_mut-book.ensures.value c.enter-boxed.ensures.learned c.close.ensures.settings c.close.ensures.events c.leave.ensures.known c.requires.free refl

pub enter-boxed-requires-send-B : goal.enter-boxed-requires-send-B
enter-boxed-requires-send-B g c κs within = search (design_send, design_sync, state_send, inputs_send, inputs_sync, ops_send, ops_sync, sendable, crosses) depth 60 fits 100000

pub close-requires-send-M : goal.close-requires-send-M
close-requires-send-M g c κs = search (design_send, sendable, crosses) depth 40 fits 20000

pub close-requires-sync-M : goal.close-requires-sync-M
close-requires-sync-M g c κs = search (design_sync, sendable, crosses) depth 40 fits 20000

pub leave-requires-send-B : goal.leave-requires-send-B
leave-requires-send-B g c κs within = search (design_send, design_sync, state_send, inputs_send, inputs_sync, ops_send, ops_sync, sendable, crosses) depth 60 fits 100000
