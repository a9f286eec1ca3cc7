use Rattle.std.proofs.Common.{ap}
use denote.Param.Send.{sendable}
use Rattle.std.proofs.Crossing.{crosses}
use Rattle.book_history.specs.Book.{Settings as BookSettings}
use Rattle.cycle_eval.proofs.DesignsShared.{design_send, design_sync, inputs_send, inputs_sync, ops_send, ops_sync, state_send}
use Rattle.live_session.proofs.StandingAtTurn.{made_at}
use Rattle.session_retries.proofs.running.run.Goals as goal

pub new-requires-2-send-M : goal.new-requires-2-send-M
new-requires-2-send-M g c κs = search (design_send, sendable, crosses) depth 40 fits 20000

pub new-requires-2-sync-M : goal.new-requires-2-sync-M
new-requires-2-sync-M g c κs = search (design_sync, sendable, crosses) depth 40 fits 20000

pub make-requires-send-B : goal.make-requires-send-B
make-requires-send-B g c κs within = search (design_send, design_sync, state_send, inputs_send, inputs_sync, ops_send, ops_sync, sendable, crosses) depth 60 fits 100000

pub first_wrong-requires-clause-at : goal.first_wrong-requires-clause-at
first_wrong-requires-clause-at g c κs within =
    made_at _ _ _ c.in_ok-turn.ensures.1 c.in_ok-book.ensures.events
    (c.in_ok-session.ensures.beside _ c.in_ok-book.ensures.events (ap (λ (s : BookSettings). s.rooms) c.in_ok-book.ensures.settings))

pub finish-requires-send-B : goal.finish-requires-send-B
finish-requires-send-B g c κs within = search (design_send, design_sync, state_send, inputs_send, inputs_sync, ops_send, ops_sync, sendable, crosses) depth 60 fits 100000

pub into_history-history-requires-send-M : goal.into_history-history-requires-send-M
into_history-history-requires-send-M g c κs = search (design_send, sendable, crosses) depth 40 fits 20000

pub into_history-history-requires-sync-M : goal.into_history-history-requires-sync-M
into_history-history-requires-sync-M g c κs = search (design_sync, sendable, crosses) depth 40 fits 20000
