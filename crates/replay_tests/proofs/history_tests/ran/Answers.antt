use denote.Param.Send.{sendable}
use Rattle.std.proofs.Crossing.{crosses}
use Rattle.cycle_eval.proofs.DesignsShared.{design_send, design_sync}
use Rattle.replay_tests.proofs.history_tests.ran.Goals as goal

pub new-requires-3-send-M : goal.new-requires-3-send-M
new-requires-3-send-M g c κs = search (design_send, sendable, crosses) depth 40 fits 20000

pub new-requires-3-sync-M : goal.new-requires-3-sync-M
new-requires-3-sync-M g c κs = search (design_sync, sendable, crosses) depth 40 fits 20000

pub push_open-requires-send-M : goal.push_open-requires-send-M
push_open-requires-send-M g c κs = search (design_send, sendable, crosses) depth 40 fits 20000

pub push_open-requires-sync-M : goal.push_open-requires-sync-M
push_open-requires-sync-M g c κs = search (design_sync, sendable, crosses) depth 40 fits 20000

pub push_run-requires-send-M : goal.push_run-requires-send-M
push_run-requires-send-M g c κs = search (design_send, sendable, crosses) depth 40 fits 20000

pub push_run-requires-sync-M : goal.push_run-requires-sync-M
push_run-requires-sync-M g c κs = search (design_sync, sendable, crosses) depth 40 fits 20000

pub push-requires-send-M : goal.push-requires-send-M
push-requires-send-M g c κs = search (design_send, sendable, crosses) depth 40 fits 20000

pub push-requires-sync-M : goal.push-requires-sync-M
push-requires-sync-M g c κs = search (design_sync, sendable, crosses) depth 40 fits 20000

pub into_history-requires-send-M : goal.into_history-requires-send-M
into_history-requires-send-M g c κs = search (design_send, sendable, crosses) depth 40 fits 20000

pub into_history-requires-sync-M : goal.into_history-requires-sync-M
into_history-requires-sync-M g c κs = search (design_sync, sendable, crosses) depth 40 fits 20000
