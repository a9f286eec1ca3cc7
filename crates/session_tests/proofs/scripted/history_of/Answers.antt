use denote.Param.Send.{sendable}
use Rattle.std.proofs.Crossing.{crosses}
use Rattle.cycle_eval.proofs.DesignsShared.{design_send, design_sync, inputs_send, inputs_sync, ops_send, ops_sync, state_send}
use Rattle.session_tests.proofs.scripted.history_of.Goals as goal

pub finish-requires-send-B : goal.finish-requires-send-B
finish-requires-send-B g c κs within = search (design_send, design_sync, state_send, inputs_send, inputs_sync, ops_send, ops_sync, sendable, crosses) depth 60 fits 100000

pub into_history-requires-send-M : goal.into_history-requires-send-M
into_history-requires-send-M g c κs = search (design_send, sendable, crosses) depth 40 fits 20000

pub into_history-requires-sync-M : goal.into_history-requires-sync-M
into_history-requires-sync-M g c κs = search (design_sync, sendable, crosses) depth 40 fits 20000
