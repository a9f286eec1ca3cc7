use denote.Param.Send.{sendable}
use Rattle.std.proofs.Crossing.{crosses}
use Rattle.cycle_eval.proofs.DesignsShared.{design_send, design_sync}
use Rattle.replay_tests.proofs.history_tests.no_entry.Goals as goal

pub empty-requires-send-M : goal.empty-requires-send-M
empty-requires-send-M c κs = search (design_send, sendable, crosses) depth 40 fits 20000

pub empty-requires-sync-M : goal.empty-requires-sync-M
empty-requires-sync-M c κs = search (design_sync, sendable, crosses) depth 40 fits 20000
