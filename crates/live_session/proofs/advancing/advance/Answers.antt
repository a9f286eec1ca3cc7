use denote.Param.Send.{sendable}
use Rattle.std.proofs.Crossing.{crosses}
use Rattle.cycle_eval.proofs.DesignsShared.{design_send, design_sync}
use Rattle.live_session.proofs.advancing.advance.Goals as goal

pub run-requires-send-M : goal.run-requires-send-M
run-requires-send-M g c κs within = search (design_send, sendable, crosses) depth 40

pub run-requires-sync-M : goal.run-requires-sync-M
run-requires-sync-M g c κs within = search (design_sync, sendable, crosses) depth 40
